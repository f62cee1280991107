-- Running out: turns bring each session to its end, and however many do so, what they make is the same.
use Rattle.std.proofs.Common.{◌≡◌, ℕ, zero, suc, ◌+◌, ◌<◌, ◌≤◌, ◌⊎◌, inl, inr, true, false, nat_eq, List, [], ◌∷◌, ◌++◌, length, replicate, refl, sym, ap, subst, ◌∙◌, arith, eqb-true, Option, Some, None}
use Rattle.std.specs.Prelude.{slice_get}
use Rattle.std.proofs.lemmas.Bool.{eqb-false}
use Rattle.cg_walk.specs.Walk.{weight}
use Rattle.cg_sharing.specs.Command.{Line}
use Rattle.cg_sharing.specs.Versions.{State, StartModel, start_of}
use Rattle.cg_sharing.specs.Journal.{Act, answer_of, changed_by}
use Rattle.cg_courses.specs.Course.{Calibration, Place, first_act, next_of, next, settled, entrance_of, went}
use Rattle.cg_courses.specs.Interleaving.{World, place_of, turn, turns_taken, begins, begun, acts_left, line_done, lines_done, lines_left, run_out_from, run_out, interleaving, AreTurns, RunsOut, RunOut, IsInterleaving, some_stopped, TurnsDecide}
use Rattle.cg_courses.proofs.CourseLemmas.{Rests, IsNearer, rests-settled, went_nears}
use Rattle.cg_courses.proofs.TurnLemmas.{turn_passes, turn_rests, turn_own, turn_others, plain_turn, turns_are, IsIdle, idle_end, IsGone, gone_run_out, no_stop}

pub turns_taken-append : (calibration : Calibration) (xs ys : List ℕ) (world : World) → turns_taken calibration (xs ++ ys) world ≡ turns_taken calibration ys (turns_taken calibration xs world)
turns_taken-append calibration [] ys world = refl
turns_taken-append calibration (x ∷ xs) ys world = turns_taken-append calibration xs ys (turn calibration x world)

replicate-plus : (m n k : ℕ) → replicate (m + n) k ≡ replicate m k ++ replicate n k
replicate-plus zero n k = let none : 0 + n ≡ n = omega arith in ap (λ j. replicate j k) none
replicate-plus (suc m) n k = let one : suc m + n ≡ suc (m + n) = omega arith in ap (λ j. replicate j k) one ∙ ap (λ l. k ∷ l) (replicate-plus m n k)

turns-plus : (calibration : Calibration) (session i j : ℕ) (world : World) →
    turns_taken calibration (replicate (i + j) session) world ≡ turns_taken calibration (replicate j session) (turns_taken calibration (replicate i session) world)
turns-plus calibration session i j world = ap (λ l. turns_taken calibration l world) (replicate-plus i j session) ∙ turns_taken-append calibration (replicate i session) (replicate j session) world

-- the rounds of a session are turns of it
pub rounds_are_turns : (calibration : Calibration) (session lines : ℕ) (world : World) → (turns : ℕ) × (lines_done calibration session lines world ≡ turns_taken calibration (replicate turns session) world)
rounds_are_turns calibration session zero world = (0, refl)
rounds_are_turns calibration session (suc lines) world =
    let first = acts_left (place_of session world.places) in
    let rest = rounds_are_turns calibration session lines (line_done calibration session world) in
    (first + rest.0, rest.1 ∙ sym (turns-plus calibration session first rest.0 world))

idle_turn : (calibration : Calibration) (session : ℕ) (world : World) → IsIdle (place_of session world.places) → turn calibration session world ≡ world
idle_turn calibration session world idle = of_place (place_of session world.places) refl idle
  where
    of_place : (p : Option Place) → place_of session world.places ≡ p → IsIdle p → turn calibration session world ≡ world
    of_place None here idle = turn_passes calibration session world here
    of_place (Some place) here idle = turn_rests calibration session world place here idle

idle_turns : (calibration : Calibration) (session turns : ℕ) (world : World) → IsIdle (place_of session world.places) → turns_taken calibration (replicate turns session) world ≡ world
idle_turns calibration session zero world idle = refl
idle_turns calibration session (suc turns) world idle = ap (λ w. turns_taken calibration (replicate turns session) w) (idle_turn calibration session world idle) ∙ idle_turns calibration session turns world idle

-- Two numbers of turns that both bring a session to its end make the same world.
pub ends_same : (calibration : Calibration) (session i j : ℕ) (world : World) → IsIdle (place_of session (turns_taken calibration (replicate i session) world).places) →
    IsIdle (place_of session (turns_taken calibration (replicate j session) world).places) → turns_taken calibration (replicate i session) world ≡ turns_taken calibration (replicate j session) world
ends_same calibration session i j world first second =
    sym (idle_turns calibration session j (turns_taken calibration (replicate i session) world) first) ∙ sym (turns-plus calibration session i j world)
    ∙ ap (λ n. turns_taken calibration (replicate n session) world) (swap i j) ∙ turns-plus calibration session j i world
    ∙ idle_turns calibration session i (turns_taken calibration (replicate j session) world) second
  where
    swap : (a b : ℕ) → a + b ≡ b + a
    swap a b = omega arith

-- A place at rest with no line left has no next act.
pub rest_idle : (place : Place) → Rests place → place.left ≡ [] → next place ≡ None
rest_idle place rests none =
    ap (λ todo. next_of todo (first_act place place.left)) (rests.idle none) ∙ ap (λ lines. first_act place lines) none

-- The session is at rest, and has so many lines left at most, or one more, of which the first can need fewer than so many acts.
abbrev IsNearBy : Place → ℕ → ℕ → Type 0
IsNearBy place lines weighs = (length place.left ≤ lines) ⊎ ((length place.left ≤ suc lines) × (weight place.todo < weighs))

record IsNear (session : ℕ) (world : World) (lines weighs : ℕ) : Type 0 where
  place : Place
  here : place_of session world.places ≡ Some place
  rests : Rests place
  near : IsNearBy place lines weighs

near_on : (old new : Place) (lines weighs : ℕ) → IsNearBy old lines (suc weighs) → IsNearer new old → IsNearBy new lines weighs
near_on old new lines weighs (inl few) (inl fewer) = inl (omega arith)
near_on old new lines weighs (inl few) (inr less) = let le = less.0 in inl (omega arith)
near_on old new lines weighs (inr few) (inl fewer) = let le = few.0 in inl (omega arith)
near_on old new lines weighs (inr few) (inr less) = let a = few.0 in let b = few.1 in let c = less.0 in let d = less.1 in inr (omega arith, omega arith)

no_length : (lines : List Line) (n : ℕ) → lines ≡ [] → length lines ≤ n
no_length lines n none = omega (arith, ap (λ (l : List Line). length l) none)

turn_nears : (calibration : Calibration) (session : ℕ) (world : World) (lines weighs : ℕ) → IsNear session world lines (suc weighs) → IsNear session (turn calibration session world) lines weighs
turn_nears calibration session world lines weighs has = of_act (next has.place) refl
  where
    of_act : (act : Option Act) → next has.place ≡ act → IsNear session (turn calibration session world) lines weighs
    of_act None none =
        subst (λ (w : World). IsNear session w lines weighs) (sym (turn_rests calibration session world has.place has.here none))
        (record { place = has.place; here = has.here; rests = has.rests; near = inl (no_length has.place.left lines (has.rests.ends none)) })
    of_act (Some act) is =
        let state = changed_by act (answer_of world.shared act) world.shared.state in
        let new = went calibration state (answer_of world.shared act) has.place in
        let nears = went_nears calibration state world.shared has.place act has.rests is in
        record { place = new; here = turn_own calibration session world has.place act has.here is; rests = nears.0; near = near_on has.place new lines weighs has.near nears.1 }

turns_near : (calibration : Calibration) (session weighs : ℕ) (world : World) (lines : ℕ) → IsNear session world lines weighs → IsNear session (turns_taken calibration (replicate weighs session) world) lines 0
turns_near calibration session zero world lines has = has
turns_near calibration session (suc weighs) world lines has = turns_near calibration session weighs (turn calibration session world) lines (turn_nears calibration session world lines weighs has)

few_lines : (place : Place) (lines : ℕ) → IsNearBy place lines 0 → length place.left ≤ lines
few_lines place lines (inl few) = few
few_lines place lines (inr none) = absurd (let never = none.1 in omega arith)

-- the session is at rest, and has so many lines left at most
record HasLeft (session : ℕ) (world : World) (lines : ℕ) : Type 0 where
  place : Place
  here : place_of session world.places ≡ Some place
  rests : Rests place
  few : length place.left ≤ lines

-- As many turns as its first line can need leave a line less.
line_shortens : (calibration : Calibration) (session : ℕ) (world : World) (lines : ℕ) → HasLeft session world (suc lines) → HasLeft session (line_done calibration session world) lines
line_shortens calibration session world lines has =
    let weighs = weight has.place.todo + 1 in
    let before : IsNear session world lines weighs = record { place = has.place; here = has.here; rests = has.rests; near = inr (has.few, omega arith) } in
    let end = turns_near calibration session weighs world lines before in
    let W : ℕ → Type 0 = λ n. HasLeft session (turns_taken calibration (replicate n session) world) lines in
    subst W (sym (ap (λ p. acts_left p) has.here)) (record { place = end.place; here = end.here; rests = end.rests; few = few_lines end.place lines end.near })

lines_end : (calibration : Calibration) (session lines : ℕ) (world : World) → HasLeft session world lines → HasLeft session (lines_done calibration session lines world) 0
lines_end calibration session zero world has = has
lines_end calibration session (suc lines) world has = lines_end calibration session lines (line_done calibration session world) (line_shortens calibration session world lines has)

no_lines : (lines : List Line) → length lines ≤ 0 → lines ≡ []
no_lines [] few = refl
no_lines (line ∷ lines) few = absurd (omega arith)

-- each session is at rest
abbrev pub AllRest : World → Type 0
AllRest world = (session : ℕ) (place : Place) → place_of session world.places ≡ Some place → Rests place

-- As many rounds as a session has lines left bring it to its end.
pub lines_idle : (calibration : Calibration) (session : ℕ) (world : World) → AllRest world → IsIdle (place_of session (lines_done calibration session (lines_left (place_of session world.places)) world).places)
lines_idle calibration session world rest = of_place (place_of session world.places) refl
  where
    of_place : (p : Option Place) → place_of session world.places ≡ p → IsIdle (place_of session (lines_done calibration session (lines_left p) world).places)
    of_place None here = subst (λ (p : Option Place). IsIdle p) (sym here) tt
    of_place (Some place) here =
        let has : HasLeft session world (length place.left) = record { place = place; here = here; rests = rest session place here; few = omega arith } in
        let end = lines_end calibration session (length place.left) world has in
        subst (λ (p : Option Place). IsIdle p) (sym end.here) (rest_idle end.place end.rests (no_lines end.place.left end.few))

rest_own : (calibration : Calibration) (session : ℕ) (world : World) → AllRest world → (place : Place) → place_of session (turn calibration session world).places ≡ Some place → Rests place
rest_own calibration session world rest place at = of_place (place_of session world.places) refl
  where
    of_act : (p : Place) (act : Option Act) → place_of session world.places ≡ Some p → next p ≡ act → Rests place
    of_act p None here none =
        rest session place (ap (λ (w : World). place_of session w.places) (sym (turn_rests calibration session world p here none)) ∙ at)
    of_act p (Some act) here is =
        let state = changed_by act (answer_of world.shared act) world.shared.state in
        let new = went calibration state (answer_of world.shared act) p in
        let both : Some new ≡ Some place = sym (turn_own calibration session world p act here is) ∙ at in
        let same : new ≡ place = cc in
        subst (λ (q : Place). Rests q) same (went_nears calibration state world.shared p act (rest session p here) is).0

    of_place : (p : Option Place) → place_of session world.places ≡ p → Rests place
    of_place None here = rest session place (ap (λ (w : World). place_of session w.places) (sym (turn_passes calibration session world here)) ∙ at)
    of_place (Some p) here = of_act p (next p) here refl

-- turns leave each at rest
rest_turn : (calibration : Calibration) (session : ℕ) (world : World) → AllRest world → AllRest (turn calibration session world)
rest_turn calibration session world rest = λ number place at.
    elim (nat_eq number session) as (λ b. nat_eq number session ≡ b → Rests place) [
      | true ↦ λ is.
          let same = eqb-true number session is in
          rest_own calibration session world rest place (ap (λ k. place_of k (turn calibration session world).places) (sym same) ∙ at)
      | false ↦ λ is.
          let stays = turn_others calibration number session world (turn calibration session world) (eqb-false number session is) (plain_turn calibration session world) in
          rest number place (sym stays ∙ at)
    ] refl

pub rest_turns : (calibration : Calibration) (turns : List ℕ) (world : World) → AllRest world → AllRest (turns_taken calibration turns world)
rest_turns calibration [] world rest = rest
rest_turns calibration (session ∷ turns) world rest = rest_turns calibration turns (turn calibration session world) (rest_turn calibration session world rest)

rest_lines : (calibration : Calibration) (session lines : ℕ) (world : World) → AllRest world → AllRest (lines_done calibration session lines world)
rest_lines calibration session zero world rest = rest
rest_lines calibration session (suc lines) world rest =
    rest_lines calibration session lines (line_done calibration session world) (rest_turns calibration (replicate (acts_left (place_of session world.places)) session) world rest)

rest_begins : (calibration : Calibration) (start : State) (session : ℕ) (scripts : List (List Line)) (i : ℕ) (place : Place) → slice_get (begins calibration start session scripts) i ≡ Some place → Rests place
rest_begins calibration start session [] i place at = absurd (cc)
rest_begins calibration start session (script ∷ scripts) zero place at =
    let same : settled calibration start script (entrance_of session) ≡ place = cc in
    subst (λ (q : Place). Rests q) same (rests-settled calibration start script (entrance_of session))
rest_begins calibration start session (script ∷ scripts) (suc i) place at = rest_begins calibration start (session + 1) scripts i place at

pub rest_begun : (calibration : Calibration) (models : List StartModel) (capacity : ℕ) (scripts : List (List Line)) → AllRest (begun calibration models capacity scripts)
rest_begun calibration models capacity scripts zero place at = absurd (cc)
rest_begun calibration models capacity scripts (suc i) place at = rest_begins calibration (start_of models) 1 scripts i place at

-- such a place has no next act
pub idle_over : (place : Option Place) → IsIdle place → (p : Place) → place ≡ Some p → next p ≡ None
idle_over None idle p is = absurd (cc)
idle_over (Some place) idle p is = let same : place ≡ p = cc in ap (λ q. next q) (sym same) ∙ idle

lines_run_out : (calibration : Calibration) (session : ℕ) (world : World) → AllRest world → RunsOut calibration session world (lines_done calibration session (lines_left (place_of session world.places)) world)
lines_run_out calibration session world rest =
    let lines = lines_left (place_of session world.places) in
    let new = lines_done calibration session lines world in
    let rounds = rounds_are_turns calibration session lines world in
    record {
      turns = rounds.0;
      taken = subst (λ (w : World). AreTurns calibration (replicate rounds.0 session) world w) (sym rounds.1) (turns_are calibration (replicate rounds.0 session) world);
      over = idle_over (place_of session new.places) (lines_idle calibration session world rest);
    }

-- Sessions at rest run out in rounds.
pub rounds_run_out : (calibration : Calibration) (session sessions : ℕ) (world : World) → AllRest world → RunOut calibration session sessions world (run_out_from calibration session sessions world)
rounds_run_out calibration session zero world rest = refl
rounds_run_out calibration session (suc sessions) world rest =
    let lines = lines_left (place_of session world.places) in
    let new = lines_done calibration session lines world in
    (new, lines_run_out calibration session world rest, rounds_run_out calibration (session + 1) sessions new (rest_lines calibration session lines world rest))

-- The interleaving is one.
pub interleaving_is : (calibration : Calibration) (models : List StartModel) (capacity : ℕ) (scripts : List (List Line)) (turns : List ℕ) → IsInterleaving calibration models capacity scripts turns (interleaving calibration models capacity scripts turns)
interleaving_is calibration models capacity scripts turns =
    let first = begun calibration models capacity scripts in
    let met = turns_taken calibration turns first in
    let rest = rest_turns calibration turns first (rest_begun calibration models capacity scripts) in
    record { met = met; taken = turns_are calibration turns first; out = rounds_run_out calibration 1 (length met.places) met rest }

-- Without a stop sessions at rest run out in no other way.
run_out_same : (calibration : Calibration) (session sessions : ℕ) (old new end : World) → AllRest old → RunOut calibration session sessions old new → ((number : ℕ) → IsGone number new → IsGone number end) → some_stopped end.places ≡ false →
    new ≡ run_out_from calibration session sessions old
run_out_same calibration session zero old new end rest out later none = out
run_out_same calibration session (suc sessions) old new end rest out later none =
    let turns = out.1.turns in
    let plain = no_stop calibration (replicate turns session) old out.0 end out.1.taken (λ number gone. later number (gone_run_out calibration number (session + 1) sessions out.0 new gone out.2)) none in
    let lines = lines_left (place_of session old.places) in
    let rounds = rounds_are_turns calibration session lines old in
    let I : World → Type 0 = λ w. IsIdle (place_of session w.places) in
    let first : I (turns_taken calibration (replicate turns session) old) = subst I plain (idle_end (place_of session out.0.places) out.1.over) in
    let second : I (turns_taken calibration (replicate rounds.0 session) old) = subst I rounds.1 (lines_idle calibration session old rest) in
    let same : out.0 ≡ lines_done calibration session lines old = plain ∙ ends_same calibration session turns rounds.0 old first second ∙ sym rounds.1 in
    let R : World → Type 0 = λ w. AllRest w in
    let rests : AllRest out.0 = subst R (sym same) (rest_lines calibration session lines old rest) in
    run_out_same calibration (session + 1) sessions out.0 new end rests out.2 later none ∙ ap (λ w. run_out_from calibration (session + 1) sessions w) same

pub turns_decide_all : TurnsDecide
turns_decide_all = λ calibration models capacity scripts turns end is none.
    let begins = begun calibration models capacity scripts in
    let count = length is.met.places in
    let first = no_stop calibration turns begins is.met end is.taken (λ number gone. gone_run_out calibration number 1 count is.met end gone is.out) none in
    let R : World → Type 0 = λ w. AllRest w in
    let rest : AllRest is.met = subst R (sym first) (rest_turns calibration turns begins (rest_begun calibration models capacity scripts)) in
    run_out_same calibration 1 count is.met end end rest is.out (λ number gone. gone) none ∙ ap (λ w. run_out calibration w) first
