-- Turns in which want of memory may stop sessions: what they leave, and what stays stopped.
use Rattle.std.proofs.Common.{◌≡◌, ◌≢◌, ℕ, zero, suc, ◌+◌, ◌<◌, ◌≤◌, Bool, true, false, ◌||◌, nat_eq, List, [], ◌∷◌, ◌++◌, length, drop, replicate, refl, sym, ap, subst, ◌∙◌, arith, eqb-true, Option, Some, None, inl, inr, ◌⊎◌, All}
use Rattle.std.specs.Prelude.{slice_get, slice_set}
use Rattle.std.proofs.lemmas.Bool.{true≢false, eqb-false}
use Rattle.std.proofs.lemmas.Option.{slice_get_within}
use Rattle.std.proofs.lemmas.List.{length-set}
use Rattle.std.proofs.lemmas.List.Elements.{All-nil, All-push}
use Rattle.cg_sharing.specs.Command.{Line}
use Rattle.cg_sharing.specs.Versions.{State, start_of}
use Rattle.cg_sharing.specs.Journal.{Act, Entry, answer_of, changed_by}
use Rattle.cg_courses.specs.Course.{Calibration, Place, next, went}
use Rattle.cg_courses.specs.Interleaving.{World, place_of, with_place, world_after, advanced, turn, turns_taken, begins, begun, IsStop, IsTurn, AreTurns, RunOut, some_stopped, IsOfSession, EntriesAreOfSessions}
use Rattle.cg_courses.proofs.CourseLemmas.{stopped-went}

pub get-set_same : {A : Type 0} (xs : List A) (i : ℕ) (x y : A) → slice_get xs i ≡ Some x → slice_get (slice_set xs i y) i ≡ Some y
get-set_same [] i x y at = absurd (cc)
get-set_same (z ∷ zs) zero x y at = refl
get-set_same (z ∷ zs) (suc i) x y at = get-set_same zs i x y at

pub get-set_other : {A : Type 0} (xs : List A) (i j : ℕ) (y : A) → j ≢ i → slice_get (slice_set xs i y) j ≡ slice_get xs j
get-set_other [] i j y ne = refl
get-set_other (z ∷ zs) zero zero y ne = absurd (ne refl)
get-set_other (z ∷ zs) zero (suc j) y ne = refl
get-set_other (z ∷ zs) (suc i) zero y ne = refl
get-set_other (z ∷ zs) (suc i) (suc j) y ne = get-set_other zs i j y (λ e. ne (ap (λ n. suc n) e))

drop-set : {A : Type 0} (xs : List A) (i : ℕ) (y : A) → drop (suc i) (slice_set xs i y) ≡ drop (suc i) xs
drop-set [] i y = refl
drop-set (z ∷ zs) zero y = refl
drop-set (z ∷ zs) (suc i) y = drop-set zs i y

-- one place is written, and the others stay
pub place_of-same : (session : ℕ) (before place : Place) (places : List Place) → place_of session places ≡ Some before → place_of session (with_place session place places) ≡ Some place
place_of-same zero before place places here = absurd (cc)
place_of-same (suc i) before place places here = get-set_same places i before place here

pub place_of-other : (number session : ℕ) (place : Place) (places : List Place) → number ≢ session → place_of number (with_place session place places) ≡ place_of number places
place_of-other zero session place places ne = refl
place_of-other (suc i) zero place places ne = refl
place_of-other (suc i) (suc j) place places ne = get-set_other places j i place (λ e. ne (ap (λ n. suc n) e))

pub length-with_place : (session : ℕ) (place : Place) (places : List Place) → length (with_place session place places) ≡ length places
length-with_place zero place places = refl
length-with_place (suc i) place places = length-set places i place

drop-with_place : (session : ℕ) (place : Place) (places : List Place) → drop session (with_place session place places) ≡ drop session places
drop-with_place zero place places = refl
drop-with_place (suc i) place places = drop-set places i place

-- A turn of no session does nothing,
pub turn_passes : (calibration : Calibration) (session : ℕ) (world : World) → place_of session world.places ≡ None → turn calibration session world ≡ world
turn_passes calibration session world none = ap (λ o. advanced calibration session o world) none

-- and so does one of a session without a next act.
pub turn_rests : (calibration : Calibration) (session : ℕ) (world : World) (place : Place) → place_of session world.places ≡ Some place → next place ≡ None → turn calibration session world ≡ world
turn_rests calibration session world place here none =
    ap (λ o. advanced calibration session o world) here ∙ ap (λ a. world_after calibration session place a world) none

-- A next act moves the session's place.
pub turn_own : (calibration : Calibration) (session : ℕ) (world : World) (place : Place) (act : Act) → place_of session world.places ≡ Some place → next place ≡ Some act →
    place_of session (turn calibration session world).places ≡ Some (went calibration (changed_by act (answer_of world.shared act) world.shared.state) (answer_of world.shared act) place)
turn_own calibration session world place act here is =
    let done : turn calibration session world ≡ world_after calibration session place (Some act) world =
    ap (λ o. advanced calibration session o world) here ∙ ap (λ a. world_after calibration session place a world) is in
    ap (λ (w : World). place_of session w.places) done ∙ place_of-same session place _ world.places here

act_others : (calibration : Calibration) (number session : ℕ) (place : Place) (act : Option Act) (world : World) → number ≢ session → place_of number (world_after calibration session place act world).places ≡ place_of number world.places
act_others calibration number session place None world ne = refl
act_others calibration number session place (Some act) world ne = place_of-other number session _ world.places ne

advanced_others : (calibration : Calibration) (number session : ℕ) (place : Option Place) (world : World) → number ≢ session → place_of number (advanced calibration session place world).places ≡ place_of number world.places
advanced_others calibration number session None world ne = refl
advanced_others calibration number session (Some place) world ne = act_others calibration number session place (next place) world ne

plain_others : (calibration : Calibration) (number session : ℕ) (world : World) → number ≢ session → place_of number (turn calibration session world).places ≡ place_of number world.places
plain_others calibration number session world ne = advanced_others calibration number session (place_of session world.places) world ne

stop_others : (number session : ℕ) (old at : World) → number ≢ session → (at ≡ old) ⊎ IsStop session old at → place_of number at.places ≡ place_of number old.places
stop_others number session old at ne (inl same) = ap (λ (w : World). place_of number w.places) same
stop_others number session old at ne (inr stop) = ap (λ (w : World). place_of number w.places) stop.same ∙ place_of-other number session stop.after old.places ne

-- The other sessions stay where they are.
pub turn_others : (calibration : Calibration) (number session : ℕ) (old new : World) → number ≢ session → IsTurn calibration session old new → place_of number new.places ≡ place_of number old.places
turn_others calibration number session old new ne step =
    ap (λ (w : World). place_of number w.places) step.2 ∙ plain_others calibration number session step.0 ne ∙ stop_others number session old step.0 ne step.1

pub turns_others : (calibration : Calibration) (number session count : ℕ) (old new : World) → number ≢ session → AreTurns calibration (replicate count session) old new → place_of number new.places ≡ place_of number old.places
turns_others calibration number session zero old new ne turns = ap (λ (w : World). place_of number w.places) turns
turns_others calibration number session (suc count) old new ne turns =
    turns_others calibration number session count turns.0 new ne turns.2 ∙ turn_others calibration number session old turns.0 ne turns.1

act_behind : (calibration : Calibration) (session : ℕ) (place : Place) (act : Option Act) (world : World) → drop session (world_after calibration session place act world).places ≡ drop session world.places
act_behind calibration session place None world = refl
act_behind calibration session place (Some act) world = drop-with_place session _ world.places

advanced_behind : (calibration : Calibration) (session : ℕ) (place : Option Place) (world : World) → drop session (advanced calibration session place world).places ≡ drop session world.places
advanced_behind calibration session None world = refl
advanced_behind calibration session (Some place) world = act_behind calibration session place (next place) world

stop_behind : (session : ℕ) (old at : World) → (at ≡ old) ⊎ IsStop session old at → drop session at.places ≡ drop session old.places
stop_behind session old at (inl same) = ap (λ (w : World). drop session w.places) same
stop_behind session old at (inr stop) = ap (λ (w : World). drop session w.places) stop.same ∙ drop-with_place session stop.after old.places

-- So do those behind it, in turns of its own.
turn_behind : (calibration : Calibration) (session : ℕ) (old new : World) → IsTurn calibration session old new → drop session new.places ≡ drop session old.places
turn_behind calibration session old new step =
    ap (λ (w : World). drop session w.places) step.2 ∙ advanced_behind calibration session (place_of session step.0.places) step.0 ∙ stop_behind session old step.0 step.1

pub turns_behind : (calibration : Calibration) (session count : ℕ) (old new : World) → AreTurns calibration (replicate count session) old new → drop session new.places ≡ drop session old.places
turns_behind calibration session zero old new turns = ap (λ (w : World). drop session w.places) turns
turns_behind calibration session (suc count) old new turns = turns_behind calibration session count turns.0 new turns.2 ∙ turn_behind calibration session old turns.0 turns.1

-- turns and more turns
pub AreTurns-append : (calibration : Calibration) (xs ys : List ℕ) (old mid new : World) → AreTurns calibration xs old mid → AreTurns calibration ys mid new → AreTurns calibration (xs ++ ys) old new
AreTurns-append calibration [] ys old mid new first then = subst (λ (w : World). AreTurns calibration ys w new) first then
AreTurns-append calibration (x ∷ xs) ys old mid new first then = (first.0, first.1, AreTurns-append calibration xs ys first.0 mid new first.2 then)

-- a turn in which nothing is stopped
pub plain_turn : (calibration : Calibration) (session : ℕ) (world : World) → IsTurn calibration session world (turn calibration session world)
plain_turn calibration session world = (world, inl refl, refl)

-- Turns of a session without a next act do nothing.
pub turns_rest : (calibration : Calibration) (session count : ℕ) (world : World) (place : Place) → place_of session world.places ≡ Some place → next place ≡ None → AreTurns calibration (replicate count session) world world
turns_rest calibration session zero world place here none = refl
turns_rest calibration session (suc count) world place here none =
    (world, (world, inl refl, sym (turn_rests calibration session world place here none)), turns_rest calibration session count world place here none)

-- The turns as they are without a stop.
pub turns_are : (calibration : Calibration) (turns : List ℕ) (world : World) → AreTurns calibration turns world (turns_taken calibration turns world)
turns_are calibration [] world = refl
turns_are calibration (session ∷ turns) world = (turn calibration session world, plain_turn calibration session world, turns_are calibration turns (turn calibration session world))

-- a session is at its end, or there is none
abbrev pub IsIdle : Option Place → Type 0
IsIdle None = Unit {0}
IsIdle (Some place) = next place ≡ None

-- Sessions that have run out stay where they are while those behind them do,
pub run_out_before : (calibration : Calibration) (number session sessions : ℕ) (old new : World) → number < session → RunOut calibration session sessions old new → place_of number new.places ≡ place_of number old.places
run_out_before calibration number session zero old new less out = ap (λ (w : World). place_of number w.places) out
run_out_before calibration number session (suc sessions) old new less out =
    let ne : number ≢ session = omega arith in
    run_out_before calibration number (session + 1) sessions out.0 new (omega arith) out.2 ∙ turns_others calibration number session out.1.turns old out.0 ne out.1.taken

pub idle_end : (place : Option Place) → ((p : Place) → place ≡ Some p → next p ≡ None) → IsIdle place
idle_end None over = tt
idle_end (Some place) over = over place refl

-- so at the end each is at its own.
pub run_out_idle : (calibration : Calibration) (number session sessions : ℕ) (old new : World) → session ≤ number → number < session + sessions → RunOut calibration session sessions old new → IsIdle (place_of number new.places)
run_out_idle calibration number session zero old new from to out = absurd (omega arith)
run_out_idle calibration number session (suc sessions) old new from to out =
    elim (nat_eq number session) as (λ b. nat_eq number session ≡ b → IsIdle (place_of number new.places)) [
      | true ↦ λ is.
          let same = eqb-true number session is in
          let less : number < session + 1 = omega arith in
          let over : IsIdle (place_of session out.0.places) = idle_end (place_of session out.0.places) out.1.over in
          let stays = run_out_before calibration number (session + 1) sessions out.0 new less out.2 in
          subst (λ (p : Option Place). IsIdle p) (sym (stays ∙ ap (λ k. place_of k out.0.places) same)) over
      | false ↦ λ is. let ne = eqb-false number session is in run_out_idle calibration number (session + 1) sessions out.0 new (omega arith) (omega arith) out.2
    ] refl

length_act : (calibration : Calibration) (session : ℕ) (place : Place) (act : Option Act) (world : World) → length (world_after calibration session place act world).places ≡ length world.places
length_act calibration session place None world = refl
length_act calibration session place (Some act) world = length-with_place session _ world.places

length_advanced : (calibration : Calibration) (session : ℕ) (place : Option Place) (world : World) → length (advanced calibration session place world).places ≡ length world.places
length_advanced calibration session None world = refl
length_advanced calibration session (Some place) world = length_act calibration session place (next place) world

length_stop : (session : ℕ) (old at : World) → (at ≡ old) ⊎ IsStop session old at → length at.places ≡ length old.places
length_stop session old at (inl same) = ap (λ (w : World). length w.places) same
length_stop session old at (inr stop) = ap (λ (w : World). length w.places) stop.same ∙ length-with_place session stop.after old.places

length_turns : (calibration : Calibration) (turns : List ℕ) (old new : World) → AreTurns calibration turns old new → length new.places ≡ length old.places
length_turns calibration [] old new taken = ap (λ (w : World). length w.places) taken
length_turns calibration (session ∷ turns) old new taken =
    let step = taken.1 in
    length_turns calibration turns taken.0 new taken.2 ∙ ap (λ (w : World). length w.places) step.2 ∙ length_advanced calibration session (place_of session step.0.places) step.0 ∙ length_stop session old step.0 step.1

-- No session comes or goes.
pub length_run_out : (calibration : Calibration) (session sessions : ℕ) (old new : World) → RunOut calibration session sessions old new → length new.places ≡ length old.places
length_run_out calibration session zero old new out = ap (λ (w : World). length w.places) out
length_run_out calibration session (suc sessions) old new out =
    length_run_out calibration (session + 1) sessions out.0 new out.2 ∙ length_turns calibration (replicate out.1.turns session) old out.0 out.1.taken

-- Want of memory has stopped the session.
pub record IsGone (session : ℕ) (world : World) : Type 0 where
  pub place : Place
  pub here : place_of session world.places ≡ Some place
  pub stopped : place.stopped ≡ true

gone_stop : (session : ℕ) (old at : World) → IsStop session old at → IsGone session at
gone_stop session old at stop = record {
  place = stop.after;
  here = ap (λ (w : World). place_of session w.places) stop.same ∙ place_of-same session stop.before stop.after old.places stop.here;
  stopped = stop.stopped;
}

gone_at : (session : ℕ) (old at : World) → IsGone session old → (at ≡ old) ⊎ IsStop session old at → IsGone session at
gone_at session old at gone (inl same) = subst (λ (w : World). IsGone session w) (sym same) gone
gone_at session old at gone (inr stop) = gone_stop session old at stop

gone_plain : (calibration : Calibration) (session : ℕ) (world : World) → IsGone session world → IsGone session (turn calibration session world)
gone_plain calibration session world gone = of_act (next gone.place) refl
  where
    of_act : (act : Option Act) → next gone.place ≡ act → IsGone session (turn calibration session world)
    of_act None none = subst (λ (w : World). IsGone session w) (sym (turn_rests calibration session world gone.place gone.here none)) gone
    of_act (Some act) is = record {
      place = went calibration (changed_by act (answer_of world.shared act) world.shared.state) (answer_of world.shared act) gone.place;
      here = turn_own calibration session world gone.place act gone.here is;
      stopped = stopped-went calibration (changed_by act (answer_of world.shared act) world.shared.state) (answer_of world.shared act) gone.place ∙ gone.stopped;
    }

-- It stays so.
gone_turn : (calibration : Calibration) (number session : ℕ) (old new : World) → IsGone number old → IsTurn calibration session old new → IsGone number new
gone_turn calibration number session old new gone step =
    elim (nat_eq number session) as (λ b. nat_eq number session ≡ b → IsGone number new) [
      | true ↦ λ is.
          let same = eqb-true number session is in
          let G : ℕ → World → Type 0 = λ n w. IsGone n w in
          let own = subst (λ n. G n old) same gone in
          let done = gone_plain calibration session step.0 (gone_at session old step.0 own step.1) in
          subst (λ n. G n new) (sym same) (subst (λ (w : World). IsGone session w) (sym step.2) done)
      | false ↦ λ is. record {
        place = gone.place;
        here = turn_others calibration number session old new (eqb-false number session is) step ∙ gone.here;
        stopped = gone.stopped;
      }
    ] refl

gone_turns : (calibration : Calibration) (number : ℕ) (turns : List ℕ) (old new : World) → IsGone number old → AreTurns calibration turns old new → IsGone number new
gone_turns calibration number [] old new gone taken = subst (λ (w : World). IsGone number w) (sym taken) gone
gone_turns calibration number (session ∷ turns) old new gone taken = gone_turns calibration number turns taken.0 new (gone_turn calibration number session old taken.0 gone taken.1) taken.2

pub gone_run_out : (calibration : Calibration) (number session sessions : ℕ) (old new : World) → IsGone number old → RunOut calibration session sessions old new → IsGone number new
gone_run_out calibration number session zero old new gone out = subst (λ (w : World). IsGone number w) (sym out) gone
gone_run_out calibration number session (suc sessions) old new gone out =
    gone_run_out calibration number (session + 1) sessions out.0 new (gone_turns calibration number (replicate out.1.turns session) old out.0 gone out.1.taken) out.2

or_true : (b : Bool) → (b || true) ≡ true
or_true true = refl
or_true false = refl

one_any : (places : List Place) (i : ℕ) (place : Place) → slice_get places i ≡ Some place → place.stopped ≡ true → some_stopped places ≡ true
one_any [] i place at is = absurd (cc)
one_any (p ∷ places) zero place at is = let same : p ≡ place = cc in ap (λ (q : Place). q.stopped || some_stopped places) same ∙ ap (λ b. b || some_stopped places) is
one_any (p ∷ places) (suc i) place at is = ap (λ b. p.stopped || b) (one_any places i place at is) ∙ or_true p.stopped

gone_any : (session : ℕ) (world : World) (place : Place) → place_of session world.places ≡ Some place → place.stopped ≡ true → some_stopped world.places ≡ true
gone_any zero world place here is = absurd (cc)
gone_any (suc i) world place here is = one_any world.places i place here is

-- Where no session is stopped at the end, none was: the turns are plain ones.
pub no_stop : (calibration : Calibration) (turns : List ℕ) (old mid end : World) → AreTurns calibration turns old mid → ((number : ℕ) → IsGone number mid → IsGone number end) → some_stopped end.places ≡ false → mid ≡ turns_taken calibration turns old
no_stop calibration [] old mid end first later none = first
no_stop calibration (x ∷ xs) old mid end first later none =
    elim (first.1.1) [
      | inl same ↦ no_stop calibration xs first.0 mid end first.2 later none ∙ ap (λ w. turns_taken calibration xs w) (first.1.2 ∙ ap (λ w. turn calibration x w) same)
      | inr stop ↦
          let stopped = gone_plain calibration x first.1.0 (gone_stop x old first.1.0 stop) in
          let between = subst (λ (w : World). IsGone x w) (sym first.1.2) stopped in
          let gone = later x (gone_turns calibration x xs first.0 mid between first.2) in
          absurd (true≢false (sym (gone_any x end gone.place gone.here gone.stopped) ∙ none))
    ]

-- There are so many sessions, and each entry is of one of them.
record AreOfSessions (count : ℕ) (world : World) : Type 0 where
  places : length world.places ≡ count
  entries : All (IsOfSession count) world.journal

one_of : (session : ℕ) (places : List Place) (place : Place) → place_of session places ≡ Some place → (1 ≤ session) × (session ≤ length places)
one_of zero places place here = absurd (cc)
one_of (suc i) places place here = let within = slice_get_within places i place here in (omega arith, omega (arith, within))

of_act : (calibration : Calibration) (count session : ℕ) (place : Place) (act : Option Act) (world : World) → place_of session world.places ≡ Some place → AreOfSessions count world → AreOfSessions count (world_after calibration session place act world)
of_act calibration count session place None world here are = are
of_act calibration count session place (Some act) world here are =
    let entry : Entry = record { seat = session; act = act; answer = answer_of world.shared act } in
    let one = one_of session world.places place here in
    record {
      places = length-with_place session _ world.places ∙ are.places;
      entries = All-push (IsOfSession count) world.journal entry are.entries (one.0, omega (arith, one.1, are.places));
    }

of_place : (calibration : Calibration) (count session : ℕ) (place : Option Place) (world : World) → place_of session world.places ≡ place → AreOfSessions count world → AreOfSessions count (advanced calibration session place world)
of_place calibration count session None world here are = are
of_place calibration count session (Some place) world here are = of_act calibration count session place (next place) world here are

of_stop : (count session : ℕ) (old at : World) → AreOfSessions count old → (at ≡ old) ⊎ IsStop session old at → AreOfSessions count at
of_stop count session old at are (inl same) = subst (λ (w : World). AreOfSessions count w) (sym same) are
of_stop count session old at are (inr stop) =
    subst (λ (w : World). AreOfSessions count w) (sym stop.same) (record { places = length-with_place session stop.after old.places ∙ are.places; entries = are.entries })

of_turn : (calibration : Calibration) (count session : ℕ) (old new : World) → AreOfSessions count old → IsTurn calibration session old new → AreOfSessions count new
of_turn calibration count session old new are step =
    subst (λ (w : World). AreOfSessions count w) (sym step.2) (of_place calibration count session (place_of session step.0.places) step.0 refl (of_stop count session old step.0 are step.1))

of_turns : (calibration : Calibration) (count : ℕ) (turns : List ℕ) (old new : World) → AreOfSessions count old → AreTurns calibration turns old new → AreOfSessions count new
of_turns calibration count [] old new are taken = subst (λ (w : World). AreOfSessions count w) (sym taken) are
of_turns calibration count (session ∷ turns) old new are taken = of_turns calibration count turns taken.0 new (of_turn calibration count session old taken.0 are taken.1) taken.2

of_run_out : (calibration : Calibration) (count session sessions : ℕ) (old new : World) → AreOfSessions count old → RunOut calibration session sessions old new → AreOfSessions count new
of_run_out calibration count session zero old new are out = subst (λ (w : World). AreOfSessions count w) (sym out) are
of_run_out calibration count session (suc sessions) old new are out =
    of_run_out calibration count (session + 1) sessions out.0 new (of_turns calibration count (replicate out.1.turns session) old out.0 are out.1.taken) out.2

length-begins : (calibration : Calibration) (start : State) (session : ℕ) (scripts : List (List Line)) → length (begins calibration start session scripts) ≡ length scripts
length-begins calibration start session [] = refl
length-begins calibration start session (script ∷ scripts) = ap (λ n. suc n) (length-begins calibration start (session + 1) scripts)

pub all_of_sessions : EntriesAreOfSessions
all_of_sessions = λ calibration models capacity scripts turns end is.
    let count = length scripts in
    let first : AreOfSessions count (begun calibration models capacity scripts) =
    record { places = length-begins calibration (start_of models) 1 scripts; entries = All-nil (IsOfSession count) } in
    (of_run_out calibration count 1 (length is.met.places) is.met end (of_turns calibration count turns (begun calibration models capacity scripts) is.met first is.taken) is.out).entries
