-- Turns in which want of memory may stop sessions: what they leave, and what stays stopped.
use Rattle.std.proofs.Common.{◌≡◌, ◌≢◌, ℕ, zero, suc, ◌+◌, ◌≤◌, Bool, true, false, ◌||◌, nat_eq, List, [], ◌∷◌, ◌++◌, length, drop, replicate, refl, sym, ap, subst, ◌∙◌, arith, eqb-true, Option, Some, None, inl, inr, ◌⊎◌, All}
use Rattle.std.specs.Prelude.{slice_get, slice_set}
use Rattle.std.proofs.lemmas.Bool.{true≢false, eqb-false}
use Rattle.std.proofs.lemmas.Option.{slice_get_within}
use Rattle.std.proofs.lemmas.List.{length-set}
use Rattle.std.proofs.lemmas.List.Elements.{All-nil, All-push}
use Rattle.cg_sharing.specs.Command.{Line}
use Rattle.cg_sharing.specs.Versions.{State, StartModel, start_of}
use Rattle.cg_sharing.specs.Journal.{Act, Entry, answer_of}
use Rattle.cg_sharing.specs.Course.{Calibration, Place, first_act, next}
use Rattle.cg_sharing.specs.Interleaving.{World, place_of, with_place, world_after, advanced, turn, turns_taken, begins, begun, last_turns, run_out, interleaving, IsStop, AreTurns, IsInterleaving, some_stopped, TurnsDecide, IsOfSession, EntriesAreOfSessions}

-- a turn of one session, in which want of memory may stop it
abbrev pub IsTurn : Calibration → ℕ → World → World → Type 0
IsTurn calibration session old new = (new ≡ turn calibration session old) ⊎ IsStop session old new

pub get-set_same : {A : Type 0} (xs : List A) (i : ℕ) (x y : A) → slice_get xs i ≡ Some x → slice_get (slice_set xs i y) i ≡ Some y
get-set_same [] i x y at = absurd (cc)
get-set_same (z ∷ zs) zero x y at = refl
get-set_same (z ∷ zs) (suc i) x y at = get-set_same zs i x y at

pub get-set_other : {A : Type 0} (xs : List A) (i j : ℕ) (y : A) → j ≢ i → slice_get (slice_set xs i y) j ≡ slice_get xs j
get-set_other [] i j y ne = refl
get-set_other (z ∷ zs) zero zero y ne = absurd (ne refl)
get-set_other (z ∷ zs) zero (suc j) y ne = refl
get-set_other (z ∷ zs) (suc i) zero y ne = refl
get-set_other (z ∷ zs) (suc i) (suc j) y ne = get-set_other zs i j y (λ e. ne (ap (λ n. suc n) e))

drop-set : {A : Type 0} (xs : List A) (i : ℕ) (y : A) → drop (suc i) (slice_set xs i y) ≡ drop (suc i) xs
drop-set [] i y = refl
drop-set (z ∷ zs) zero y = refl
drop-set (z ∷ zs) (suc i) y = drop-set zs i y

-- one place is written, and the others stay
place_of-same : (session : ℕ) (before place : Place) (places : List Place) → place_of session places ≡ Some before → place_of session (with_place session place places) ≡ Some place
place_of-same zero before place places here = absurd (cc)
place_of-same (suc i) before place places here = get-set_same places i before place here

place_of-other : (number session : ℕ) (place : Place) (places : List Place) → number ≢ session → place_of number (with_place session place places) ≡ place_of number places
place_of-other zero session place places ne = refl
place_of-other (suc i) zero place places ne = refl
place_of-other (suc i) (suc j) place places ne = get-set_other places j i place (λ e. ne (ap (λ n. suc n) e))

length-with_place : (session : ℕ) (place : Place) (places : List Place) → length (with_place session place places) ≡ length places
length-with_place zero place places = refl
length-with_place (suc i) place places = length-set places i place

drop-with_place : (session : ℕ) (place : Place) (places : List Place) → drop session (with_place session place places) ≡ drop session places
drop-with_place zero place places = refl
drop-with_place (suc i) place places = drop-set places i place

-- A turn of no session does nothing,
pub turn_passes : (calibration : Calibration) (session : ℕ) (world : World) → place_of session world.places ≡ None → turn calibration session world ≡ world
turn_passes calibration session world none = ap (λ o. advanced calibration session o world) none

-- and so does one of a session with no line left.
pub turn_rests : (calibration : Calibration) (session : ℕ) (world : World) (place : Place) → place_of session world.places ≡ Some place → place.left ≡ [] → turn calibration session world ≡ world
turn_rests calibration session world place here done =
    let none : next place ≡ None = ap (λ ls. first_act place ls) done in
    ap (λ o. advanced calibration session o world) here ∙ ap (λ a. world_after calibration session place a world) none

act_others : (calibration : Calibration) (number session : ℕ) (place : Place) (act : Option Act) (world : World) → number ≢ session → place_of number (world_after calibration session place act world).places ≡ place_of number world.places
act_others calibration number session place None world ne = refl
act_others calibration number session place (Some act) world ne = place_of-other number session _ world.places ne

advanced_others : (calibration : Calibration) (number session : ℕ) (place : Option Place) (world : World) → number ≢ session → place_of number (advanced calibration session place world).places ≡ place_of number world.places
advanced_others calibration number session None world ne = refl
advanced_others calibration number session (Some place) world ne = act_others calibration number session place (next place) world ne

-- The other sessions stay where they are.
pub turn_others : (calibration : Calibration) (number session : ℕ) (old new : World) → number ≢ session → IsTurn calibration session old new → place_of number new.places ≡ place_of number old.places
turn_others calibration number session old new ne (inl is) = ap (λ (w : World). place_of number w.places) is ∙ advanced_others calibration number session (place_of session old.places) old ne
turn_others calibration number session old new ne (inr stop) = ap (λ (w : World). place_of number w.places) stop.same ∙ place_of-other number session stop.after old.places ne

act_behind : (calibration : Calibration) (session : ℕ) (place : Place) (act : Option Act) (world : World) → drop session (world_after calibration session place act world).places ≡ drop session world.places
act_behind calibration session place None world = refl
act_behind calibration session place (Some act) world = drop-with_place session _ world.places

advanced_behind : (calibration : Calibration) (session : ℕ) (place : Option Place) (world : World) → drop session (advanced calibration session place world).places ≡ drop session world.places
advanced_behind calibration session None world = refl
advanced_behind calibration session (Some place) world = act_behind calibration session place (next place) world

-- So do those behind it, in turns of its own.
turn_behind : (calibration : Calibration) (session : ℕ) (old new : World) → IsTurn calibration session old new → drop session new.places ≡ drop session old.places
turn_behind calibration session old new (inl is) = ap (λ (w : World). drop session w.places) is ∙ advanced_behind calibration session (place_of session old.places) old
turn_behind calibration session old new (inr stop) = ap (λ (w : World). drop session w.places) stop.same ∙ drop-with_place session stop.after old.places

pub turns_behind : (calibration : Calibration) (session count : ℕ) (old new : World) → AreTurns calibration (replicate count session) old new → drop session new.places ≡ drop session old.places
turns_behind calibration session zero old new turns = ap (λ (w : World). drop session w.places) turns
turns_behind calibration session (suc count) old new turns = turns_behind calibration session count turns.0 new turns.2 ∙ turn_behind calibration session old turns.0 turns.1

-- turns and more turns
pub AreTurns-append : (calibration : Calibration) (xs ys : List ℕ) (old mid new : World) → AreTurns calibration xs old mid → AreTurns calibration ys mid new → AreTurns calibration (xs ++ ys) old new
AreTurns-append calibration [] ys old mid new first then = subst (λ (w : World). AreTurns calibration ys w new) first then
AreTurns-append calibration (x ∷ xs) ys old mid new first then = (first.0, first.1, AreTurns-append calibration xs ys first.0 mid new first.2 then)

-- Turns of a session with no line left do nothing.
pub turns_rest : (calibration : Calibration) (session count : ℕ) (world : World) (place : Place) → place_of session world.places ≡ Some place → place.left ≡ [] → AreTurns calibration (replicate count session) world world
turns_rest calibration session zero world place here done = refl
turns_rest calibration session (suc count) world place here done = (world, inl (sym (turn_rests calibration session world place here done)), turns_rest calibration session count world place here done)

-- The turns as they are without a stop.
pub turns_are : (calibration : Calibration) (turns : List ℕ) (world : World) → AreTurns calibration turns world (turns_taken calibration turns world)
turns_are calibration [] world = refl
turns_are calibration (session ∷ turns) world = (turn calibration session world, inl refl, turns_are calibration turns (turn calibration session world))

pub interleaving_is : (calibration : Calibration) (models : List StartModel) (capacity : ℕ) (scripts : List (List Line)) (turns : List ℕ) → IsInterleaving calibration models capacity scripts turns (interleaving calibration models capacity scripts turns)
interleaving_is calibration models capacity scripts turns =
    let met = turns_taken calibration turns (begun calibration models capacity scripts) in
    record { met = met; taken = turns_are calibration turns (begun calibration models capacity scripts); run_out = turns_are calibration (last_turns 1 met.places) met }

-- Want of memory has stopped the session.
pub record IsGone (session : ℕ) (world : World) : Type 0 where
  pub place : Place
  pub here : place_of session world.places ≡ Some place
  pub none : place.left ≡ []
  pub stopped : place.stopped ≡ true

gone_stop : (session : ℕ) (old new : World) → IsStop session old new → IsGone session new
gone_stop session old new stop = record {
  place = stop.after;
  here = ap (λ (w : World). place_of session w.places) stop.same ∙ place_of-same session stop.before stop.after old.places stop.here;
  none = stop.none;
  stopped = stop.stopped;
}

gone_own : (calibration : Calibration) (session : ℕ) (old new : World) → IsGone session old → IsTurn calibration session old new → new ≡ old
gone_own calibration session old new gone (inl is) = is ∙ turn_rests calibration session old gone.place gone.here gone.none
gone_own calibration session old new gone (inr stop) =
    let same : stop.before ≡ gone.place = cc (stop.here, gone.here) in
    absurd (true≢false (sym gone.stopped ∙ ap (λ (p : Place). p.stopped) (sym same) ∙ stop.going))

-- It stays so.
gone_turn : (calibration : Calibration) (number session : ℕ) (old new : World) → IsGone number old → IsTurn calibration session old new → IsGone number new
gone_turn calibration number session old new gone step =
    elim (nat_eq number session) as (λ b. nat_eq number session ≡ b → IsGone number new) [
      | true ↦ λ is.
          let same = eqb-true number session is in
          let own = subst (λ n. IsTurn calibration n old new) (sym same) step in
          subst (λ (w : World). IsGone number w) (sym (gone_own calibration number old new gone own)) gone
      | false ↦ λ is. record {
        place = gone.place;
        here = turn_others calibration number session old new (eqb-false number session is) step ∙ gone.here;
        none = gone.none;
        stopped = gone.stopped;
      }
    ] refl

gone_turns : (calibration : Calibration) (number : ℕ) (turns : List ℕ) (old new : World) → IsGone number old → AreTurns calibration turns old new → IsGone number new
gone_turns calibration number [] old new gone taken = subst (λ (w : World). IsGone number w) (sym taken) gone
gone_turns calibration number (session ∷ turns) old new gone taken = gone_turns calibration number turns taken.0 new (gone_turn calibration number session old taken.0 gone taken.1) taken.2

or_true : (b : Bool) → (b || true) ≡ true
or_true true = refl
or_true false = refl

one_any : (places : List Place) (i : ℕ) (place : Place) → slice_get places i ≡ Some place → place.stopped ≡ true → some_stopped places ≡ true
one_any [] i place at is = absurd (cc)
one_any (p ∷ places) zero place at is = let same : p ≡ place = cc in ap (λ (q : Place). q.stopped || some_stopped places) same ∙ ap (λ b. b || some_stopped places) is
one_any (p ∷ places) (suc i) place at is = ap (λ b. p.stopped || b) (one_any places i place at is) ∙ or_true p.stopped

gone_any : (session : ℕ) (world : World) (place : Place) → place_of session world.places ≡ Some place → place.stopped ≡ true → some_stopped world.places ≡ true
gone_any zero world place here is = absurd (cc)
gone_any (suc i) world place here is = one_any world.places i place here is

-- Where no session is stopped at the end, none was.
no_stop : (calibration : Calibration) (xs ys : List ℕ) (old mid end : World) → AreTurns calibration xs old mid → AreTurns calibration ys mid end → some_stopped end.places ≡ false → mid ≡ turns_taken calibration xs old
no_stop calibration [] ys old mid end first then none = first
no_stop calibration (x ∷ xs) ys old mid end first then none =
    elim (first.1) [
      | inl is ↦ no_stop calibration xs ys first.0 mid end first.2 then none ∙ ap (λ w. turns_taken calibration xs w) is
      | inr stop ↦
          let gone = gone_turns calibration x ys mid end (gone_turns calibration x xs first.0 mid (gone_stop x old first.0 stop) first.2) then in
          absurd (true≢false (sym (gone_any x end gone.place gone.here gone.stopped) ∙ none))
    ]

pub turns_decide_all : TurnsDecide
turns_decide_all = λ calibration models capacity scripts turns end is none.
    let first = no_stop calibration turns (last_turns 1 is.met.places) (begun calibration models capacity scripts) is.met end is.taken is.run_out none in
    let last = no_stop calibration (last_turns 1 is.met.places) [] is.met end end is.run_out refl none in
    last ∙ ap (λ w. run_out calibration w) first

-- There are so many sessions, and each entry is of one of them.
record AreOfSessions (count : ℕ) (world : World) : Type 0 where
  places : length world.places ≡ count
  entries : All (IsOfSession count) world.journal

one_of : (session : ℕ) (places : List Place) (place : Place) → place_of session places ≡ Some place → (1 ≤ session) × (session ≤ length places)
one_of zero places place here = absurd (cc)
one_of (suc i) places place here = let within = slice_get_within places i place here in (omega arith, omega (arith, within))

of_act : (calibration : Calibration) (count session : ℕ) (place : Place) (act : Option Act) (world : World) → place_of session world.places ≡ Some place → AreOfSessions count world → AreOfSessions count (world_after calibration session place act world)
of_act calibration count session place None world here are = are
of_act calibration count session place (Some act) world here are =
    let entry : Entry = record { seat = session; act = act; answer = answer_of world.shared act } in
    let one = one_of session world.places place here in
    record {
      places = length-with_place session _ world.places ∙ are.places;
      entries = All-push (IsOfSession count) world.journal entry are.entries (one.0, omega (arith, one.1, are.places));
    }

of_place : (calibration : Calibration) (count session : ℕ) (place : Option Place) (world : World) → place_of session world.places ≡ place → AreOfSessions count world → AreOfSessions count (advanced calibration session place world)
of_place calibration count session None world here are = are
of_place calibration count session (Some place) world here are = of_act calibration count session place (next place) world here are

of_turn : (calibration : Calibration) (count session : ℕ) (old new : World) → AreOfSessions count old → IsTurn calibration session old new → AreOfSessions count new
of_turn calibration count session old new are (inl is) = subst (λ (w : World). AreOfSessions count w) (sym is) (of_place calibration count session (place_of session old.places) old refl are)
of_turn calibration count session old new are (inr stop) =
    subst (λ (w : World). AreOfSessions count w) (sym stop.same) (record { places = length-with_place session stop.after old.places ∙ are.places; entries = are.entries })

of_turns : (calibration : Calibration) (count : ℕ) (turns : List ℕ) (old new : World) → AreOfSessions count old → AreTurns calibration turns old new → AreOfSessions count new
of_turns calibration count [] old new are taken = subst (λ (w : World). AreOfSessions count w) (sym taken) are
of_turns calibration count (session ∷ turns) old new are taken = of_turns calibration count turns taken.0 new (of_turn calibration count session old taken.0 are taken.1) taken.2

length-begins : (calibration : Calibration) (start : State) (session : ℕ) (scripts : List (List Line)) → length (begins calibration start session scripts) ≡ length scripts
length-begins calibration start session [] = refl
length-begins calibration start session (script ∷ scripts) = ap (λ n. suc n) (length-begins calibration start (session + 1) scripts)

pub all_of_sessions : EntriesAreOfSessions
all_of_sessions = λ calibration models capacity scripts turns end is.
    let count = length scripts in
    let first : AreOfSessions count (begun calibration models capacity scripts) =
    record { places = length-begins calibration (start_of models) 1 scripts; entries = All-nil (IsOfSession count) } in
    (of_turns calibration count (last_turns 1 is.met.places) is.met end (of_turns calibration count turns (begun calibration models capacity scripts) is.met first is.taken) is.run_out).entries
