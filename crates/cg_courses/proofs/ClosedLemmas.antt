-- Whichever sessions are stopped, no claim is left when all have run to their ends.
use Rattle.std.proofs.Common.{◌≡◌, ◌≢◌, ◌⊎◌, inl, inr, ℕ, zero, suc, ◌+◌, ◌≤◌, true, false, nat_eq, List, [], ◌∷◌, length, replicate, refl, sym, ap, subst, ◌∙◌, arith, eq-eqb, eqb-true, Option, Some, None}
use Rattle.std.specs.Prelude.{All, slice_get, slice_set}
use Rattle.std.proofs.lemmas.Bool.{eqb-false}
use Rattle.std.proofs.lemmas.Option.{slice_get_within}
use Rattle.cg_walk.specs.Walk.{Todo, owed}
use Rattle.cg_walk.proofs.WalkLemmas.{owed-returns}
use Rattle.cg_sharing.specs.Command.{Line}
use Rattle.cg_sharing.specs.Versions.{StartModel, start_of}
use Rattle.cg_sharing.specs.Journal.{Act, Entry, Shared, shared_of, answer_of, after, shared_by, May}
use Rattle.cg_courses.specs.Course.{Calibration, Place, first_act, next, begin, went, AreFit}
use Rattle.cg_courses.specs.Interleaving.{World, place_of, with_place, world_after, advanced, begins, begun, IsStop, IsTurn, AreTurns, RunOut}
use Rattle.cg_courses.specs.Taken.{ClaimsAreClosed}
use Rattle.cg_sharing.proofs.JournalLemmas.{IsClosed, start-closed, closed-changed_by}
use Rattle.cg_courses.proofs.HeldLemmas.{held_by, AreOnce}
use Rattle.cg_courses.proofs.CourseLemmas.{Steady, fresh, may_next, went_next, steady_others, held-others, once-entry, begin_steady}
use Rattle.cg_courses.proofs.StopLemmas.{Returning, none_left, returns_are, may_give_back, gives_back, others_return, AreReturns}
use Rattle.cg_courses.proofs.TurnLemmas.{place_of-same, place_of-other, IsIdle, run_out_idle, length_run_out}

-- a session goes on, or is stopped and gives its claims back
abbrev Stands : ℕ → Shared → Place → Type 0
Stands session shared place = Steady session shared place ⊎ Returning session shared place

-- Each session stands so, and a seat without a session has claimed nothing.
record IsTended (world : World) : Type 0 where
  closed : IsClosed world.shared.state
  once : AreOnce world.shared.cached.claimed
  stands : (session : ℕ) (place : Place) → place_of session world.places ≡ Some place → Stands session world.shared place
  stray : (seat : ℕ) → place_of seat world.places ≡ None → held_by seat world.shared.cached.claimed ≡ []

none_set : (places : List Place) (i j : ℕ) (place : Place) → slice_get (slice_set places i place) j ≡ None → slice_get places j ≡ None
none_set [] i j place none = refl
none_set (p ∷ ps) zero zero place none = absurd (cc)
none_set (p ∷ ps) zero (suc j) place none = none
none_set (p ∷ ps) (suc i) zero place none = absurd (cc)
none_set (p ∷ ps) (suc i) (suc j) place none = none_set ps i j place none

none_with : (session seat : ℕ) (place : Place) (places : List Place) → place_of seat (with_place session place places) ≡ None → place_of seat places ≡ None
none_with zero seat place places none = none
none_with (suc i) zero place places none = refl
none_with (suc i) (suc j) place places none = none_set places i j place none

holds_of : (session : ℕ) (shared : Shared) (place : Place) → Stands session shared place → held_by session shared.cached.claimed ≡ owed place.todo
holds_of session shared place (inl steady) = steady.holds
holds_of session shared place (inr stands) = stands.holds

may_of : (session : ℕ) (shared : Shared) (place : Place) (act : Act) → Stands session shared place → next place ≡ Some act → May shared session act
may_of session shared place act (inl steady) is = may_next shared session place act steady is
may_of session shared place act (inr stands) is = may_give_back session shared place act stands is

own_stands : (calibration : Calibration) (session : ℕ) (shared : Shared) (entry : Entry) (place : Place) → Stands session shared place → IsClosed shared.state → entry.seat ≡ session → next place ≡ Some entry.act → entry.answer ≡ answer_of shared entry.act →
    Stands session (shared_by shared entry) (went calibration (after shared.state entry) entry.answer place)
own_stands calibration session shared entry place (inl steady) closed seat is right = inl (went_next calibration session shared entry place steady closed seat is right).0
own_stands calibration session shared entry place (inr stands) closed seat is right = inr (gives_back calibration session shared entry place stands seat is right).4.0

other_stands : (session : ℕ) (shared : Shared) (entry : Entry) (place : Place) → Stands session shared place → May shared entry.seat entry.act → entry.answer ≡ answer_of shared entry.act → entry.seat ≢ session → Stands session (shared_by shared entry) place
other_stands session shared entry place (inl steady) may right ne = inl (steady_others session shared entry place steady may right ne)
other_stands session shared entry place (inr stands) may right ne = inr (others_return session shared entry place stands may right ne)

-- one place is written: what stands there, and what stands elsewhere
stands_written : (session : ℕ) (before new : Place) (places : List Place) (shared : Shared) → place_of session places ≡ Some before → Stands session shared new →
    ((number : ℕ) (place : Place) → number ≢ session → place_of number places ≡ Some place → Stands number shared place) →
    (number : ℕ) (place : Place) → place_of number (with_place session new places) ≡ Some place → Stands number shared place
stands_written session before new places shared here own others = λ number place at.
    elim (nat_eq number session) as (λ b. nat_eq number session ≡ b → Stands number shared place) [
      | true ↦ λ is.
          let same = eqb-true number session is in
          let both : Some new ≡ Some place = sym (place_of-same session before new places here) ∙ ap (λ k. place_of k (with_place session new places)) (sym same) ∙ at in
          let new_is : new ≡ place = cc in
          subst (λ k. Stands k shared place) (sym same) (subst (λ (q : Place). Stands session shared q) new_is own)
      | false ↦ λ is. let ne = eqb-false number session is in others number place ne (sym (place_of-other number session new places ne) ∙ at)
    ] refl

tend_act : (calibration : Calibration) (session : ℕ) (place : Place) (act : Option Act) (world : World) → place_of session world.places ≡ Some place → next place ≡ act → IsTended world → IsTended (world_after calibration session place act world)
tend_act calibration session place None world here is tended = tended
tend_act calibration session place (Some act) world here is tended =
    let entry : Entry = record { seat = session; act = act; answer = answer_of world.shared act } in
    let now = shared_by world.shared entry in
    let new = went calibration now.state entry.answer place in
    let stands = tended.stands session place here in
    let may = may_of session world.shared place act stands is in
    record {
      closed = closed-changed_by session act entry.answer world.shared may tended.closed;
      once = once-entry session act entry.answer world.shared refl tended.once;
      stands = stands_written session place new world.places now here (own_stands calibration session world.shared entry place stands tended.closed refl is refl)
          (λ number p ne at. other_stands number world.shared entry p (tended.stands number p at) may refl (λ same. ne (sym same)));
      stray = λ seat none.
          let before = none_with session seat new world.places none in
          let other : session ≢ seat = λ same. absurd (let both = sym here ∙ ap (λ k. place_of k world.places) same ∙ before in cc) in
          held-others seat session act entry.answer world.shared other tended.once may ∙ tended.stray seat before;
    }

tend_advanced : (calibration : Calibration) (session : ℕ) (place : Option Place) (world : World) → place_of session world.places ≡ place → IsTended world → IsTended (advanced calibration session place world)
tend_advanced calibration session None world here tended = tended
tend_advanced calibration session (Some place) world here tended = tend_act calibration session place (next place) world here refl tended

tend_stop : (session : ℕ) (old at : World) → (at ≡ old) ⊎ IsStop session old at → IsTended old → IsTended at
tend_stop session old at (inl same) tended = subst (λ (w : World). IsTended w) (sym same) tended
tend_stop session old at (inr stop) tended =
    let R : List Todo → Type 0 = λ t. AreReturns t in
    let gives : Returning session old.shared stop.after = record {
      left = stop.none;
      stopped = stop.stopped;
      todo = subst R (sym stop.todo) (returns_are stop.before.todo);
      holds = holds_of session old.shared stop.before (tended.stands session stop.before stop.here) ∙ sym (ap (λ t. owed t) stop.todo ∙ owed-returns stop.before.todo);
      once = tended.once;
    } in
    let stopped : World = record old { places = with_place session stop.after old.places } in
    let now : IsTended stopped = record {
      closed = tended.closed;
      once = tended.once;
      stands = stands_written session stop.before stop.after old.places old.shared stop.here (inr gives) (λ number p ne here. tended.stands number p here);
      stray = λ seat none. tended.stray seat (none_with session seat stop.after old.places none);
    } in
    subst (λ (w : World). IsTended w) (sym stop.same) now

tend_turn : (calibration : Calibration) (session : ℕ) (old new : World) → IsTurn calibration session old new → IsTended old → IsTended new
tend_turn calibration session old new step tended =
    subst (λ (w : World). IsTended w) (sym step.2) (tend_advanced calibration session (place_of session step.0.places) step.0 refl (tend_stop session old step.0 step.1 tended))

tend_turns : (calibration : Calibration) (turns : List ℕ) (old new : World) → AreTurns calibration turns old new → IsTended old → IsTended new
tend_turns calibration [] old new taken tended = subst (λ (w : World). IsTended w) (sym taken) tended
tend_turns calibration (session ∷ turns) old new taken tended = tend_turns calibration turns taken.0 new taken.2 (tend_turn calibration session old taken.0 taken.1 tended)

tend_run_out : (calibration : Calibration) (session sessions : ℕ) (old new : World) → RunOut calibration session sessions old new → IsTended old → IsTended new
tend_run_out calibration session zero old new out tended = subst (λ (w : World). IsTended w) (sym out) tended
tend_run_out calibration session (suc sessions) old new out tended =
    tend_run_out calibration (session + 1) sessions out.0 new out.2 (tend_turns calibration (replicate out.1.turns session) old out.0 out.1.taken tended)

begins_steady : (calibration : Calibration) (models : List StartModel) (capacity session : ℕ) (scripts : List (List Line)) (i : ℕ) (place : Place) → All AreFit scripts → slice_get (begins calibration (start_of models) session scripts) i ≡ Some place →
    Steady (session + i) (shared_of models capacity) place
begins_steady calibration models capacity session [] i place fit at = absurd (cc)
begins_steady calibration models capacity session (script ∷ scripts) zero place fit at =
    let same : begin calibration session (start_of models) script ≡ place = cc in
    let number : session ≡ session + 0 = omega arith in
    let start = shared_of models capacity in
    subst (λ k. Steady k start place) number (subst (λ (q : Place). Steady session start q) same (begin_steady calibration session start script (fresh models capacity) (fit 0 script (omega arith))))
begins_steady calibration models capacity session (script ∷ scripts) (suc i) place fit at =
    let number : session + 1 + i ≡ session + suc i = omega arith in
    subst (λ k. Steady k (shared_of models capacity) place) number (begins_steady calibration models capacity (session + 1) scripts i place (λ j d within. fit (suc j) d (omega arith)) at)

begun_stands : (calibration : Calibration) (models : List StartModel) (capacity : ℕ) (scripts : List (List Line)) → All AreFit scripts → (session : ℕ) (place : Place) → place_of session (begun calibration models capacity scripts).places ≡ Some place →
    Stands session (shared_of models capacity) place
begun_stands calibration models capacity scripts fit zero place at = absurd (cc)
begun_stands calibration models capacity scripts fit (suc i) place at =
    let number : 1 + i ≡ suc i = omega arith in
    inl (subst (λ k. Steady k (shared_of models capacity) place) number (begins_steady calibration models capacity 1 scripts i place fit at))

idle_holds : (seat : ℕ) (world : World) (place : Option Place) → IsTended world → place_of seat world.places ≡ place → IsIdle place → held_by seat world.shared.cached.claimed ≡ []
idle_holds seat world None tended at idle = tended.stray seat at
idle_holds seat world (Some place) tended at idle =
    holds_of seat world.shared place (tended.stands seat place at) ∙ ap (λ t. owed t) (none_left place.todo (first_act place place.left) idle)

-- a session within the number of places, or none
idle_all : (calibration : Calibration) (sessions : ℕ) (old new : World) (seat : ℕ) (place : Option Place) → length new.places ≤ sessions → RunOut calibration 1 sessions old new → place_of seat new.places ≡ place → IsIdle place
idle_all calibration sessions old new seat None few out at = tt
idle_all calibration sessions old new zero (Some place) few out at = absurd (cc)
idle_all calibration sessions old new (suc i) (Some place) few out at =
    let within = slice_get_within new.places i place at in
    subst (λ (p : Option Place). IsIdle p) at (run_out_idle calibration (suc i) 1 sessions old new (omega arith) (omega (arith, within)) out)

none_held : (claims : List (List ℕ × ℕ)) → ((seat : ℕ) → held_by seat claims ≡ []) → claims ≡ []
none_held [] none = refl
none_held (claim ∷ claims) none =
    let some : held_by claim.1 (claim ∷ claims) ≡ claim.0 ∷ held_by claim.1 claims = rw (eq-eqb claim.1 claim.1 refl) refl in
    absurd (let both = sym some ∙ none claim.1 in cc)

pub claims_closed : ClaimsAreClosed
claims_closed = λ calibration models capacity scripts turns end fit is.
    let first = begun calibration models capacity scripts in
    let started : IsTended first = record { closed = start-closed models; once = tt; stands = begun_stands calibration models capacity scripts fit; stray = λ seat none. refl } in
    let count = length is.met.places in
    let tended = tend_run_out calibration 1 count is.met end is.out (tend_turns calibration turns first is.met is.taken started) in
    let few : length end.places ≤ count = omega (arith, length_run_out calibration 1 count is.met end is.out) in
    none_held end.shared.cached.claimed (λ seat.
    let place = place_of seat end.places in
    idle_holds seat end place tended refl (idle_all calibration count is.met end seat place few is.out refl))
