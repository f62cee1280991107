-- Turns keep the journal legal and each session in its course, and the last turns bring each to its end.
use Rattle.std.proofs.Common.{◌≡◌, ◌≢◌, ℕ, zero, suc, ◌+◌, ◌<◌, ◌≤◌, List, [], ◌∷◌, ◌++◌, length, replicate, refl, sym, ap, subst, ◌∙◌, arith, Option, Some, None, append_assoc, append-nil, length-append}
use Rattle.std.proofs.Math.Seq.{set-append_seam}
use Rattle.std.specs.Prelude.{All, slice_get, slice_set}
use Rattle.cg_sharing.specs.Command.{Line}
use Rattle.cg_sharing.specs.Versions.{State, StartModel, start_of, count_of}
use Rattle.cg_sharing.specs.Journal.{Act, Entry, Shared, shared_of, answer_of, after, state_after, shared_by, shared_after, IsLegal}
use Rattle.cg_sharing.specs.Course.{Calibration, Place, next, went, IsRunning, AreFit}
use Rattle.cg_sharing.specs.Interleaving.{World, world_after, advanced, turn, turns_taken, begins, begun, last_turns, run_out, AreWhole, EachRunsToItsEnd}
use Rattle.cg_sharing.proofs.JournalLemmas.{shared_after-append, state-shared_after, IsLegal-append, IsClosed, closed-after, start-closed}
use Rattle.cg_sharing.proofs.CourseLemmas.{running-others, running-own, Knows, Rests, may_next, went_next, running_knows}

-- The sessions from this number on are at places of their courses.
abbrev pub AreRunning : Calibration → ℕ → State → List (List Line) → List Entry → List Place → Type 0
AreRunning calibration session start [] entries [] = Unit {0}
AreRunning calibration session start [] entries (place ∷ places) = ⊥
AreRunning calibration session start (script ∷ scripts) entries [] = ⊥
AreRunning calibration session start (script ∷ scripts) entries (place ∷ places) =
    AreFit script × IsRunning calibration session start script entries place × AreRunning calibration (session + 1) start scripts entries places

-- The journal is legal, what is shared is what it leads to, and each session is at a place of its course.
pub record IsSound (calibration : Calibration) (start : Shared) (scripts : List (List Line)) (world : World) : Type 0 where
  pub legal : IsLegal start world.journal
  pub shared : world.shared ≡ shared_after start world.journal
  pub running : AreRunning calibration 1 start.state scripts world.journal world.places

-- so its versions are those after the journal
pub state_of-sound : (start : Shared) (world : World) → world.shared ≡ shared_after start world.journal → world.shared.state ≡ state_after start.state world.journal
state_of-sound start world same = ap (λ (s : Shared). s.state) same ∙ state-shared_after start world.journal

-- An entry of an earlier session leaves them.
after_earlier : (calibration : Calibration) (session : ℕ) (start : State) (scripts : List (List Line)) (xs : List Entry) (entry : Entry) (places : List Place) → entry.seat < session →
    AreRunning calibration session start scripts xs places → AreRunning calibration session start scripts (xs ++ entry ∷ []) places
after_earlier calibration session start [] xs entry [] less run = tt
after_earlier calibration session start [] xs entry (place ∷ places) less run = run
after_earlier calibration session start (script ∷ scripts) xs entry [] less run = run
after_earlier calibration session start (script ∷ scripts) xs entry (place ∷ places) less run =
    let ne : entry.seat ≢ session = omega arith in
    (run.0, running-others calibration session start script xs (entry ∷ []) place run.1 (ne, tt), after_earlier calibration (session + 1) start scripts xs entry places (omega arith) run.2)

-- One of these moves just its own place.
after_own : (calibration : Calibration) (session : ℕ) (start : State) (scripts : List (List Line)) (xs : List Entry) (entry : Entry) (places : List Place) (i : ℕ) (place : Place) → entry.seat ≡ session + i →
    slice_get places i ≡ Some place → next place ≡ Some entry.act → AreRunning calibration session start scripts xs places →
    AreRunning calibration session start scripts (xs ++ entry ∷ []) (slice_set places i (went calibration (after (state_after start xs) entry) entry.answer place))
after_own calibration session start scripts xs entry [] i place own at act run = absurd (cc)
after_own calibration session start [] xs entry (q ∷ places) i place own at act run = absurd run
after_own calibration session start (script ∷ scripts) xs entry (q ∷ places) zero place own at act run =
    let same : q ≡ place = cc in
    let seat : entry.seat ≡ session = omega arith in
    let P : Place → Type 0 = λ p. IsRunning calibration session start script xs p in
    (run.0, running-own calibration session start script xs entry place (subst P same run.1) seat act, after_earlier calibration (session + 1) start scripts xs entry places (omega arith) run.2)
after_own calibration session start (script ∷ scripts) xs entry (q ∷ places) (suc i) place own at act run =
    let ne : entry.seat ≢ session = omega arith in
    (run.0, running-others calibration session start script xs (entry ∷ []) q run.1 (ne, tt), after_own calibration (session + 1) start scripts xs entry places i place (omega arith) at act run.2)

-- what each of them knows
knows_at : (calibration : Calibration) (session : ℕ) (start : Shared) (scripts : List (List Line)) (xs : List Entry) (places : List Place) (i : ℕ) (place : Place) → IsClosed start.state → IsLegal start xs →
    slice_get places i ≡ Some place → AreRunning calibration session start.state scripts xs places → Knows (count_of (state_after start.state xs)) place × Rests place
knows_at calibration session start scripts xs [] i place closed legal at run = absurd (cc)
knows_at calibration session start [] xs (q ∷ places) i place closed legal at run = absurd run
knows_at calibration session start (script ∷ scripts) xs (q ∷ places) zero place closed legal at run =
    let same : q ≡ place = cc in
    let P : Place → Type 0 = λ p. Knows (count_of (state_after start.state xs)) p × Rests p in
    subst P same (running_knows calibration session start script xs q closed run.0 legal run.1)
knows_at calibration session start (script ∷ scripts) xs (q ∷ places) (suc i) place closed legal at run = knows_at calibration (session + 1) start scripts xs places i place closed legal at run.2

-- A session's next act keeps the world sound.
sound_act : (calibration : Calibration) (start : Shared) (scripts : List (List Line)) (world : World) (i : ℕ) (place : Place) (act : Act) → IsClosed start.state → IsSound calibration start scripts world → slice_get world.places i ≡ Some place →
    next place ≡ Some act → IsSound calibration start scripts (world_after calibration (suc i) place (Some act) world)
sound_act calibration start scripts world i place act closed sound at is =
    let entry : Entry = record { seat = suc i; act = act; answer = answer_of world.shared act } in
    let before = shared_after start world.journal in
    let known = knows_at calibration 1 start scripts world.journal world.places i place closed sound.legal at sound.running in
    let K : State → Type 0 = λ s. Knows (count_of s) place in
    let may = may_next before (suc i) place act (subst K (sym (state-shared_after start world.journal)) known.0) known.1.fit is in
    let right : entry.answer ≡ answer_of before act = ap (λ s. answer_of s act) sound.shared in
    let now : after world.shared.state entry ≡ after (state_after start.state world.journal) entry = ap (λ s. after s entry) (state_of-sound start world sound.shared) in
    let P : State → Type 0 = λ s. AreRunning calibration 1 start.state scripts (world.journal ++ entry ∷ []) (slice_set world.places i (went calibration s entry.answer place)) in
    record {
      legal = IsLegal-append start world.journal (entry ∷ []) sound.legal (may, right, tt);
      shared = ap (λ s. shared_by s entry) sound.shared ∙ sym (shared_after-append start world.journal (entry ∷ []));
      running = subst P (sym now) (after_own calibration 1 start.state scripts world.journal entry world.places i place (omega arith) at is sound.running);
    }

sound_next : (calibration : Calibration) (start : Shared) (scripts : List (List Line)) (world : World) (i : ℕ) (place : Place) (act : Option Act) → IsClosed start.state → IsSound calibration start scripts world → slice_get world.places i ≡ Some place →
    next place ≡ act → IsSound calibration start scripts (world_after calibration (suc i) place act world)
sound_next calibration start scripts world i place None closed sound at is = sound
sound_next calibration start scripts world i place (Some act) closed sound at is = sound_act calibration start scripts world i place act closed sound at is

sound_place : (calibration : Calibration) (start : Shared) (scripts : List (List Line)) (world : World) (i : ℕ) (place : Option Place) → IsClosed start.state → IsSound calibration start scripts world → slice_get world.places i ≡ place →
    IsSound calibration start scripts (advanced calibration (suc i) place world)
sound_place calibration start scripts world i None closed sound at = sound
sound_place calibration start scripts world i (Some place) closed sound at = sound_next calibration start scripts world i place (next place) closed sound at refl

-- So does each turn,
pub sound_turn : (calibration : Calibration) (start : Shared) (scripts : List (List Line)) (world : World) (session : ℕ) → IsClosed start.state → IsSound calibration start scripts world → IsSound calibration start scripts (turn calibration session world)
sound_turn calibration start scripts world zero closed sound = sound
sound_turn calibration start scripts world (suc i) closed sound = sound_place calibration start scripts world i (slice_get world.places i) closed sound refl

-- and each list of turns.
pub sound_turns : (calibration : Calibration) (start : Shared) (scripts : List (List Line)) (turns : List ℕ) (world : World) → IsClosed start.state → IsSound calibration start scripts world → IsSound calibration start scripts (turns_taken calibration turns world)
sound_turns calibration start scripts [] world closed sound = sound
sound_turns calibration start scripts (session ∷ turns) world closed sound = sound_turns calibration start scripts turns (turn calibration session world) closed (sound_turn calibration start scripts world session closed sound)

begins_running : (calibration : Calibration) (start : State) (session : ℕ) (scripts : List (List Line)) → All AreFit scripts → AreRunning calibration session start scripts [] (begins calibration start session scripts)
begins_running calibration start session [] fit = tt
begins_running calibration start session (script ∷ scripts) fit =
    (fit 0 script (omega arith), record { follows = tt; reached = refl }, begins_running calibration start (session + 1) scripts (λ i d within. fit (suc i) d (omega arith)))

-- The world is sound at the beginning.
pub sound_begun : (calibration : Calibration) (models : List StartModel) (capacity : ℕ) (scripts : List (List Line)) → All AreFit scripts →
    IsSound calibration (shared_of models capacity) scripts (begun calibration models capacity scripts)
sound_begun calibration models capacity scripts fit = record { legal = tt; shared = refl; running = begins_running calibration (start_of models) 1 scripts fit }

pub turns_taken-append : (calibration : Calibration) (xs ys : List ℕ) (world : World) → turns_taken calibration (xs ++ ys) world ≡ turns_taken calibration ys (turns_taken calibration xs world)
turns_taken-append calibration [] ys world = refl
turns_taken-append calibration (x ∷ xs) ys world = turns_taken-append calibration xs ys (turn calibration x world)

slice_get-seam : (front : List Place) (place : Place) (behind : List Place) → slice_get (front ++ place ∷ behind) (length front) ≡ Some place
slice_get-seam [] place behind = refl
slice_get-seam (p ∷ front) place behind = slice_get-seam front place behind

-- The place behind the first ones, which has this many lines left at most, while the others are as they were.
pub record HasLeft (world : World) (front behind : List Place) (count : ℕ) : Type 0 where
  pub place : Place
  pub at : world.places ≡ front ++ place ∷ behind
  pub few : length place.left ≤ count

act_shortens : (calibration : Calibration) (start : Shared) (scripts : List (List Line)) (world : World) (front behind : List Place) (count : ℕ) (place : Place) (act : Option Act) → IsClosed start.state → IsSound calibration start scripts world →
    world.places ≡ front ++ place ∷ behind → length place.left ≤ suc count → next place ≡ act → HasLeft (world_after calibration (suc (length front)) place act world) front behind count
act_shortens calibration start scripts world front behind count place act closed sound at few is =
    let here : slice_get world.places (length front) ≡ Some place = ap (λ ps. slice_get ps (length front)) at ∙ slice_get-seam front place behind in
    let known = knows_at calibration 1 start scripts world.journal world.places (length front) place closed sound.legal here sound.running in
    shortened act is known.0 known.1
  where
    shortened : (act : Option Act) → next place ≡ act → Knows (count_of (state_after start.state world.journal)) place → Rests place → HasLeft (world_after calibration (suc (length front)) place act world) front behind count
    shortened None none knows rests = record { place = place; at = at; few = omega (arith, ap (λ (lines : List Line). length lines) (rests.ends none)) }
    shortened (Some act) some knows rests =
        let entry : Entry = record { seat = suc (length front); act = act; answer = answer_of world.shared act } in
        let same = state_of-sound start world sound.shared in
        let K : State → Type 0 = λ s. Knows (count_of s) place in
        let C : State → Type 0 = λ s. IsClosed s in
        let knows_now = subst K (sym same) knows in
        let closed_now = subst C (sym same) (closed-after start world.journal sound.legal closed) in
        let new = went_next calibration world.shared (suc (length front)) place act entry.answer knows_now rests closed_now some refl in
        let q = went calibration (after world.shared.state entry) entry.answer place in
        record {
          place = q;
          at = ap (λ ps. slice_set ps (length front) q) at ∙ set-append_seam front place behind q;
          few = omega (arith, new.2);
        }

turn_shortens : (calibration : Calibration) (start : Shared) (scripts : List (List Line)) (world : World) (front behind : List Place) (count : ℕ) → IsClosed start.state → IsSound calibration start scripts world →
    HasLeft world front behind (suc count) → HasLeft (turn calibration (suc (length front)) world) front behind count
turn_shortens calibration start scripts world front behind count closed sound has =
    let here : slice_get world.places (length front) ≡ Some has.place = ap (λ ps. slice_get ps (length front)) has.at ∙ slice_get-seam front has.place behind in
    let P : Option Place → Type 0 = λ p. HasLeft (advanced calibration (suc (length front)) p world) front behind count in
    subst P (sym here) (act_shortens calibration start scripts world front behind count has.place (next has.place) closed sound has.at has.few refl)

-- as many turns as it has lines left bring it to its end
pub turns_end : (calibration : Calibration) (start : Shared) (scripts : List (List Line)) (count : ℕ) (world : World) (front behind : List Place) → IsClosed start.state → IsSound calibration start scripts world →
    HasLeft world front behind count → HasLeft (turns_taken calibration (replicate count (suc (length front))) world) front behind 0
turns_end calibration start scripts zero world front behind closed sound has = has
turns_end calibration start scripts (suc count) world front behind closed sound has =
    let session = suc (length front) in
    turns_end calibration start scripts count (turn calibration session world) front behind closed (sound_turn calibration start scripts world session closed sound) (turn_shortens calibration start scripts world front behind count closed sound has)

pub no_lines : (lines : List Line) → length lines ≤ 0 → lines ≡ []
no_lines [] few = refl
no_lines (line ∷ lines) few = absurd (omega arith)

abbrev AreDone : List Place → Type 0
AreDone [] = Unit {0}
AreDone (place ∷ places) = (place.left ≡ []) × AreDone places

done-append : (places : List Place) (place : Place) → AreDone places → place.left ≡ [] → AreDone (places ++ place ∷ [])
done-append [] place done own = (own, tt)
done-append (p ∷ places) place done own = (done.0, done-append places place done.1 own)

-- the last turns bring the sessions behind the first ones to their ends
last_turns_end : (calibration : Calibration) (start : Shared) (scripts : List (List Line)) (behind : List Place) (world : World) (front : List Place) (session : ℕ) → IsClosed start.state → IsSound calibration start scripts world →
    session ≡ suc (length front) → AreDone front → world.places ≡ front ++ behind → AreDone (turns_taken calibration (last_turns session behind) world).places
last_turns_end calibration start scripts [] world front session closed sound number done at = let P : List Place → Type 0 = λ ps. AreDone ps in subst P (sym (at ∙ append-nil front)) done
last_turns_end calibration start scripts (place ∷ behind) world front session closed sound number done at =
    let turns = replicate (length place.left + 1) session in
    let here : HasLeft world front behind (length place.left + 1) = record { place = place; at = at; few = omega arith } in
    let T : ℕ → Type 0 = λ s. HasLeft (turns_taken calibration (replicate (length place.left + 1) s) world) front behind 0 in
    let end = subst T (sym number) (turns_end calibration start scripts (length place.left + 1) world front behind closed sound here) in
    let now = turns_taken calibration turns world in
    let D : World → Type 0 = λ w. AreDone w.places in
    subst D (sym (turns_taken-append calibration turns (last_turns (session + 1) behind) world))
    (last_turns_end calibration start scripts behind now (front ++ end.place ∷ []) (session + 1) closed (sound_turns calibration start scripts turns world closed sound)
    (omega (arith, length-append front (end.place ∷ []))) (done-append front end.place done (no_lines end.place.left end.few)) (end.at ∙ sym (append_assoc front (end.place ∷ []) behind)))

-- sessions that are done are whole
whole_done : (calibration : Calibration) (session : ℕ) (start : Shared) (scripts : List (List Line)) (xs : List Entry) (places : List Place) → IsClosed start.state → IsLegal start xs → AreRunning calibration session start.state scripts xs places → AreDone places →
    AreWhole calibration session start.state scripts xs places
whole_done calibration session start [] xs [] closed legal run done = tt
whole_done calibration session start [] xs (place ∷ places) closed legal run done = absurd run
whole_done calibration session start (script ∷ scripts) xs [] closed legal run done = absurd run
whole_done calibration session start (script ∷ scripts) xs (place ∷ places) closed legal run done =
    let known = running_knows calibration session start script xs place closed run.0 legal run.1 in
    (run.1, (done.0, known.0.going), whole_done calibration (session + 1) start scripts xs places closed legal run.2 done.1)

-- Whatever the turns are, the journal is legal and each session runs to its end.
pub each_runs_to_its_end : EachRunsToItsEnd
each_runs_to_its_end calibration models capacity scripts turns fit =
    let start = shared_of models capacity in
    let closed = start-closed models in
    let first = begun calibration models capacity scripts in
    let met = turns_taken calibration turns first in
    let sound = sound_turns calibration start scripts turns first closed (sound_begun calibration models capacity scripts fit) in
    let end = sound_turns calibration start scripts (last_turns 1 met.places) met closed sound in
    let done = last_turns_end calibration start scripts met.places met [] 1 closed sound refl tt refl in
    let last = run_out calibration met in
    (end.legal, whole_done calibration 1 start scripts last.journal last.places closed end.legal end.running done)
