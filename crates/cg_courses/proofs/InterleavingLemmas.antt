-- Turns keep the journal legal and each session in its course, and the last turns bring each to its end.
use Rattle.std.proofs.Common.{◌≡◌, ◌≢◌, ℕ, zero, suc, ◌+◌, ◌<◌, List, [], ◌∷◌, ◌++◌, length, replicate, refl, sym, ap, subst, ◌∙◌, arith, Option, Some, None}
use Rattle.std.specs.Prelude.{All, slice_get, slice_set}
use Rattle.std.proofs.lemmas.Option.{slice_get_within}
use Rattle.cg_sharing.specs.Command.{Line}
use Rattle.cg_sharing.specs.Versions.{State, StartModel, start_of}
use Rattle.cg_sharing.specs.Journal.{Act, Entry, Shared, shared_of, answer_of, after, state_after, shared_by, shared_after, May, IsLegal}
use Rattle.cg_courses.specs.Course.{Calibration, Place, first_act, next, went, IsRunning, AreFit}
use Rattle.cg_courses.specs.Interleaving.{World, place_of, world_after, advanced, turn, turns_taken, begins, begun, acts_left, line_done, lines_done, lines_left, run_out_from, run_out, AreWhole, EachRunsToItsEnd}
use Rattle.cg_sharing.proofs.JournalLemmas.{shared_after-append, state-shared_after, IsLegal-append}
use Rattle.cg_courses.proofs.CourseLemmas.{running-others, running-own, Steady, IsFresh, fresh, may_next, running_steady}
use Rattle.cg_courses.proofs.TurnLemmas.{run_out_idle, length_run_out}
use Rattle.cg_courses.proofs.RunLemmas.{rest_begun, rest_turns, idle_over, rounds_run_out}
use Rattle.cg_courses.proofs.StopLemmas.{none_left}

-- The sessions from this number on are at places of their courses.
abbrev pub AreRunning : Calibration → ℕ → State → List (List Line) → List Entry → List Place → Type 0
AreRunning calibration session start [] entries [] = Unit {0}
AreRunning calibration session start [] entries (place ∷ places) = ⊥
AreRunning calibration session start (script ∷ scripts) entries [] = ⊥
AreRunning calibration session start (script ∷ scripts) entries (place ∷ places) =
    AreFit script × IsRunning calibration session start script entries place × AreRunning calibration (session + 1) start scripts entries places

-- The journal is legal, what is shared is what it leads to, and each session is at a place of its course.
pub record IsSound (calibration : Calibration) (start : Shared) (scripts : List (List Line)) (world : World) : Type 0 where
  pub legal : IsLegal start world.journal
  pub shared : world.shared ≡ shared_after start world.journal
  pub running : AreRunning calibration 1 start.state scripts world.journal world.places

-- so its versions are those after the journal
pub state_of-sound : (start : Shared) (world : World) → world.shared ≡ shared_after start world.journal → world.shared.state ≡ state_after start.state world.journal
state_of-sound start world same = ap (λ (s : Shared). s.state) same ∙ state-shared_after start world.journal

-- An entry of an earlier session leaves them.
after_earlier : (calibration : Calibration) (session : ℕ) (start : State) (scripts : List (List Line)) (xs : List Entry) (entry : Entry) (places : List Place) → entry.seat < session →
    AreRunning calibration session start scripts xs places → AreRunning calibration session start scripts (xs ++ entry ∷ []) places
after_earlier calibration session start [] xs entry [] less run = tt
after_earlier calibration session start [] xs entry (place ∷ places) less run = run
after_earlier calibration session start (script ∷ scripts) xs entry [] less run = run
after_earlier calibration session start (script ∷ scripts) xs entry (place ∷ places) less run =
    let ne : entry.seat ≢ session = omega arith in
    (run.0, running-others calibration session start script xs (entry ∷ []) place run.1 (ne, tt), after_earlier calibration (session + 1) start scripts xs entry places (omega arith) run.2)

-- One of these moves just its own place.
after_own : (calibration : Calibration) (session : ℕ) (start : State) (scripts : List (List Line)) (xs : List Entry) (entry : Entry) (places : List Place) (i : ℕ) (place : Place) → entry.seat ≡ session + i →
    slice_get places i ≡ Some place → next place ≡ Some entry.act → AreRunning calibration session start scripts xs places →
    AreRunning calibration session start scripts (xs ++ entry ∷ []) (slice_set places i (went calibration (after (state_after start xs) entry) entry.answer place))
after_own calibration session start scripts xs entry [] i place own at act run = absurd (cc)
after_own calibration session start [] xs entry (q ∷ places) i place own at act run = absurd run
after_own calibration session start (script ∷ scripts) xs entry (q ∷ places) zero place own at act run =
    let same : q ≡ place = cc in
    let seat : entry.seat ≡ session = omega arith in
    let P : Place → Type 0 = λ p. IsRunning calibration session start script xs p in
    (run.0, running-own calibration session start script xs entry place (subst P same run.1) seat act, after_earlier calibration (session + 1) start scripts xs entry places (omega arith) run.2)
after_own calibration session start (script ∷ scripts) xs entry (q ∷ places) (suc i) place own at act run =
    let ne : entry.seat ≢ session = omega arith in
    (run.0, running-others calibration session start script xs (entry ∷ []) q run.1 (ne, tt), after_own calibration (session + 1) start scripts xs entry places i place (omega arith) at act run.2)

-- how each of them stands
steady_at : (calibration : Calibration) (session : ℕ) (start : Shared) (scripts : List (List Line)) (xs : List Entry) (places : List Place) (i : ℕ) (place : Place) → IsFresh start → IsLegal start xs →
    slice_get places i ≡ Some place → AreRunning calibration session start.state scripts xs places → Steady (session + i) (shared_after start xs) place
steady_at calibration session start scripts xs [] i place fresh legal at run = absurd (cc)
steady_at calibration session start [] xs (q ∷ places) i place fresh legal at run = absurd run
steady_at calibration session start (script ∷ scripts) xs (q ∷ places) zero place fresh legal at run =
    let same : q ≡ place = cc in
    let number : session + 0 ≡ session = omega arith in
    let P : Place → Type 0 = λ p. Steady (session + 0) (shared_after start xs) p in
    let S : ℕ → Type 0 = λ n. Steady n (shared_after start xs) q in
    subst P same (subst S (sym number) (running_steady calibration session start script xs q fresh run.0 legal run.1))
steady_at calibration session start (script ∷ scripts) xs (q ∷ places) (suc i) place fresh legal at run =
    let number : session + 1 + i ≡ session + suc i = omega arith in
    let S : ℕ → Type 0 = λ n. Steady n (shared_after start xs) place in
    subst S number (steady_at calibration (session + 1) start scripts xs places i place fresh legal at run.2)

-- the session at a place of the world
pub steady_in : (calibration : Calibration) (start : Shared) (scripts : List (List Line)) (world : World) (i : ℕ) (place : Place) → IsFresh start → IsSound calibration start scripts world → slice_get world.places i ≡ Some place →
    Steady (suc i) world.shared place
steady_in calibration start scripts world i place fresh sound at =
    let number : 1 + i ≡ suc i = omega arith in
    let S : Shared → Type 0 = λ s. Steady (suc i) s place in
    let N : ℕ → Type 0 = λ n. Steady n (shared_after start world.journal) place in
    subst S (sym sound.shared) (subst N number (steady_at calibration 1 start scripts world.journal world.places i place fresh sound.legal at sound.running))

-- A session's next act keeps the world sound.
sound_act : (calibration : Calibration) (start : Shared) (scripts : List (List Line)) (world : World) (i : ℕ) (place : Place) (act : Act) → IsFresh start → IsSound calibration start scripts world → slice_get world.places i ≡ Some place →
    next place ≡ Some act → IsSound calibration start scripts (world_after calibration (suc i) place (Some act) world)
sound_act calibration start scripts world i place act fresh sound at is =
    let entry : Entry = record { seat = suc i; act = act; answer = answer_of world.shared act } in
    let before = shared_after start world.journal in
    let M : Shared → Type 0 = λ s. May s (suc i) act in
    let may = subst M sound.shared (may_next world.shared (suc i) place act (steady_in calibration start scripts world i place fresh sound at) is) in
    let right : entry.answer ≡ answer_of before act = ap (λ s. answer_of s act) sound.shared in
    let now : after world.shared.state entry ≡ after (state_after start.state world.journal) entry = ap (λ s. after s entry) (state_of-sound start world sound.shared) in
    let P : State → Type 0 = λ s. AreRunning calibration 1 start.state scripts (world.journal ++ entry ∷ []) (slice_set world.places i (went calibration s entry.answer place)) in
    record {
      legal = IsLegal-append start world.journal (entry ∷ []) sound.legal (may, right, tt);
      shared = ap (λ s. shared_by s entry) sound.shared ∙ sym (shared_after-append start world.journal (entry ∷ []));
      running = subst P (sym now) (after_own calibration 1 start.state scripts world.journal entry world.places i place (omega arith) at is sound.running);
    }

sound_next : (calibration : Calibration) (start : Shared) (scripts : List (List Line)) (world : World) (i : ℕ) (place : Place) (act : Option Act) → IsFresh start → IsSound calibration start scripts world → slice_get world.places i ≡ Some place →
    next place ≡ act → IsSound calibration start scripts (world_after calibration (suc i) place act world)
sound_next calibration start scripts world i place None fresh sound at is = sound
sound_next calibration start scripts world i place (Some act) fresh sound at is = sound_act calibration start scripts world i place act fresh sound at is

sound_place : (calibration : Calibration) (start : Shared) (scripts : List (List Line)) (world : World) (i : ℕ) (place : Option Place) → IsFresh start → IsSound calibration start scripts world → slice_get world.places i ≡ place →
    IsSound calibration start scripts (advanced calibration (suc i) place world)
sound_place calibration start scripts world i None fresh sound at = sound
sound_place calibration start scripts world i (Some place) fresh sound at = sound_next calibration start scripts world i place (next place) fresh sound at refl

-- So does each turn,
pub sound_turn : (calibration : Calibration) (start : Shared) (scripts : List (List Line)) (world : World) (session : ℕ) → IsFresh start → IsSound calibration start scripts world → IsSound calibration start scripts (turn calibration session world)
sound_turn calibration start scripts world zero fresh sound = sound
sound_turn calibration start scripts world (suc i) fresh sound = sound_place calibration start scripts world i (slice_get world.places i) fresh sound refl

-- and each list of turns.
pub sound_turns : (calibration : Calibration) (start : Shared) (scripts : List (List Line)) (turns : List ℕ) (world : World) → IsFresh start → IsSound calibration start scripts world → IsSound calibration start scripts (turns_taken calibration turns world)
sound_turns calibration start scripts [] world fresh sound = sound
sound_turns calibration start scripts (session ∷ turns) world fresh sound = sound_turns calibration start scripts turns (turn calibration session world) fresh (sound_turn calibration start scripts world session fresh sound)

begins_running : (calibration : Calibration) (start : State) (session : ℕ) (scripts : List (List Line)) → All AreFit scripts → AreRunning calibration session start scripts [] (begins calibration start session scripts)
begins_running calibration start session [] fit = tt
begins_running calibration start session (script ∷ scripts) fit =
    (fit 0 script (omega arith), record { follows = tt; reached = refl }, begins_running calibration start (session + 1) scripts (λ i d within. fit (suc i) d (omega arith)))

-- The world is sound at the beginning.
pub sound_begun : (calibration : Calibration) (models : List StartModel) (capacity : ℕ) (scripts : List (List Line)) → All AreFit scripts →
    IsSound calibration (shared_of models capacity) scripts (begun calibration models capacity scripts)
sound_begun calibration models capacity scripts fit = record { legal = tt; shared = refl; running = begins_running calibration (start_of models) 1 scripts fit }

sound_lines : (calibration : Calibration) (start : Shared) (scripts : List (List Line)) (session lines : ℕ) (world : World) → IsFresh start → IsSound calibration start scripts world → IsSound calibration start scripts (lines_done calibration session lines world)
sound_lines calibration start scripts session zero world fresh sound = sound
sound_lines calibration start scripts session (suc lines) world fresh sound =
    sound_lines calibration start scripts session lines (line_done calibration session world) fresh (sound_turns calibration start scripts (replicate (acts_left (place_of session world.places)) session) world fresh sound)

pub sound_out : (calibration : Calibration) (start : Shared) (scripts : List (List Line)) (session sessions : ℕ) (world : World) → IsFresh start → IsSound calibration start scripts world → IsSound calibration start scripts (run_out_from calibration session sessions world)
sound_out calibration start scripts session zero world fresh sound = sound
sound_out calibration start scripts session (suc sessions) world fresh sound =
    let lines = lines_left (place_of session world.places) in
    sound_out calibration start scripts (session + 1) sessions (lines_done calibration session lines world) fresh (sound_lines calibration start scripts session lines world fresh sound)

-- sessions without a next act are whole
whole_idle : (calibration : Calibration) (session : ℕ) (start : Shared) (scripts : List (List Line)) (xs : List Entry) (places : List Place) → IsFresh start → IsLegal start xs → AreRunning calibration session start.state scripts xs places →
    ((i : ℕ) (place : Place) → slice_get places i ≡ Some place → next place ≡ None) → AreWhole calibration session start.state scripts xs places
whole_idle calibration session start [] xs [] fresh legal run idle = tt
whole_idle calibration session start [] xs (place ∷ places) fresh legal run idle = absurd run
whole_idle calibration session start (script ∷ scripts) xs [] fresh legal run idle = absurd run
whole_idle calibration session start (script ∷ scripts) xs (place ∷ places) fresh legal run idle =
    let steady = running_steady calibration session start script xs place fresh run.0 legal run.1 in
    let none = idle 0 place refl in
    (run.1, (steady.rests.ends none, none_left place.todo (first_act place place.left) none, steady.knows.going), whole_idle calibration (session + 1) start scripts xs places fresh legal run.2 (λ i p at. idle (suc i) p at))

-- Whatever the turns are, the journal is legal and each session runs to its end.
pub each_runs_to_its_end : EachRunsToItsEnd
each_runs_to_its_end calibration models capacity scripts turns fit =
    let start = shared_of models capacity in
    let first = begun calibration models capacity scripts in
    let met = turns_taken calibration turns first in
    let sound = sound_turns calibration start scripts turns first (fresh models capacity) (sound_begun calibration models capacity scripts fit) in
    let count = length met.places in
    let end = sound_out calibration start scripts 1 count met (fresh models capacity) sound in
    let last = run_out calibration met in
    let out = rounds_run_out calibration 1 count met (rest_turns calibration turns first (rest_begun calibration models capacity scripts)) in
    let many = length_run_out calibration 1 count met last out in
    let idle : (i : ℕ) (place : Place) → slice_get last.places i ≡ Some place → next place ≡ None = λ i place at.
    let within = slice_get_within last.places i place at in
    idle_over (slice_get last.places i) (run_out_idle calibration (suc i) 1 count met last (omega arith) (omega (arith, within, many)) out) place at in
    (end.legal, whole_idle calibration 1 start scripts last.journal last.places (fresh models capacity) end.legal end.running idle)
