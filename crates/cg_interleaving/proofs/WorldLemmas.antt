-- What a turn makes of a world, told by the journal alone: it fixes where each session is that runs.
use Rattle.std.proofs.Common.{◌≡◌, ℕ, suc, ◌<◌, List, [], ◌∷◌, ◌++◌, length, sym, ap, ap₂, subst, ◌∙◌, Some}
use Rattle.std.specs.Prelude.{slice_get, slice_set}
use Rattle.cg_sharing.specs.Command.{Line}
use Rattle.cg_sharing.specs.Versions.{State, count_of}
use Rattle.cg_sharing.specs.Journal.{Answer, Entry, Shared, answer_of, after, state_after, shared_by, shared_after, IsLegal}
use Rattle.cg_sharing.specs.Course.{Calibration, Place, next, went, moved, begin, walk, Follows, IsRunning, AreFit}
use Rattle.cg_sharing.specs.Interleaving.{World, world_after, advanced, turn}
use Rattle.cg_sharing.proofs.JournalLemmas.{shared_after-append, state-shared_after, IsLegal-front, IsClosed, closed-after}
use Rattle.cg_sharing.proofs.CourseLemmas.{Knows, running-own, running_knows, went_next}

-- the answer of the last entry
legal_last : (shared : Shared) (xs : List Entry) (entry : Entry) → IsLegal shared (xs ++ entry ∷ []) → entry.answer ≡ answer_of (shared_after shared xs) entry.act
legal_last shared [] entry legal = legal.1
legal_last shared (x ∷ xs) entry legal = legal_last (shared_by shared x) xs entry legal.2

-- and its act
last_act : (calibration : Calibration) (session : ℕ) (state : State) (place : Place) (xs : List Entry) (entry : Entry) → entry.seat ≡ session → Follows calibration session state place (xs ++ entry ∷ []) → next (walk calibration session state place xs) ≡ Some entry.act
last_act calibration session state place [] entry own follows = follows.0 own
last_act calibration session state place (x ∷ xs) entry own follows = last_act calibration session (after state x) (moved calibration session (after state x) x place) xs entry own follows.1

-- The journal fixes where a session is.
pub same_place : (calibration : Calibration) (session : ℕ) (start : State) (script : List Line) (xs : List Entry) (p q : Place) → IsRunning calibration session start script xs p → IsRunning calibration session start script xs q → p ≡ q
same_place calibration session start script xs p q first second = first.reached ∙ sym second.reached

-- the world of a journal and places
abbrev pub world_at : Shared → List Entry → List Place → World
world_at start xs places = record { shared = shared_after start xs; journal = xs; places = places }

pub same_world : (world : World) (start : Shared) (xs ys : List Entry) (places : List Place) → world.shared ≡ shared_after start xs → world.journal ≡ xs → ys ≡ xs → places ≡ world.places → world_at start ys places ≡ world
same_world world start xs ys places shared journal more same =
    ap (λ es. world_at start es places) more
    ∙ ap (λ ps. world_at start xs ps) same
    ∙ ap₂ (λ (s : Shared) (es : List Entry). record { shared = s; journal = es; places = world.places }) (sym shared) (sym journal)

-- One entry more of a session, which leaves its journal a course and legal.
pub record IsNext (calibration : Calibration) (session : ℕ) (start : Shared) (script : List Line) (xs : List Entry) (entry : Entry) (before after : Place) : Type 0 where
  pub own : entry.seat ≡ session
  pub ran : IsRunning calibration session start.state script xs before
  pub runs : IsRunning calibration session start.state script (xs ++ entry ∷ []) after
  pub legal : IsLegal start (xs ++ entry ∷ [])

next_act : (calibration : Calibration) (session : ℕ) (start : Shared) (script : List Line) (xs : List Entry) (entry : Entry) (q p : Place) → IsNext calibration session start script xs entry q p → next q ≡ Some entry.act
next_act calibration session start script xs entry q p is =
    ap (λ r. next r) is.ran.reached ∙ last_act calibration session start.state (begin calibration session start.state script) xs entry is.own is.runs.follows

next_place : (calibration : Calibration) (session : ℕ) (start : Shared) (script : List Line) (xs : List Entry) (entry : Entry) (q p : Place) → IsNext calibration session start script xs entry q p → went calibration (after (state_after start.state xs) entry) entry.answer q ≡ p
next_place calibration session start script xs entry q p is =
    same_place calibration session start.state script (xs ++ entry ∷ []) (went calibration (after (state_after start.state xs) entry) entry.answer q) p
    (running-own calibration session start.state script xs entry q is.ran is.own (next_act calibration session start script xs entry q p is)) is.runs

-- A turn of the session makes it,
pub turn_makes : (calibration : Calibration) (i : ℕ) (start : Shared) (script : List Line) (xs : List Entry) (places : List Place) (entry : Entry) (q p : Place) → slice_get places i ≡ Some q → IsNext calibration (suc i) start script xs entry q p →
    turn calibration (suc i) (world_at start xs places) ≡ world_at start (xs ++ entry ∷ []) (slice_set places i p)
turn_makes calibration i start script xs places entry q p here is =
    let shared = shared_after start xs in
    let made : Entry → World = λ e. record { shared = shared_by shared e; journal = xs ++ e ∷ []; places = slice_set places i (went calibration (after shared.state e) e.answer q) } in
    let same : record { seat = suc i; act = entry.act; answer = answer_of shared entry.act } ≡ entry =
    ap₂ (λ (n : ℕ) (a : Answer). record { seat = n; act = entry.act; answer = a }) (sym is.own) (sym (legal_last start xs entry is.legal)) in
    let there : went calibration (after shared.state entry) entry.answer q ≡ p =
    ap (λ s. went calibration (after s entry) entry.answer q) (state-shared_after start xs) ∙ next_place calibration (suc i) start script xs entry q p is in
    ap (λ o. advanced calibration (suc i) o (world_at start xs places)) here
    ∙ ap (λ a. world_after calibration (suc i) q a (world_at start xs places)) (next_act calibration (suc i) start script xs entry q p is)
    ∙ ap made same
    ∙ ap₂ (λ (s : Shared) (r : Place). record { shared = s; journal = xs ++ entry ∷ []; places = slice_set places i r }) (sym (shared_after-append start xs (entry ∷ []))) there

-- and leaves fewer lines.
pub turn_shortens : (calibration : Calibration) (session : ℕ) (start : Shared) (script : List Line) (xs : List Entry) (entry : Entry) (q p : Place) → IsClosed start.state → AreFit script → IsNext calibration session start script xs entry q p → length p.left < length q.left
turn_shortens calibration session start script xs entry q p closed fit is =
    let shared = shared_after start xs in
    let front = IsLegal-front start xs (entry ∷ []) is.legal in
    let known = running_knows calibration session start script xs q closed fit front is.ran in
    let same = sym (state-shared_after start xs) in
    let K : State → Type 0 = λ s. Knows (count_of s) q in
    let C : State → Type 0 = λ s. IsClosed s in
    let new = went_next calibration shared session q entry.act entry.answer (subst K same known.0) known.1 (subst C same (closed-after start xs front closed)) (next_act calibration session start script xs entry q p is) (legal_last start xs entry is.legal) in
    let there : went calibration (after shared.state entry) entry.answer q ≡ p =
    ap (λ s. went calibration (after s entry) entry.answer q) (state-shared_after start xs) ∙ next_place calibration session start script xs entry q p is in
    subst (λ (r : Place). length r.left < length q.left) there new.2
