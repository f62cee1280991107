-- A session stays in its course while others make entries.
use Rattle.std.proofs.Common.{◌≡◌, ℕ, ◌≤◌, Bool, true, false, List, [], ◌∷◌, ◌++◌, take, drop, MatchBool, refl, sym, ap, ap₂, subst, ◌∙◌, append_assoc, Option, inl, inr}
use Rattle.std.proofs.lemmas.List.{take-append-drop}
use Rattle.cg_sharing.specs.Command.{Line}
use Rattle.cg_sharing.specs.Versions.{State, count_of}
use Rattle.cg_sharing.specs.Journal.{Entry, Shared, state_after, IsLegal}
use Rattle.cg_sharing.specs.Course.{Calibration, Place, settled, AreOthers, IsRunning, IsStopped, Reaches, AreFit}
use Rattle.cg_sharing.proofs.JournalLemmas.{state_after-append, IsLegal-front, grows-state_after, IsBelow, IsBelow-more, IsClosed}
use Rattle.cg_sharing.proofs.CourseLemmas.{running-others, running_knows}
use Rattle.cg_sharing.proofs.ReachLemmas.{SameText, reach_others}
use Rattle.cg_book.specs.Plain.{state_of}
use Rattle.cg_session.specs.Port.{Seen}
use Rattle.cg_curve.specs.Curves.{NamedCurve}
use Rattle.cg_session.specs.declared.session.Session.{Session}
use Rattle.cg_session.specs.Session.{script_of, IsAt}
use Rattle.cg_session.proofs.SessionLemmas.{going, reaches_at}
use Rattle.cg_session.proofs.AdvanceLemmas.{fits, known_version, text_later, same_text, stands_stopped}
use Rattle.cg_interleaving.specs.Taking.{HasPlace, HasEnd}

-- equal beginnings have equal versions
pub same_state : {a b : Shared} → a ≡ b → a.state ≡ b.state
same_state same = ap (λ (s : Shared). s.state) same

pub stopped_is : (calibration : Calibration) (session : ℕ) (start : State) (script : List Line) (xs : List Entry) (place : Place) → IsStopped calibration session start script xs place → place.stopped ≡ true
stopped_is calibration session start script xs place stop = ap (λ (p : Place). p.stopped) stop.reached

pub stopped_left : (calibration : Calibration) (session : ℕ) (start : State) (script : List Line) (xs : List Entry) (place : Place) → IsStopped calibration session start script xs place → place.left ≡ []
stopped_left calibration session start script xs place stop = ap (λ (p : Place). p.left) stop.reached

AreOthers-append : (session : ℕ) (xs ys : List Entry) → AreOthers session xs → AreOthers session ys → AreOthers session (xs ++ ys)
AreOthers-append session [] ys first then = then
AreOthers-append session (x ∷ xs) ys first then = (first.0, AreOthers-append session xs ys first.1 then)

-- The entries of others leave a stopped course one.
pub stopped_later : (calibration : Calibration) (session : ℕ) (start : State) (script : List Line) (xs more : List Entry) (place : Place) → AreOthers session more → IsStopped calibration session start script xs place →
    IsStopped calibration session start script (xs ++ more) place
stopped_later calibration session start script xs more place others stop = record {
  commands = stop.commands;
  earlier = stop.earlier;
  later = stop.later ++ more;
  last = stop.last;
  running = stop.running;
  unfinished = stop.unfinished;
  others = AreOthers-append session stop.later more stop.others others;
  reached = stop.reached;
  all = ap (λ es. es ++ more) stop.all ∙ append_assoc stop.earlier stop.later more;
}

-- So they do with the session's place,
pub place_later : (calibration : Calibration) (number : ℕ) (start : State) (xs more : List Entry) (session : Session) (place : Place) → AreOthers number more → HasPlace calibration number start xs session place → HasPlace calibration number start (xs ++ more) session place
place_later calibration number start xs more session place others (inl run) = inl (run.0, running-others calibration number start (script_of session) xs more place run.1 others)
place_later calibration number start xs more session place others (inr stop) = inr (stop.0, stop.1, stopped_later calibration number start (script_of session) xs more place others stop.2)

-- and with its end.
pub end_later : (calibration : Calibration) (number : ℕ) (start : State) (xs more : List Entry) (session : Session) → AreOthers number more → HasEnd calibration number start xs session → HasEnd calibration number start (xs ++ more) session
end_later calibration number start xs more session others (inl stopped) = inl stopped
end_later calibration number start xs more session others (inr end) = inr (end.0, end.1, running-others calibration number start (script_of session) xs more end.0 end.2 others, end.3)

-- the version of a session that was stopped is known
knows_stopped : (calibration : Calibration) (session : ℕ) (start : Shared) (script : List Line) (xs : List Entry) (place : Place) → IsClosed start.state → ((n : ℕ) → AreFit (take n script)) → IsLegal start xs → IsStopped calibration session start.state script xs place →
    IsBelow (count_of (state_after start.state xs)) place.version
knows_stopped calibration session start script xs place closed fit legal stop =
    let L : List Entry → Type 0 = λ es. IsLegal start es in
    let C : List Entry → Type 0 = λ es. count_of (state_after start.state stop.earlier) ≤ count_of (state_after start.state es) in
    let N : State → Type 0 = λ s. count_of (state_after start.state stop.earlier) ≤ count_of s in
    let known = running_knows calibration session start (take stop.commands script) stop.earlier stop.last closed (fit stop.commands) (IsLegal-front start stop.earlier stop.later (subst L stop.all legal)) stop.running in
    let grows : C xs = subst C (sym stop.all) (subst N (sym (state_after-append start.state stop.earlier stop.later)) (grows-state_after (state_after start.state stop.earlier) stop.later)) in
    subst (λ v. IsBelow (count_of (state_after start.state xs)) v) (sym (ap (λ (p : Place). p.version) stop.reached)) (IsBelow-more grows stop.last.version known.0.version)

-- what `StandsAt` says of the course once it is told whether the session is stopped
abbrev StandsAs : Calibration → Seen → Session → Place → Bool → Type 0
StandsAs calibration seen s place b =
    MatchBool b (IsStopped calibration s.number seen.start.state s.script seen.journal place) (Reaches calibration s.number seen.start.state (take s.done s.script) seen.journal place)

kept_here : (calibration : Calibration) (seen : Seen) (s : Session) (more : List Entry) (curves : List NamedCurve) → IsClosed seen.start.state → IsAt calibration seen s → AreOthers s.number more → IsLegal seen.start (seen.journal ++ more) → IsAt calibration (record { start = seen.start; journal = seen.journal ++ more; origin = curves }) s
kept_here calibration seen s more curves closed at others legal =
    let new : Seen = record { start = seen.start; journal = seen.journal ++ more; origin = curves } in
    let place = at.stands.0 in
    let stands = at.stands.1 in
    elim s.stopped as (λ b. s.stopped ≡ b → IsAt calibration new s) [
      | true ↦ λ is.
          let stop = stands_stopped calibration seen s place is stands in
          let later = stopped_later calibration s.number seen.start.state s.script seen.journal more place others stop in
          let P : Bool → Type 0 = λ b. StandsAs calibration new s place b in
          let B : Option ℕ → Type 0 = λ v. IsBelow (count_of (state_of seen)) v in
          let known = subst B (sym stands.0.shows.version) (knows_stopped calibration s.number seen.start s.script seen.journal place closed (λ n. fits n s.script at.ready) at.legal stop) in
          record { models = at.models; capacity = at.capacity; start = at.start; legal = legal; ready = at.ready; within = at.within; stands = (place, (stands.0, subst P (sym is) later)); text = text_later seen.start.state seen.journal more s.standing.version known at.text }
      | false ↦ λ is.
          let did = take s.done s.script in
          let known = known_version calibration seen s is at in
          let S : Option ℕ → Type 0 = λ v. SameText (state_of seen) (state_of new) v in
          let same = subst S stands.0.shows.version (same_text seen.start.state seen.journal more s.standing.version known) in
          let on = reach_others calibration s.number seen.start.state did seen.journal more place (reaches_at calibration seen s place is stands) others same in
          record { models = at.models; capacity = at.capacity; start = at.start; legal = legal; ready = at.ready; within = at.within; stands = (place, going calibration new s place is stands.0 on); text = text_later seen.start.state seen.journal more s.standing.version known at.text }
    ] refl

-- A session is in its course still once others made entries.
pub kept_at : (calibration : Calibration) (seen new : Seen) (s : Session) (more : List Entry) → IsClosed seen.start.state → IsAt calibration seen s → AreOthers s.number more → new.start ≡ seen.start → new.journal ≡ seen.journal ++ more → IsLegal new.start new.journal → IsAt calibration new s
kept_at calibration seen new s more closed at others begins grown legal =
    let L : Shared → Type 0 = λ b. IsLegal b new.journal in
    let J : List Entry → Type 0 = λ j. IsLegal seen.start j in
    let same : record { start = seen.start; journal = seen.journal ++ more; origin = new.origin } ≡ new =
    ap₂ (λ (b : Shared) (j : List Entry). record { start = b; journal = j; origin = new.origin }) (sym begins) (sym grown) in
    subst (λ (now : Seen). IsAt calibration now s) same (kept_here calibration seen s more new.origin closed at others (subst J grown (subst L begins legal)))

-- A session that isn't stopped runs in the course of its whole script.
pub runs_on : (calibration : Calibration) (seen : Seen) (s : Session) → s.stopped ≡ false → (at : IsAt calibration seen s) →
    IsRunning calibration s.number seen.start.state s.script seen.journal (settled calibration (state_of seen) (drop s.done s.script) at.stands.0)
runs_on calibration seen s run at =
    let R : List Line → Type 0 = λ ls. IsRunning calibration s.number seen.start.state ls seen.journal (settled calibration (state_of seen) (drop s.done s.script) at.stands.0) in
    subst R (take-append-drop s.done s.script) (reaches_at calibration seen s at.stands.0 run at.stands.1 (drop s.done s.script))
