-- A session goes on in its course.
use Rattle.std.proofs.Common.{◌≡◌, ℕ, zero, suc, ◌+◌, Bool, false, cond, is_some, List, [], ◌∷◌, ◌++◌, length, take, slice_get, MatchBool, sym, ap, subst, ◌∙◌, arith, Some, None}
use Rattle.std.proofs.lemmas.Option.{slice_get_within}
use Rattle.cg_sharing.specs.Command.{Line}
use Rattle.cg_sharing.specs.Course.{Calibration, Place, act_of, done_at, settled, entrance_of, IsStopped, Reaches, AreFit}
use Rattle.cg_sharing.proofs.CourseLemmas.{keeps-done_at}
use Rattle.cg_sharing.proofs.ReachLemmas.{reach_begin, reach_done, reach_others}
use Rattle.cg_book.specs.Plain.{state_of}
use Rattle.cg_session.specs.Port.{Seen}
use Rattle.cg_session.specs.declared.session.Session.{Session}
use Rattle.cg_session.specs.Standing.{Shows, HasText}
use Rattle.cg_session.specs.Session.{IsIn, StandsAt, IsFresh, IsAt, IsSame}

-- the same as the course of `StandsAt`, by its parts
abbrev StandsBy : Calibration → Seen → ℕ → List Line → ℕ → Bool → Place → Type 0
StandsBy calibration seen number script done stopped place =
    MatchBool stopped (IsStopped calibration number seen.start.state script seen.journal place) (Reaches calibration number seen.start.state (take done script) seen.journal place)

stands-same : (calibration : Calibration) (seen : Seen) (m n : ℕ) (script script' : List Line) (done done' : ℕ) (b c : Bool) (place : Place) → n ≡ m → script' ≡ script → done' ≡ done → c ≡ b → StandsBy calibration seen m script done b place → StandsBy calibration seen n script' done' c place
stands-same calibration seen m n script script' done done' b c place e1 e2 e3 e4 h =
    let P1 : ℕ → Type 0 = λ x. StandsBy calibration seen x script done b place in
    let P2 : List Line → Type 0 = λ x. StandsBy calibration seen n x done b place in
    let P3 : ℕ → Type 0 = λ x. StandsBy calibration seen n script' x b place in
    let P4 : Bool → Type 0 = λ x. StandsBy calibration seen n script' done' x place in
    subst P4 (sym e4) (subst P3 (sym e3) (subst P2 (sym e2) (subst P1 (sym e1) h)))

-- a session that runs
pub going : (calibration : Calibration) (seen : Seen) (s : Session) (place : Place) → s.stopped ≡ false → IsIn s place → Reaches calibration s.number seen.start.state (take s.done s.script) seen.journal place → StandsAt calibration seen s place
going calibration seen s place is within reach = (within, (let P : Bool → Type 0 = λ b. StandsBy calibration seen s.number s.script s.done b place in subst P (sym is) reach))

pub reaches_at : (calibration : Calibration) (seen : Seen) (s : Session) (place : Place) → s.stopped ≡ false → StandsAt calibration seen s place → Reaches calibration s.number seen.start.state (take s.done s.script) seen.journal place
reaches_at calibration seen s place is stands = let P : Bool → Type 0 = λ b. StandsBy calibration seen s.number s.script s.done b place in subst P is stands.1

-- A session begins where its course does.
pub begun_at : (calibration : Calibration) (seen : Seen) (s : Session) → s.done ≡ 0 → s.stopped ≡ false → s.standing.version ≡ None → Shows s.standing (entrance_of s.number) → AreFit s.script → IsFresh s.number seen → IsAt calibration seen s
begun_at calibration seen s none run closed shows ready fresh =
    let entrance = entrance_of s.number in
    let D : ℕ → Type 0 = λ n. Reaches calibration s.number seen.start.state (take n s.script) seen.journal entrance in
    let reach = subst D (sym none) (reach_others calibration s.number seen.start.state [] [] seen.journal entrance (reach_begin calibration s.number seen.start.state) fresh.others tt) in
    record {
      models = fresh.models;
      capacity = fresh.capacity;
      start = fresh.start;
      legal = fresh.legal;
      ready = ready;
      within = omega (arith, none);
      stands = (entrance, going calibration seen s entrance run (record { shows = shows; stopped = run }) reach);
      text = subst (λ v. HasText (state_of seen) v) (sym closed) tt;
    }

-- Room alone changes nothing.
pub same_stands : (calibration : Calibration) (seen : Seen) (old new : Session) (place : Place) → IsSame old new → new.done ≡ old.done → Shows new.standing place → StandsAt calibration seen old place → StandsAt calibration seen new place
same_stands calibration seen old new place same done shows stands = (
  record { shows = shows; stopped = same.stopped ∙ stands.0.stopped },
  stands-same calibration seen old.number new.number old.script new.script old.done new.done old.stopped new.stopped place same.number same.script done same.stopped stands.1,
)

pub same_at : (calibration : Calibration) (seen : Seen) (old new : Session) → IsSame old new → new.done ≡ old.done → ((place : Place) → Shows old.standing place → Shows new.standing place) → IsAt calibration seen old → IsAt calibration seen new
same_at calibration seen old new same done shows at =
    let place = at.stands.0 in
    let stands = at.stands.1 in
    record {
      models = at.models;
      capacity = at.capacity;
      start = at.start;
      legal = at.legal;
      ready = subst (λ ls. AreFit ls) (sym same.script) at.ready;
      within = omega (arith, at.within, done, ap (λ (ls : List Line). length ls) same.script);
      stands = (place, same_stands calibration seen old new place same done (shows place stands.0.shows) stands);
      text = subst (λ v. HasText (state_of seen) v) (sym same.version) at.text;
    }

pub take-slice_get : {A : Type 0} (xs : List A) (n : ℕ) (x : A) → slice_get xs n ≡ Some x → take (n + 1) xs ≡ take n xs ++ x ∷ []
take-slice_get [] n x is = absurd (cc)
take-slice_get (y ∷ ys) zero x is = let same : y ≡ x = cc in ap (λ z. z ∷ []) same
take-slice_get (y ∷ ys) (suc n) x is = let next : suc n + 1 ≡ suc (n + 1) = omega arith in rw next (ap (λ zs. y ∷ zs) (take-slice_get ys n x is))

-- A command that makes no event leads on.
pub done_stands : (calibration : Calibration) (seen : Seen) (old new : Session) (line : Line) (place : Place) → IsSame old new → old.stopped ≡ false → slice_get old.script old.done ≡ Some line → act_of place line.command ≡ None →
    Shows new.standing (done_at calibration (state_of seen) line.number line.command place) → new.done ≡ old.done + 1 → StandsAt calibration seen old place → StandsAt calibration seen new (done_at calibration (state_of seen) line.number line.command place)
done_stands calibration seen old new line p same run here none shows done stands =
    let q = done_at calibration (state_of seen) line.number line.command p in
    let leads : (rest : List Line) → settled calibration (state_of seen) (line ∷ rest) p ≡ settled calibration (state_of seen) rest q =
    λ rest. ap (λ a. cond (is_some a) (record p { left = line ∷ rest }) (settled calibration (state_of seen) rest q)) none in
    let reach = reach_done calibration old.number seen.start.state (take old.done old.script) (line ∷ []) seen.journal p q (reaches_at calibration seen old p run stands) leads in
    let R : List Line → Type 0 = λ ls. Reaches calibration old.number seen.start.state ls seen.journal q in
    let B : Bool → Type 0 = λ b. StandsBy calibration seen old.number old.script (old.done + 1) b q in
    let kept = keeps-done_at calibration (state_of seen) line.number line.command p in (
      record { shows = shows; stopped = same.stopped ∙ stands.0.stopped ∙ sym kept.stopped },
      stands-same calibration seen old.number new.number old.script new.script (old.done + 1) new.done old.stopped new.stopped q same.number same.script done same.stopped
          (subst B (sym run) (subst R (sym (take-slice_get old.script old.done line here)) reach)),
    )

pub done_next : (calibration : Calibration) (seen : Seen) (old new : Session) (line : Line) → IsSame old new → old.stopped ≡ false → slice_get old.script old.done ≡ Some line →
    ((place : Place) → Shows old.standing place → act_of place line.command ≡ None) → ((place : Place) → Shows old.standing place → Shows new.standing (done_at calibration (state_of seen) line.number line.command place)) →
    new.done ≡ old.done + 1 → IsAt calibration seen old → IsAt calibration seen new
done_next calibration seen old new line same run here none shows done at =
    let place = at.stands.0 in
    let stands = at.stands.1 in
    let more = slice_get_within old.script old.done line here in
    record {
      models = at.models;
      capacity = at.capacity;
      start = at.start;
      legal = at.legal;
      ready = subst (λ ls. AreFit ls) (sym same.script) at.ready;
      within = omega (arith, more, done, ap (λ (ls : List Line). length ls) same.script);
      stands = (done_at calibration (state_of seen) line.number line.command place, done_stands calibration seen old new line place same run here (none place stands.0.shows) (shows place stands.0.shows) done stands);
      text = subst (λ v. HasText (state_of seen) v) (sym same.version) at.text;
    }
