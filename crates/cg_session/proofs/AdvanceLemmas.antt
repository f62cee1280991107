-- What a call of a session comes to.
use Rattle.std.proofs.Common.{◌≡◌, ℕ, ◌+◌, ◌<◌, ◌≤◌, Bool, true, false, List, [], ◌∷◌, ◌++◌, length, take, slice_get, MatchBool, refl, sym, ap, subst, ◌∙◌, arith, append-nil, append_assoc, length-drop, Option, Some, None}
use Rattle.std.proofs.lemmas.Option.{slice_get_within}
use Rattle.std.proofs.lemmas.List.Elements.{All-take}
use Rattle.std.proofs.lemmas.List.{take_all}
use Rattle.cg_sharing.specs.Command.{Command, Line}
use Rattle.cg_sharing.specs.Versions.{State, count_of, chronology_of}
use Rattle.cg_sharing.specs.Journal as journal
use Rattle.cg_sharing.specs.Journal.{Act, Answer, Entry, Shared, state_after, May, IsLegal}
use Rattle.cg_sharing.specs.Course.{Calibration, Place, act_of, settled, answered, AreOthers, IsRunning, stopped_at, IsStopped, Reaches, IsFit, AreFit}
use Rattle.cg_sharing.proofs.JournalLemmas.{state_after-append, state-shared_after, IsBelow, IsClosed, start-closed}
use Rattle.cg_sharing.proofs.CourseLemmas.{Knows, act_of-left, may_next, running_knows}
use Rattle.cg_sharing.proofs.ReachLemmas.{SameText, chronology_of-state_after, settled-act, reach_others, reach_own}
use Rattle.cg_book.specs.Plain.{shared_in, state_of}
use Rattle.cg_session.specs.Port.{Seen}
use Rattle.cg_session.specs.declared.session.Session.{Session}
use Rattle.cg_session.specs.declared.standing.Version.{Version}
use Rattle.cg_session.specs.Standing.{number_of, Shows, HasText, IsSpare}
use Rattle.cg_session.specs.Port.{Grows}
use Rattle.cg_session.specs.declared.session.Progress.{Progress}
use Rattle.cg_session.specs.declared.session.Progress.TheVariants.{Moved, Stopped}
use Rattle.cg_meaning.specs.Tree.{Name}
use Rattle.std.specs.Prelude.{is_some, MatchOption}
use Rattle.cg_session.specs.Session.{StandsAt, IsAt, Makes, Ends, Stops, Came}
use Rattle.cg_session.proofs.SessionLemmas.{reaches_at, take-slice_get}

pub fits : (n : ℕ) (lines : List Line) → AreFit lines → AreFit (take n lines)
fits n lines ready = All-take (λ (line : Line). IsFit line.command) n lines ready

-- the start is closed
pub closed_start : (calibration : Calibration) (seen : Seen) (s : Session) → IsAt calibration seen s → IsClosed seen.start.state
closed_start calibration seen s at = let P : Shared → Type 0 = λ shared. IsClosed shared.state in subst P (sym at.start) (start-closed at.models)

-- a session that runs is at a version that is known
pub known_version : (calibration : Calibration) (seen : Seen) (s : Session) → s.stopped ≡ false → IsAt calibration seen s → IsBelow (count_of (state_of seen)) (number_of s.standing.version)
known_version calibration seen s run at =
    let place = at.stands.0 in
    let stands = at.stands.1 in
    let whole = reaches_at calibration seen s place run stands [] in
    let A : List Line → Type 0 = λ ls. AreFit ls in
    let B : Option ℕ → Type 0 = λ v. IsBelow (count_of (state_of seen)) v in
    subst B (sym stands.0.shows.version) (running_knows calibration s.number seen.start (take s.done s.script ++ []) seen.journal (settled calibration (state_of seen) [] place) (closed_start calibration seen s at)
    (subst A (sym (append-nil (take s.done s.script))) (fits s.done s.script at.ready)) at.legal whole).0.version

-- it may make the event of its next line
pub may_at : (calibration : Calibration) (seen : Seen) (s : Session) (line : Line) (act : Act) → s.stopped ≡ false → IsAt calibration seen s → slice_get s.script s.done ≡ Some line → ((place : Place) → Shows s.standing place → act_of place line.command ≡ Some act) → May (shared_in seen) s.number act
may_at calibration seen s line act run at here acts =
    let p = at.stands.0 in
    let stands = at.stands.1 in
    let is = acts p stands.0.shows in
    let q : Place = record p { left = line ∷ [] } in
    let P : Place → Type 0 = λ place. IsRunning calibration s.number seen.start.state (take s.done s.script ++ line ∷ []) seen.journal place in
    let A : List Line → Type 0 = λ ls. AreFit ls in
    let known = running_knows calibration s.number seen.start (take s.done s.script ++ line ∷ []) seen.journal q (closed_start calibration seen s at)
    (subst A (take-slice_get s.script s.done line here) (fits (s.done + 1) s.script at.ready)) at.legal
    (subst P (settled-act calibration (state_of seen) line [] p act is) (reaches_at calibration seen s p run stands (line ∷ []))) in
    let K : State → Type 0 = λ state. Knows (count_of state) q in
    may_next (shared_in seen) s.number q act (subst K (sym (state-shared_after seen.start seen.journal)) known.0) known.1.fit (act_of-left line.command p (line ∷ []) ∙ is)

kept_text : (start : State) (xs more : List Entry) (number : ℕ) → number < count_of (state_after start xs) → chronology_of (state_after start xs) number ≡ chronology_of (state_after start (xs ++ more)) number
kept_text start xs more number known =
    sym (ap (λ s. chronology_of s number) (state_after-append start xs more) ∙ chronology_of-state_after (state_after start xs) more number known)

pub text_later : (start : State) (xs more : List Entry) (version : Option Version) → IsBelow (count_of (state_after start xs)) (number_of version) → HasText (state_after start xs) version → HasText (state_after start (xs ++ more)) version
text_later start xs more None known text = tt
text_later start xs more (Some v) known text = text ∙ kept_text start xs more v.number known

pub same_text : (start : State) (xs more : List Entry) (version : Option Version) → IsBelow (count_of (state_after start xs)) (number_of version) → SameText (state_after start xs) (state_after start (xs ++ more)) (number_of version)
same_text start xs more None known = tt
same_text start xs more (Some v) known = kept_text start xs more v.number known

-- Its tree is still the text of its version, whatever entries came.
pub text_at : (calibration : Calibration) (seen new : Seen) (s : Session) (more : List Entry) → s.stopped ≡ false → IsAt calibration seen s → new.start ≡ seen.start → new.journal ≡ seen.journal ++ more → HasText (state_of new) s.standing.version
text_at calibration seen new s more run at begins is =
    let P : State → List Entry → Type 0 = λ b j. HasText (state_after b j) s.standing.version in
    let Q : List Entry → Type 0 = λ j. P seen.start.state j in
    let R : State → Type 0 = λ b. P b new.journal in
    subst R (sym (ap (λ (b : Shared). b.state) begins)) (subst Q (sym is) (text_later seen.start.state seen.journal more s.standing.version (known_version calibration seen s run at) at.text))

-- the same as the course of `StandsAt`, by its parts
abbrev StandsOn : Calibration → State → List Entry → ℕ → List Line → ℕ → Bool → Place → Type 0
StandsOn calibration start journal number script done stopped place =
    MatchBool stopped (IsStopped calibration number start script journal place) (Reaches calibration number start (take done script) journal place)

stands-on : (calibration : Calibration) (start start' : State) (xs ys : List Entry) (m n : ℕ) (script script' : List Line) (done done' : ℕ) (b c : Bool) (place : Place) → start' ≡ start → ys ≡ xs → n ≡ m → script' ≡ script → done' ≡ done → c ≡ b →
    StandsOn calibration start xs m script done b place → StandsOn calibration start' ys n script' done' c place
stands-on calibration start start' xs ys m n script script' done done' b c place e1 e2 e3 e4 e5 e6 h =
    let P1 : State → Type 0 = λ x. StandsOn calibration x xs m script done b place in
    let P2 : List Entry → Type 0 = λ x. StandsOn calibration start' x m script done b place in
    let P3 : ℕ → Type 0 = λ x. StandsOn calibration start' ys x script done b place in
    let P4 : List Line → Type 0 = λ x. StandsOn calibration start' ys n x done b place in
    let P5 : ℕ → Type 0 = λ x. StandsOn calibration start' ys n script' x b place in
    let P6 : Bool → Type 0 = λ x. StandsOn calibration start' ys n script' done' x place in
    subst P6 (sym e6) (subst P5 (sym e5) (subst P4 (sym e4) (subst P3 (sym e3) (subst P2 (sym e2) (subst P1 (sym e1) h)))))

answered-stopped : (line : Line) (answer : Answer) (place : Place) → (answered line answer place).stopped ≡ place.stopped
answered-stopped line (journal.At version) place = refl
answered-stopped line (journal.Made version) place = refl
answered-stopped line (journal.Committed version) place = refl
answered-stopped line other place = refl

-- After an answer it stands where that leads.
pub answered_stands : (calibration : Calibration) (seen new : Seen) (s t : Session) (line : Line) (act : Act) (answer : Answer) (others : List Entry) (place : Place) → s.stopped ≡ false → IsAt calibration seen s → slice_get s.script s.done ≡ Some line →
    act_of place line.command ≡ Some act → AreOthers s.number others → new.start ≡ seen.start → new.journal ≡ (seen.journal ++ others) ++ record { seat = s.number; act = act; answer = answer } ∷ [] →
    t.number ≡ s.number → t.script ≡ s.script → t.stopped ≡ s.stopped → t.done ≡ s.done + 1 → Shows t.standing (answered line answer place) → StandsAt calibration seen s place → StandsAt calibration new t (answered line answer place)
answered_stands calibration seen new s t line act answer others p run at here is theirs begins grown number script stopped done shows stands =
    let entry : Entry = record { seat = s.number; act = act; answer = answer } in
    let did = take s.done s.script in
    let q = answered line answer p in
    let V : Option ℕ → Type 0 = λ v. SameText (state_after seen.start.state seen.journal) (state_after seen.start.state (seen.journal ++ others)) v in
    let same = subst V stands.0.shows.version (same_text seen.start.state seen.journal others s.standing.version (known_version calibration seen s run at)) in
    let first = reach_others calibration s.number seen.start.state did seen.journal others p (reaches_at calibration seen s p run stands) theirs same in
    let then = reach_own calibration s.number seen.start.state did line (seen.journal ++ others) entry p first refl is in
    let R : List Line → Type 0 = λ ls. Reaches calibration s.number seen.start.state ls ((seen.journal ++ others) ++ entry ∷ []) q in (
      record { shows = shows; stopped = stopped ∙ stands.0.stopped ∙ sym (answered-stopped line answer p) },
      stands-on calibration seen.start.state new.start.state ((seen.journal ++ others) ++ entry ∷ []) new.journal s.number t.number s.script t.script (s.done + 1) t.done false t.stopped q
          (ap (λ (b : Shared). b.state) begins) grown number script done (stopped ∙ run) (subst R (sym (take-slice_get s.script s.done line here)) then),
    )

stopped_here : (calibration : Calibration) (seen : Seen) (s : Session) (others : List Entry) (place : Place) → s.stopped ≡ false → s.done < length s.script → AreOthers s.number others → StandsAt calibration seen s place →
    IsStopped calibration s.number seen.start.state s.script (seen.journal ++ others) (stopped_at place)
stopped_here calibration seen s others p run unfinished theirs stands =
    let L : List Line → Type 0 = λ ls. IsRunning calibration s.number seen.start.state ls seen.journal (record p { left = [] }) in
    record {
      commands = s.done;
      earlier = seen.journal;
      later = others;
      last = record p { left = [] };
      running = subst L (append-nil (take s.done s.script)) (reaches_at calibration seen s p run stands []);
      unfinished = omega (arith, unfinished, length-drop s.done s.script);
      others = theirs;
      reached = refl;
      all = refl;
    }

-- Where want of memory stopped it, it is at a stopped place of its course.
pub stopped_on : (calibration : Calibration) (seen new : Seen) (s t : Session) (others : List Entry) (place : Place) → s.stopped ≡ false → s.done < length s.script → AreOthers s.number others → new.start ≡ seen.start → new.journal ≡ seen.journal ++ others →
    t.number ≡ s.number → t.script ≡ s.script → t.stopped ≡ true → t.done ≡ s.done → Shows t.standing place → StandsAt calibration seen s place → StandsAt calibration new t (stopped_at place)
stopped_on calibration seen new s t others p run unfinished theirs begins grown number script stopped done shows stands = (
  record { shows = record { text = shows.text; version = shows.version; grid = shows.grid; bases = shows.bases }; stopped = stopped },
  stands-on calibration seen.start.state new.start.state (seen.journal ++ others) new.journal s.number t.number s.script t.script s.done t.done true t.stopped (stopped_at p)
      (ap (λ (b : Shared). b.state) begins) grown number script done stopped (stopped_here calibration seen s others p run unfinished theirs stands),
)

-- what `StandsAt` says of a stopped session
pub stands_stopped : (calibration : Calibration) (seen : Seen) (s : Session) (place : Place) → s.stopped ≡ true → StandsAt calibration seen s place → IsStopped calibration s.number seen.start.state s.script seen.journal place
stands_stopped calibration seen s place is stands =
    let P : Bool → Type 0 = λ b. StandsOn calibration seen.start.state seen.journal s.number s.script s.done b place in
    subst P is stands.1

-- A session whose script is done has run all of its course.
pub ended_at : (calibration : Calibration) (seen : Seen) (s : Session) → s.stopped ≡ false → IsAt calibration seen s → s.done ≡ length s.script → Ends calibration seen seen s
ended_at calibration seen s run at all =
    let p = at.stands.0 in
    let stands = at.stands.1 in
    let shows = stands.0.shows in
    let L : List Line → Type 0 = λ ls. IsRunning calibration s.number seen.start.state ls seen.journal (record p { left = [] }) in
    let whole : take s.done s.script ++ [] ≡ s.script = append-nil (take s.done s.script) ∙ take_all s.done s.script (omega (arith, all)) in
    record {
      same = refl;
      place = record p { left = [] };
      here = record { shows = record { text = shows.text; version = shows.version; grid = shows.grid; bases = shows.bases }; stopped = stands.0.stopped };
      running = subst L whole (reaches_at calibration seen s p run stands []);
      ended = (refl, sym stands.0.stopped ∙ run);
    }

-- what `settle` says of the session before it and after it
abbrev pub Settles : Session → Session → Option Name → Progress → Option Answer → Type 0
Settles s t spare result answer =
    MatchOption answer ((result ≡ Stopped) × (t.stopped ≡ true) × (t.done ≡ s.done) × ((place : Place) → Shows s.standing place → Shows t.standing place))
    (λ a. (result ≡ Moved) × (t.stopped ≡ s.stopped) × (t.done ≡ s.done + 1)
    × ((line : Line) → slice_get s.script s.done ≡ Some line → IsSpare line.command spare → (place : Place) → Shows s.standing place → Shows t.standing (answered line a place)))

-- An answer came, and the standing shows it.
pub settled_moved : (s t : Session) (spare : Option Name) (told : Line) (answer : Option Answer) → true ≡ is_some answer → t.stopped ≡ s.stopped → t.done ≡ s.done + 1 → slice_get s.script s.done ≡ Some told →
    ((place : Place) → Shows s.standing place → MatchOption answer (Shows t.standing place) (λ a. (command : Command) → IsSpare command spare → Shows t.standing (answered (record { number = told.number; command = command }) a place))) →
    Settles s t spare Moved answer
settled_moved s t spare told None came stopped done here shows = absurd cc
settled_moved s t spare told (Some a) came stopped done here shows = (
  refl,
  stopped,
  done,
  λ line is named place shown.
      let same : told ≡ line = cc in
      subst (λ (l : Line). Shows t.standing (answered (record { number = l.number; command = line.command }) a place)) same (shows place shown line.command named),
)

-- None came, and the standing shows what it showed.
pub settled_stopped : (s t : Session) (spare : Option Name) (told : Line) (answer : Option Answer) → false ≡ is_some answer → t.stopped ≡ true → t.done ≡ s.done →
    ((place : Place) → Shows s.standing place → MatchOption answer (Shows t.standing place) (λ a. (command : Command) → IsSpare command spare → Shows t.standing (answered (record { number = told.number; command = command }) a place))) →
    Settles s t spare Stopped answer
settled_stopped s t spare told None came stopped done shows = (refl, stopped, done, shows)
settled_stopped s t spare told (Some a) came stopped done shows = absurd cc

-- After the reply it is at a place of its course, and did what it tells.
pub settled_at : (calibration : Calibration) (seen new : Seen) (alone : Type 0) (before s t : Session) (line : Line) (act : Act) (spare : Option Name) (result : Progress) (answer : Option Answer) → s.stopped ≡ false → IsAt calibration seen s →
    s.number ≡ before.number → s.script ≡ before.script → before.done ≤ s.done → slice_get s.script s.done ≡ Some line → ((place : Place) → Shows s.standing place → act_of place line.command ≡ Some act) → IsSpare line.command spare →
    Grows s.number alone act answer seen new → IsLegal new.start new.journal → t.number ≡ s.number → t.script ≡ s.script → (HasText (state_of new) s.standing.version → HasText (state_of new) t.standing.version) → Settles s t spare result answer →
    IsAt calibration new t × Came calibration result alone seen new before t
settled_at calibration seen new alone before s t line act spare result None run at number_was script_was forward here is named grows legal number script text came =
    let place = at.stands.0 in
    let unfinished = slice_get_within s.script s.done line here in
    let stands = stopped_on calibration seen new s t grows.others place run unfinished grows.theirs grows.start grows.journal number script came.1 came.2 (came.3 place at.stands.1.0.shows) at.stands.1 in
    let O : ℕ → Type 0 = λ n. AreOthers n grows.others in
    let stops : Stops calibration alone seen new before t = record {
      others = grows.others;
      theirs = subst O number_was grows.theirs;
      none = grows.none;
      start = grows.start;
      journal = grows.journal;
      place = stopped_at place;
      here = stands.0;
      stopped = stands_stopped calibration new t (stopped_at place) came.1 stands;
    } in
    let C : Progress → Type 0 = λ r. Came calibration r alone seen new before t in (
      record {
        models = at.models;
        capacity = at.capacity;
        start = grows.start ∙ at.start;
        legal = legal;
        ready = subst (λ ls. AreFit ls) (sym script) at.ready;
        within = omega (arith, at.within, came.2, ap (λ (ls : List Line). length ls) script);
        stands = (stopped_at place, stands);
        text = text (text_at calibration seen new s grows.others run at grows.start grows.journal);
      },
      subst C (sym came.0) stops,
    )
settled_at calibration seen new alone before s t line act spare result (Some answer) run at number_was script_was forward here is named grows legal number script text came =
    let place = at.stands.0 in
    let stands = at.stands.1 in
    let within = slice_get_within s.script s.done line here in
    let entry : Entry = record { seat = s.number; act = act; answer = answer } in
    let G : ℕ → Type 0 = λ n. Grows n alone act (Some answer) seen new in
    let makes : Makes alone seen new before t = record {
      act = act;
      answer = answer;
      grows = subst G number_was grows;
      going = came.1 ∙ run;
      fewer = omega (arith, within, forward, came.2, ap (λ (ls : List Line). length ls) script, ap (λ (ls : List Line). length ls) script_was);
    } in
    let C : Progress → Type 0 = λ r. Came calibration r alone seen new before t in (
      record {
        models = at.models;
        capacity = at.capacity;
        start = grows.start ∙ at.start;
        legal = legal;
        ready = subst (λ ls. AreFit ls) (sym script) at.ready;
        within = omega (arith, within, came.2, ap (λ (ls : List Line). length ls) script);
        stands = (
          answered line answer place,
          answered_stands calibration seen new s t line act answer grows.others place run at here (is place stands.0.shows) grows.theirs grows.start grows.journal number script came.1 came.2 (came.3 line here named place stands.0.shows) stands,
        );
        text = text (text_at calibration seen new s (grows.others ++ entry ∷ []) run at grows.start (grows.journal ∙ append_assoc seen.journal grows.others (entry ∷ [])));
      },
      subst C (sym came.0) makes,
    )
