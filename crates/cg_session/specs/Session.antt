-- Where the code's session is in its course.
use Rattle.std.specs.Prelude.{◌≡◌, ℕ, ◌-◌, ◌<◌, ◌≤◌, List, [], ◌++◌, length, take, slice_get, Bool, MatchBool, false, Some, vec_len, vec_capacity}
use Rattle.cg_sharing.specs.Command.{Line}
use Rattle.cg_sharing.specs.Versions.{StartModel}
use Rattle.cg_sharing.specs.Journal.{Act, Answer, Entry, shared_of, IsLegal}
use Rattle.cg_sharing.specs.Course.{Calibration, Place, act_of, AreOthers, IsRunning, IsEnded, IsStopped, Reaches, AreFit}
use Rattle.cg_book.specs.Plain.{state_of}
use Rattle.cg_book.specs.Replies.{question_in}
use Rattle.cg_session.specs.Port.{Seen}
use Rattle.cg_session.specs.declared.session.Session.{Session}
use Rattle.cg_session.specs.declared.session.Progress.{Progress}
use Rattle.cg_session.specs.declared.session.Progress.TheVariants.{Moved, Ended, Stopped}
use Rattle.cg_session.specs.declared.session.Asked.{Asked}
use Rattle.cg_session.specs.Standing.{Shows, HasText, IsSpare}
use Rattle.cg_session.specs.Port.{Grows}
use Rattle.cg_session.specs.Transcript.{HasRoom}

-- the number of a session, and its script
abbrev pub seat_of : Session → ℕ
seat_of session = session.number

abbrev pub script_of : Session → List Line
script_of session = session.script

-- the lines that it has not done
abbrev pub left_of : Session → ℕ
left_of session = length session.script - session.done

-- want of memory has stopped it
abbrev pub is_stopped : Session → Bool
is_stopped session = session.stopped

-- The session shows the place: its standing does, and it is told whether it is stopped.
pub record IsIn (session : Session) (place : Place) : Type 0 where
  pub shows : Shows session.standing place
  pub stopped : session.stopped ≡ place.stopped

-- it is in a place to which its script has run, or where want of memory stopped it
abbrev pub StandsAt : Calibration → Seen → Session → Place → Type 0
StandsAt calibration seen session place =
    IsIn session place
    × MatchBool session.stopped
    (IsStopped calibration session.number seen.start.state session.script seen.journal place)
    (Reaches calibration session.number seen.start.state (take session.done session.script) seen.journal place)

abbrev pub Stands : Calibration → Seen → Session → Type 0
Stands calibration seen session = (place : Place) × StandsAt calibration seen session place

-- What a seat has seen that has made no entry yet: a legal journal, over the versions of models and a cache.
pub record IsFresh (seat : ℕ) (seen : Seen) : Type 0 where
  pub models : List StartModel
  pub capacity : ℕ
  pub start : seen.start ≡ shared_of models capacity
  pub legal : IsLegal seen.start seen.journal
  pub others : AreOthers seat seen.journal

-- The session is at a state of the course of its script, by what its seat has seen: a legal journal, over the versions
-- of models and a cache.
pub record IsAt (calibration : Calibration) (seen : Seen) (session : Session) : Type 0 where
  pub models : List StartModel
  pub capacity : ℕ
  pub start : seen.start ≡ shared_of models capacity
  pub legal : IsLegal seen.start seen.journal
  pub ready : AreFit session.script
  pub within : session.done ≤ length session.script
  pub stands : Stands calibration seen session
  pub text : HasText (state_of seen) session.standing.version

-- the same session, as far as its number, its script and whether it is stopped go, at the same version
pub record IsSame (old new : Session) : Type 0 where
  pub number : new.number ≡ old.number
  pub script : new.script ≡ old.script
  pub stopped : new.stopped ≡ old.stopped
  pub version : new.standing.version ≡ old.standing.version

-- The act of the next line is to be made, and there is room for its answer.
pub record IsPrepared (next : Asked) (session : Session) : Type 0 where
  pub line : Line
  pub here : slice_get session.script session.done ≡ Some line
  pub act : (place : Place) → Shows session.standing place → act_of place line.command ≡ Some (question_in next.question)
  pub spare : IsSpare line.command next.spare
  pub room : HasRoom session.standing.transcript 64
  pub base : vec_len session.standing.bases < vec_capacity session.standing.bases
  pub few : length session.script ≤ 1000

-- One entry of the seat came, behind those of others. The session isn't stopped, and fewer lines are left.
pub record Makes (alone : Type 0) (old new : Seen) (before after : Session) : Type 0 where
  pub act : Act
  pub answer : Answer
  pub grows : Grows before.number alone act (Some answer) old new
  pub going : after.stopped ≡ false
  pub fewer : left_of after < left_of before

-- No entry of the seat came, and all of the script is done.
pub record Ends (calibration : Calibration) (old new : Seen) (after : Session) : Type 0 where
  pub same : new ≡ old
  pub place : Place
  pub here : IsIn after place
  pub running : IsRunning calibration after.number new.start.state after.script new.journal place
  pub ended : IsEnded place

-- No entry of the seat came, and want of memory has stopped the session.
pub record Stops (calibration : Calibration) (alone : Type 0) (old new : Seen) (before after : Session) : Type 0 where
  pub others : List Entry
  pub theirs : AreOthers before.number others
  pub none : alone → others ≡ []
  pub start : new.start ≡ old.start
  pub journal : new.journal ≡ old.journal ++ others
  pub place : Place
  pub here : IsIn after place
  pub stopped : IsStopped calibration after.number new.start.state after.script new.journal place

-- what a call of `advance` did
abbrev pub Came : Calibration → Progress → Type 0 → Seen → Seen → Session → Session → Type 0
Came calibration Moved alone old new before after = Makes alone old new before after
Came calibration Ended alone old new before after = Ends calibration old new after
Came calibration Stopped alone old new before after = Stops calibration alone old new before after
