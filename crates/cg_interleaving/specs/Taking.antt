-- How sessions stand while they take turns over one book. chron's own.
use Rattle.std.specs.Prelude.{◌≡◌, ◌≢◌, ◌⊎◌, ℕ, zero, suc, ◌+◌, ◌<◌, ◌≤◌, Bool, true, false, List, [], ◌∷◌, map, length, drop, replicate, slice_get, Option, Some, None}
use Rattle.std.specs.List.{list_any}
use Rattle.cg_recipe.specs.Recipe.{recipe}
use Rattle.cg_report.specs.Transcript.{transcript_of}
use Rattle.cg_sharing.specs.Versions.{State}
use Rattle.cg_sharing.specs.Journal.{Entry}
use Rattle.cg_sharing.specs.Course.{Calibration, Place, IsRunning, IsEnded, IsStopped}
use Rattle.cg_sharing.specs.Interleaving.{World, AreTurns, last_turns}
use Rattle.cg_book.specs.Plain.{shared_in}
use Rattle.cg_session.specs.Port.{Seen}
use Rattle.cg_session.specs.declared.session.Session.{Session}
use Rattle.cg_session.specs.Session.{seat_of, script_of, left_of, is_stopped, IsIn, IsAt}
use Rattle.cg_interleaving.specs.declared.sessions.Sessions.{Sessions}

-- the sessions are numbered from this number on, and stand in their courses
abbrev pub AreAt : Calibration → Seen → ℕ → List Session → Type 0
AreAt calibration seen number [] = Unit {0}
AreAt calibration seen number (session ∷ sessions) =
    (seat_of session ≡ number) × IsAt calibration seen session × AreAt calibration seen (number + 1) sessions

-- The sessions stand in their courses, and it is told whether one is stopped.
pub record CanGoOn (calibration : Calibration) (all : Sessions) : Type 0 where
  pub few : length all.list.items ≤ 8
  pub at : AreAt calibration all.book 1 all.list.items
  pub stopped : all.stopped ≡ list_any is_stopped all.list.items

-- the script of the session has run to the place, or the session is in the place where want of memory stopped it
abbrev pub HasPlace : Calibration → ℕ → State → List Entry → Session → Place → Type 0
HasPlace calibration number start entries session place =
    ((is_stopped session ≡ false) × IsRunning calibration number start (script_of session) entries place)
    ⊎ ((is_stopped session ≡ true) × IsIn session place
    × IsStopped calibration number start (script_of session) entries place)

-- so it is with the sessions from this number on, in their order
abbrev pub HavePlaces : Calibration → ℕ → State → List Entry → List Session → List Place → Type 0
HavePlaces calibration number start entries [] [] = Unit {0}
HavePlaces calibration number start entries [] (place ∷ places) = ⊥
HavePlaces calibration number start entries (session ∷ sessions) [] = ⊥
HavePlaces calibration number start entries (session ∷ sessions) (place ∷ places) =
    HasPlace calibration number start entries session place
    × HavePlaces calibration (number + 1) start entries sessions places

-- The world is that of the sessions: its journal is the book's, and each session has its place there.
pub record AreIn (calibration : Calibration) (world : World) (all : Sessions) : Type 0 where
  pub shared : world.shared ≡ shared_in all.book
  pub journal : world.journal ≡ all.book.journal
  pub places : HavePlaces calibration 1 all.book.start.state all.book.journal all.list.items world.places

-- The sessions of this world have taken these turns since.
pub record HaveTaken (calibration : Calibration) (turns : List ℕ) (world : World) (all : Sessions) : Type 0 where
  pub now : World
  pub taken : AreTurns calibration turns world now
  pub here : AreIn calibration now all

-- the lines that are left to the session at a place, counted from 0
abbrev pub lines_of : Option Place → ℕ
lines_of None = zero
lines_of (Some place) = length place.left

abbrev pub lines_at : ℕ → World → ℕ
lines_at place world = lines_of (slice_get world.places place)

-- The session at a place has taken its turn, and has fewer lines left if it made an act.
pub record HasTurned
    (calibration : Calibration) (place : ℕ) (moved : Bool) (world : World) (all : Sessions) : Type 0 where
  pub now : World
  pub taken : AreTurns calibration (suc place ∷ []) world now
  pub here : AreIn calibration now all
  pub fewer : moved ≡ true → lines_at place now < lines_at place world

-- The session at a place has taken some turns, and has so many lines less at least.
pub record HasTurnedOften (calibration : Calibration) (place : ℕ) (world : World) (all : Sessions) : Type 0 where
  pub count : ℕ
  pub now : World
  pub taken : AreTurns calibration (replicate count (suc place)) world now
  pub here : AreIn calibration now all
  pub within : count + lines_at place now ≤ lines_at place world

-- The sessions before a place have run out: with the last turns of those from it on, all have.
pub record HaveRunOut (calibration : Calibration) (place : ℕ) (world : World) (all : Sessions) : Type 0 where
  pub now : World
  pub here : AreIn calibration now all
  pub later : (end : World) → AreTurns calibration (last_turns (suc place) (drop place now.places)) now end →
      AreTurns calibration (last_turns 1 world.places) world end

-- the session's course is over: it is stopped, or in a place at which its script has run to its end
abbrev pub HasEnd : Calibration → ℕ → State → List Entry → Session → Type 0
HasEnd calibration number start entries session =
    (is_stopped session ≡ true)
    ⊎ ((place : Place) × IsIn session place
    × IsRunning calibration number start (script_of session) entries place × IsEnded place)

-- so is that of the session at this place, counted from 0
abbrev pub HasEndAt : Calibration → ℕ → Sessions → Type 0
HasEndAt calibration place all =
    (session : Session) → slice_get all.list.items place ≡ Some session
    → HasEnd calibration (suc place) all.book.start.state all.book.journal session

-- the lines that the session at this place has not done
abbrev pub left_in : Option Session → ℕ
left_in None = zero
left_in (Some session) = left_of session

abbrev pub left_at : ℕ → Sessions → ℕ
left_at place all = left_in (slice_get all.list.items place)

-- One session advanced: that is a turn of it. It tells whether it made an act; its course is over if not.
pub record Advances (calibration : Calibration) (place : ℕ) (moved : Bool) (old new : Sessions) : Type 0 where
  pub can : CanGoOn calibration new
  pub same : map script_of new.list.items ≡ map script_of old.list.items
  pub start : new.book.start ≡ old.book.start
  pub taken : (world : World) → AreIn calibration world old → HasTurned calibration place moved world new
  pub others : (other : ℕ) → other ≢ place → HasEndAt calibration other old → HasEndAt calibration other new
  pub over : moved ≡ false → HasEndAt calibration place new
  pub fewer : moved ≡ true → left_at place new < left_at place old

-- each text is what its session writes that shows its place
abbrev pub AreTexts : List Session → List (List ℕ) → Type 0
AreTexts [] [] = Unit {0}
AreTexts [] (text ∷ texts) = ⊥
AreTexts (session ∷ sessions) [] = ⊥
AreTexts (session ∷ sessions) (text ∷ texts) =
    ((place : Place) → IsIn session place → text ≡ transcript_of recipe (seat_of session) place)
    × AreTexts sessions texts
