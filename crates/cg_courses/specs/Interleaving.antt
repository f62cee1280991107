-- Many sessions that take turns over the same versions. chron's own.
use Rattle.std.specs.Prelude.{◌≡◌, ◌⊎◌, ℕ, zero, suc, ◌+◌, ◌≤◌, Bool, true, false, List, [], ◌∷◌, ◌++◌, length, replicate, slice_get, slice_set, Option, Some, None}
use Rattle.std.specs.List.{All, list_any}
use Rattle.cg_walk.specs.Walk.{weight, returns}
use Rattle.cg_sharing.specs.Command.{Line}
use Rattle.cg_sharing.specs.Versions.{State, StartModel, start_of}
use Rattle.cg_sharing.specs.Journal.{Act, Entry, Shared, shared_of, answer_of, shared_by, IsLegal}
use Rattle.cg_courses.specs.Course.{Calibration, Place, next, begin, went, IsRunning, IsEnded, AreFit}

-- What is shared, the journal of all entries so far, and where the sessions are that are numbered from 1 on.
pub record World : Type 0 where
  pub shared : Shared
  pub journal : List Entry
  pub places : List Place

-- the place of the session of a number, if there is one
abbrev pub place_of : ℕ → List Place → Option Place
place_of zero places = None
place_of (suc earlier) places = slice_get places earlier

-- the places once the session of a number is at this one
abbrev pub with_place : ℕ → Place → List Place → List Place
with_place zero place places = places
with_place (suc earlier) place places = slice_set places earlier place

-- the session at this place makes this act, if it is one
abbrev pub world_after : Calibration → ℕ → Place → Option Act → World → World
world_after calibration session place None world = world
world_after calibration session place (Some act) world =
    let entry : Entry = record { seat = session; act = act; answer = answer_of world.shared act } in
    let shared = shared_by world.shared entry in
    record {
      shared = shared;
      journal = world.journal ++ entry ∷ [];
      places = with_place session (went calibration shared.state entry.answer place) world.places;
    }

abbrev pub advanced : Calibration → ℕ → Option Place → World → World
advanced calibration session None world = world
advanced calibration session (Some place) world = world_after calibration session place (next place) world

-- a turn: the session of this number makes its next act, if it has one
abbrev pub turn : Calibration → ℕ → World → World
turn calibration session world = advanced calibration session (place_of session world.places) world

-- turns, one after the other
abbrev pub turns_taken : Calibration → List ℕ → World → World
turns_taken calibration [] world = world
turns_taken calibration (session ∷ sessions) world = turns_taken calibration sessions (turn calibration session world)

-- the places at which sessions from this number on begin
abbrev pub begins : Calibration → State → ℕ → List (List Line) → List Place
begins calibration start session [] = []
begins calibration start session (script ∷ scripts) =
    begin calibration session start script ∷ begins calibration start (session + 1) scripts

abbrev pub begun : Calibration → List StartModel → ℕ → List (List Line) → World
begun calibration models capacity scripts = record {
  shared = shared_of models capacity;
  journal = [];
  places = begins calibration (start_of models) 1 scripts;
}

-- at most so many acts are left to the first line of a session
abbrev pub acts_left : Option Place → ℕ
acts_left None = 0
acts_left (Some place) = weight place.todo + 1

-- the session takes as many turns as its first line can need
abbrev pub line_done : Calibration → ℕ → World → World
line_done calibration session world =
    turns_taken calibration (replicate (acts_left (place_of session world.places)) session) world

-- it does so for this many lines
abbrev pub lines_done : Calibration → ℕ → ℕ → World → World
lines_done calibration session zero world = world
lines_done calibration session (suc lines) world = lines_done calibration session lines (line_done calibration session world)

abbrev pub lines_left : Option Place → ℕ
lines_left None = 0
lines_left (Some place) = length place.left

-- so many sessions from this number on run to their ends in their order
abbrev pub run_out_from : Calibration → ℕ → ℕ → World → World
run_out_from calibration session zero world = world
run_out_from calibration session (suc sessions) world =
    run_out_from calibration (session + 1) sessions
    (lines_done calibration session (lines_left (place_of session world.places)) world)

-- all of them
abbrev pub run_out : Calibration → World → World
run_out calibration world = run_out_from calibration 1 (length world.places) world

-- what comes of these turns, and of the sessions' running to their ends behind them
abbrev pub interleaving : Calibration → List StartModel → ℕ → List (List Line) → List ℕ → World
interleaving calibration models capacity scripts turns = run_out calibration (turns_taken calibration turns (begun calibration models capacity scripts))

-- Want of memory stops the session: from here on it only gives its claims back. All else stays.
pub record IsStop (session : ℕ) (old new : World) : Type 0 where
  pub before : Place
  pub after : Place
  pub here : place_of session old.places ≡ Some before
  pub going : before.stopped ≡ false
  pub none : after.left ≡ []
  pub todo : after.todo ≡ returns before.todo
  pub stopped : after.stopped ≡ true
  pub same : new ≡ record old { places = with_place session after old.places }

-- a turn, before whose act want of memory may stop the session
abbrev pub IsTurn : Calibration → ℕ → World → World → Type 0
IsTurn calibration session old new =
    (at : World) × ((at ≡ old) ⊎ IsStop session old at) × (new ≡ turn calibration session at)

-- such turns, one after the other
abbrev pub AreTurns : Calibration → List ℕ → World → World → Type 0
AreTurns calibration [] old new = new ≡ old
AreTurns calibration (session ∷ sessions) old new =
    (between : World) × IsTurn calibration session old between × AreTurns calibration sessions between new

-- The session takes turns until it has no act to make.
pub record RunsOut (calibration : Calibration) (session : ℕ) (old new : World) : Type 0 where
  pub turns : ℕ
  pub taken : AreTurns calibration (replicate turns session) old new
  pub over : (place : Place) → place_of session new.places ≡ Some place → next place ≡ None

-- so do as many sessions from this number on, in their order
abbrev pub RunOut : Calibration → ℕ → ℕ → World → World → Type 0
RunOut calibration session zero old new = new ≡ old
RunOut calibration session (suc sessions) old new =
    (between : World) × RunsOut calibration session old between × RunOut calibration (session + 1) sessions between new

-- What comes of these turns, and of the sessions' running to their ends behind them, where some may be stopped.
pub record IsInterleaving (calibration : Calibration) (models : List StartModel) (capacity : ℕ) (scripts : List (List Line)) (turns : List ℕ) (end : World) : Type 0 where
  pub met : World
  pub taken : AreTurns calibration turns (begun calibration models capacity scripts) met
  pub out : RunOut calibration 1 (length met.places) met end

-- want of memory stopped one of the sessions at these places
abbrev pub some_stopped : List Place → Bool
some_stopped places = list_any (λ place. place.stopped) places

-- each session from this number on has done all of its script in a course that leads to its place
abbrev pub AreWhole : Calibration → ℕ → State → List (List Line) → List Entry → List Place → Type 0
AreWhole calibration session start [] entries [] = Unit {0}
AreWhole calibration session start [] entries (place ∷ places) = ⊥
AreWhole calibration session start (script ∷ scripts) entries [] = ⊥
AreWhole calibration session start (script ∷ scripts) entries (place ∷ places) =
    IsRunning calibration session start script entries place × IsEnded place × AreWhole calibration (session + 1) start scripts entries places

-- whatever the turns are, the journal is legal, and each session runs to its end in a course of its own script
abbrev pub EachRunsToItsEnd : Type 0
EachRunsToItsEnd =
    (calibration : Calibration) (models : List StartModel) (capacity : ℕ) (scripts : List (List Line)) (turns : List ℕ) → All AreFit scripts →
    let end = interleaving calibration models capacity scripts turns in
    IsLegal (shared_of models capacity) end.journal × AreWhole calibration 1 (start_of models) scripts end.journal end.places

-- where want of memory stopped no session, the turns decide all
abbrev pub TurnsDecide : Type 0
TurnsDecide =
    (calibration : Calibration) (models : List StartModel) (capacity : ℕ) (scripts : List (List Line)) (turns : List ℕ) (end : World) →
    IsInterleaving calibration models capacity scripts turns end → some_stopped end.places ≡ false → end ≡ interleaving calibration models capacity scripts turns

-- an entry is of one of so many sessions
abbrev pub IsOfSession : ℕ → Entry → Type 0
IsOfSession count entry = (1 ≤ entry.seat) × (entry.seat ≤ count)

-- whatever the turns are and whichever sessions are stopped, each entry is of one of the sessions
abbrev pub EntriesAreOfSessions : Type 0
EntriesAreOfSessions =
    (calibration : Calibration) (models : List StartModel) (capacity : ℕ) (scripts : List (List Line)) (turns : List ℕ) (end : World) →
    IsInterleaving calibration models capacity scripts turns end → All (IsOfSession (length scripts)) end.journal
