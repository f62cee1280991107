-- What a session does with its script: the acts, one at a time, and what it writes. chron's own.
use Rattle.std.specs.Prelude.{◌≡◌, ◌≢◌, ◌⊎◌, ℕ, ◌+◌, ◌<◌, nat_eq, Bool, true, false, ◌&&◌, ◌||◌, is_some, List, [], ◌∷◌, ◌++◌, length, take, drop, slice_get, bytes_eq, Option, Some, None, option_map, Result, Ok, Err, ℤ, pos, int_le, unsigned_abs, if◌then◌else◌}
use Rattle.std.specs.List.{All}
use Rattle.cg_meaning.specs.Tree.{Name, Tree, Trees, datings_of, nodes_of_all, Chronology, root_of}
use Rattle.cg_meaning.specs.Curve.{Curve}
use Rattle.cg_meaning.specs.Scene.{Grid, Scene, scene_of}
use Rattle.cg_meaning.specs.Cover.{CoverFault, first_fault}
use Rattle.cg_num.specs.Year.{IsYear}
use Rattle.cg_model.specs.Grid.{cells_from}
use Rattle.cg_model.specs.Found.{found_in}
use Rattle.cg_model.specs.Event.{number_at}
use Rattle.cg_model.specs.declared.find.Found.{Found}
use Rattle.cg_model.specs.declared.find.Found.TheVariants.{Nobody, One, Many}
use Rattle.cg_code.specs.Code.{code_of}
use Rattle.cg_cache.specs.Cached.{Hit, Mine, Busy, NoRoom}
use Rattle.cg_cache.specs.Deeds.{Deed, Claim, Publish, Reply, Claimed, Published}
use Rattle.cg_walk.specs.Gets.{Gets, no_more, get, print_gets}
use Rattle.cg_walk.specs.Walk.{Todo, deed_of, wants, turned, returns}
use Rattle.cg_sharing.specs.Edit.{EditFault, NoName, Ambiguous, WrongKind, NodeKind, a_leaf, kind_of}
use Rattle.cg_sharing.specs.Command as command
use Rattle.cg_sharing.specs.Command.{Command, Line}
use Rattle.cg_sharing.specs.Versions.{State, Head, head_of, chronology_of}
use Rattle.cg_sharing.specs.Journal as journal
use Rattle.cg_sharing.specs.Journal.{Act, Answer, Entry, after, state_after, IsInOrder}
use Rattle.cg_sharing.specs.Cause as cause
use Rattle.cg_sharing.specs.Cause.{Cause}
use Rattle.cg_courses.specs.Pieces as piece
use Rattle.cg_courses.specs.Pieces.{Print, Counts, Piece}

-- A curve by its number, counted from 1, and its rows; 0 and no rows are none.
pub record Numbered : Type 0 where
  pub number : ℕ
  pub rows : Curve

-- Which curve serves the radiocarbon dates of a model, by the name of a curve that the model gives, if it gives one.
abbrev pub Calibration : Type 0
Calibration = Option Name → Numbered

-- Where a session is: the lines of its script that are left, what it has written, its version, its grid, the version
-- that it last opened or committed by each name, what it has still to do with messages for its first line, the counts of
-- its claims, and whether want of memory has stopped it.
pub record Place : Type 0 where
  pub left : List Line
  pub written : List Piece
  pub version : Option ℕ
  pub grid : Option Grid
  pub bases : List Head
  pub todo : List Todo
  pub counts : Counts
  pub stopped : Bool

-- the act of a command. A command that needs a version makes none without it; nor does one that only sets or tells.
abbrev pub act_of : Place → Command → Option Act
act_of place (command.Grid older younger) = None
act_of place (command.Open name) = Some (journal.Head name)
act_of place (command.Take version) = Some (journal.Take version)
act_of place command.Undo = option_map (λ version. journal.Undo version) place.version
act_of place (command.Change edit) = option_map (λ version. journal.Change version edit) place.version
act_of place (command.Commit name) = option_map (λ version. journal.Commit name (head_of name place.bases) version) place.version
act_of place (command.Print name) = None
act_of place (command.Ranges name) = None
act_of place command.Model = None
act_of place command.Work = None

abbrev pub first_act : Place → List Line → Option Act
first_act place [] = None
first_act place (line ∷ lines) = act_of place line.command

-- what is to be done with messages comes first
abbrev pub next_of : List Todo → Option Act → Option Act
next_of [] act = act
next_of (first ∷ todo) act = Some (journal.Do (deed_of first))

-- the next act of a session; none at its end
abbrev pub next : Place → Option Act
next place = next_of place.todo (first_act place place.left)

abbrev pub with_piece : Piece → Place → Place
with_piece piece place = record place { written = place.written ++ piece ∷ [] }

abbrev pub refused : ℕ → Cause → Place → Place
refused number cause place = with_piece (piece.Refused number cause) place

-- the grid of an older and a younger year, or the number of years where it isn't 1 to 512
abbrev pub grid_or : ℤ → ℤ → Result Grid ℤ
grid_or oldest cells =
    if int_le (pos 1) cells && int_le cells (pos 512) then Ok (record { oldest = oldest; cells = unsigned_abs cells }) else Err cells

abbrev pub grid_of : ℤ → ℤ → Result Grid ℤ
grid_of older younger = grid_or older (cells_from older younger)

abbrev pub with_grid : ℕ → Result Grid ℤ → Place → Place
with_grid number (Ok grid) place = with_piece (piece.On grid) (record place { grid = Some grid })
with_grid number (Err cells) place = refused number (cause.GridLimit cells) place

-- what a node is
abbrev pub kind_at : Option Tree → NodeKind
kind_at None = a_leaf
kind_at (Some node) = kind_of node

-- the number of an event, or why a name is none's: no node or several have it, or a group
abbrev pub event_or : NodeKind → Option ℕ → Result ℕ EditFault
event_or kind (Some event) = Ok event
event_or kind None = Err (WrongKind kind)

abbrev pub event_found : List Tree → Found → Result ℕ EditFault
event_found nodes Nobody = Err NoName
event_found nodes (One place) = event_or (kind_at (slice_get nodes place)) (number_at nodes place)
event_found nodes (Many count) = Err (Ambiguous count)

abbrev pub event_of : Name → Trees → Result ℕ EditFault
event_of name top = event_found (nodes_of_all top) (found_in name (nodes_of_all top))

-- an event, or why not each of the events can be weighed
abbrev pub weighed_or : Option CoverFault → ℕ → Result ℕ Cause
weighed_or (Some fault) event = Err (cause.Cover fault)
weighed_or None event = Ok event

-- an event that was found in a tree, or the cause: the first event at fault is told, in the order of the text
abbrev pub weighed : Scene → Tree → Result ℕ EditFault → Result ℕ Cause
weighed scene tree (Ok event) = weighed_or (first_fault scene (datings_of tree)) event
weighed scene tree (Err fault) = Err (cause.Fault fault)

-- the number of the event of a name, or why its marginal can't be printed: first for the name
abbrev pub event_in : Scene → Name → Chronology → Result ℕ Cause
event_in scene name chronology = weighed scene (root_of chronology) (event_of name chronology.top)

-- what is told of an event of a version's model in this way, by its pairs or by its ranges
abbrev pub event_piece : (Print → Piece) → ℕ → Name → ℕ → Chronology → Scene → Result ℕ Cause → Piece
event_piece way number name version chronology scene (Ok event) =
    way (record { name = name; version = version; chronology = chronology; scene = scene; event = event })
event_piece way number name version chronology scene (Err cause) = piece.Refused number cause

-- where a chronology is dated on a grid
abbrev pub scene_by : Calibration → Chronology → Grid → Scene
scene_by calibration chronology grid = scene_of grid (calibration chronology.curve).rows

-- what a print tells in this way, where the versions are these
abbrev pub print_piece : (Print → Piece) → Calibration → State → ℕ → Name → Option ℕ → Option Grid → Piece
print_piece way calibration state number name None grid = piece.Refused number cause.NotOpen
print_piece way calibration state number name (Some version) None = piece.Refused number cause.NoGrid
print_piece way calibration state number name (Some version) (Some grid) =
    let chronology = chronology_of state version in
    let scene = scene_by calibration chronology grid in
    event_piece way number name version chronology scene (event_in scene name chronology)

-- the messages of the marginal of an event, on a grid, with the curve of this number; none where it can't be printed
abbrev pub event_gets : Grid → ℕ → Chronology → Result ℕ Cause → Gets
event_gets grid number chronology (Ok event) = print_gets (λ content. code_of content grid number) chronology.top event
event_gets grid number chronology (Err cause) = no_more

-- those of a print, where the versions are these
abbrev pub gets_at : Calibration → State → Name → Option ℕ → Option Grid → Gets
gets_at calibration state name None grid = no_more
gets_at calibration state name (Some version) None = no_more
gets_at calibration state name (Some version) (Some grid) =
    let chronology = chronology_of state version in
    event_gets grid (calibration chronology.curve).number chronology (event_in (scene_by calibration chronology grid) name chronology)

-- the messages that a command gets before it is done
abbrev pub gets_of : Calibration → State → Command → Place → Gets
gets_of calibration state (command.Print name) place = gets_at calibration state name place.version place.grid
gets_of calibration state (command.Ranges name) place = gets_at calibration state name place.version place.grid
gets_of calibration state other place = no_more

abbrev pub is_get : Gets → Bool
is_get no_more = false
is_get (get code parts others) = true

-- a command is done by acts: one of its own, or those that get messages
abbrev pub is_by_acts : Calibration → State → Command → Place → Bool
is_by_acts calibration state command place = is_some (act_of place command) || is_get (gets_of calibration state command place)

-- the text of the version's model
abbrev pub model_piece : State → ℕ → Option ℕ → Piece
model_piece state number None = piece.Refused number cause.NotOpen
model_piece state number (Some version) = piece.Model version (chronology_of state version)

-- a command that makes no further act: one that sets or tells, or one that needs a version where there is none
abbrev pub done_at : Calibration → State → ℕ → Command → Place → Place
done_at calibration state number (command.Grid older younger) place = with_grid number (grid_of older younger) place
done_at calibration state number (command.Print name) place =
    with_piece (print_piece piece.Marginal calibration state number name place.version place.grid) place
done_at calibration state number (command.Ranges name) place =
    with_piece (print_piece piece.Ranges calibration state number name place.version place.grid) place
done_at calibration state number command.Model place = with_piece (model_piece state number place.version) place
done_at calibration state number command.Work place = with_piece (piece.Work place.counts) place
done_at calibration state number other place = refused number cause.NotOpen place

-- the place once these lines are left and the commands up to the next act are done
abbrev pub settled : Calibration → State → List Line → Place → Place
settled calibration state [] place = record place { left = []; todo = [] }
settled calibration state (line ∷ lines) place =
    if is_by_acts calibration state line.command place
    then record place { left = line ∷ lines; todo = wants (gets_of calibration state line.command place) [] }
    else settled calibration state lines (done_at calibration state line.number line.command place)

abbrev pub no_counts : Counts
no_counts = record { claims = 0; hits = 0; mine = 0; busy = 0; no_room = 0; published = 0 }

-- where the session of a number begins
abbrev pub entrance_of : ℕ → Place
entrance_of session = record {
  left = [];
  written = piece.Begun session ∷ [];
  version = None;
  grid = None;
  bases = [];
  todo = [];
  counts = no_counts;
  stopped = false;
}

abbrev pub begin : Calibration → ℕ → State → List Line → Place
begin calibration session start script = settled calibration start script (entrance_of session)

-- the bases once a name has this one
abbrev pub with_base : Name → ℕ → List Head → List Head
with_base name version [] = record { name = name; version = version } ∷ []
with_base name version (base ∷ bases) =
    if bytes_eq name base.name then record base { version = version } ∷ bases else base ∷ with_base name version bases

-- the bases once a command went to a version, or set a head to it: only an open and a commit set a base
abbrev pub bases_after : Command → ℕ → List Head → List Head
bases_after (command.Open name) version bases = with_base name version bases
bases_after (command.Commit name) version bases = with_base name version bases
bases_after other version bases = bases

-- a command's act is answered
abbrev pub answered : Line → Answer → Place → Place
answered line (journal.At version) place =
    with_piece (piece.At version) (record place { version = Some version; bases = bases_after line.command version place.bases })
answered line (journal.Made version) place = with_piece (piece.Made version) (record place { version = Some version })
answered line (journal.Committed version) place =
    with_piece (piece.Committed version) (record place { bases = bases_after line.command version place.bases })
answered line journal.NoModel place = refused line.number cause.NoModel place
answered line (journal.NoVersion count) place = refused line.number (cause.NoVersion count) place
answered line journal.NoParent place = refused line.number cause.NoParent place
answered line (journal.Refused fault) place = refused line.number (cause.Fault fault) place
answered line (journal.Moved head) place = refused line.number (cause.Moved head) place
answered line (journal.Told reply) place = place

abbrev pub went_on : Calibration → State → List Line → Answer → Place → Place
went_on calibration state [] answer place = place
went_on calibration state (line ∷ lines) answer place = settled calibration state lines (answered line answer place)

-- the counts once a deed is replied to
abbrev pub counted : Deed → Reply → Counts → Counts
counted (Claim code) (Claimed Hit) counts = record counts { claims = counts.claims + 1; hits = counts.hits + 1 }
counted (Claim code) (Claimed Mine) counts = record counts { claims = counts.claims + 1; mine = counts.mine + 1 }
counted (Claim code) (Claimed (Busy seat)) counts = record counts { claims = counts.claims + 1; busy = counts.busy + 1 }
counted (Claim code) (Claimed NoRoom) counts = record counts { claims = counts.claims + 1; no_room = counts.no_room + 1 }
counted (Publish code) Published counts = record counts { published = counts.published + 1 }
counted deed reply counts = counts

-- the first line that is left is done, once it has its messages
abbrev pub finished : Calibration → State → List Line → Place → Place
finished calibration state [] place = place
finished calibration state (line ∷ lines) place =
    settled calibration state lines (done_at calibration state line.number line.command place)

-- this is still to be done with messages
abbrev pub with_todo : Calibration → State → List Todo → Place → Place
with_todo calibration state [] place = finished calibration state place.left (record place { todo = [] })
with_todo calibration state (first ∷ todo) place = record place { todo = first ∷ todo }

-- the first of what is to be done with messages is replied to
abbrev pub replied : Calibration → State → Todo → List Todo → Answer → Place → Place
replied calibration state first todo (journal.Told reply) place =
    with_todo calibration state (turned first reply todo) (record place { counts = counted (deed_of first) reply place.counts })
replied calibration state first todo other place = place

abbrev pub went_by : Calibration → State → List Todo → Answer → Place → Place
went_by calibration state [] answer place = went_on calibration state place.left answer place
went_by calibration state (first ∷ todo) answer place = replied calibration state first todo answer place

-- the place after the answer to the next act; the state is that after the entry
abbrev pub went : Calibration → State → Answer → Place → Place
went calibration state answer place = went_by calibration state place.todo answer place

-- the place after an entry, which only the session's own seat moves
abbrev pub moved : Calibration → ℕ → State → Entry → Place → Place
moved calibration session state entry place = if nat_eq entry.seat session then went calibration state entry.answer place else place

-- the place after the entries of all seats, from this state on
abbrev pub walk : Calibration → ℕ → State → Place → List Entry → Place
walk calibration session state place [] = place
walk calibration session state place (entry ∷ entries) =
    walk calibration session (after state entry) (moved calibration session (after state entry) entry place) entries

-- none of the entries is of the session's seat
abbrev pub AreOthers : ℕ → List Entry → Type 0
AreOthers session [] = Unit {0}
AreOthers session (entry ∷ entries) = (entry.seat ≢ session) × AreOthers session entries

-- each entry of the session's seat is its next act
abbrev pub Follows : Calibration → ℕ → State → Place → List Entry → Type 0
Follows calibration session state place [] = Unit {0}
Follows calibration session state place (entry ∷ entries) =
    (entry.seat ≡ session → next place ≡ Some entry.act)
    × Follows calibration session (after state entry) (moved calibration session (after state entry) entry place) entries

-- all of the script is done
abbrev pub IsEnded : Place → Type 0
IsEnded place = (place.left ≡ []) × (place.todo ≡ []) × (place.stopped ≡ false)

-- The journal's entries of the session's seat are acts of its script, and this is where they lead.
pub record IsRunning (calibration : Calibration) (session : ℕ) (start : State) (script : List Line) (entries : List Entry) (place : Place) : Type 0 where
  pub follows : Follows calibration session start (begin calibration session start script) entries
  pub reached : place ≡ walk calibration session start (begin calibration session start script) entries

-- The session has done these lines and stands here: whatever lines come after them, its course goes on from here.
abbrev pub Reaches : Calibration → ℕ → State → List Line → List Entry → Place → Type 0
Reaches calibration session start did entries place =
    (rest : List Line) → IsRunning calibration session start (did ++ rest) entries (settled calibration (state_after start entries) rest place)

-- The session has done these lines and is at this one, for which it has messages to get: whatever lines come after it, its
-- course goes on from here.
abbrev pub IsGetting : Calibration → ℕ → State → List Line → Line → List Entry → Place → List Todo → Type 0
IsGetting calibration session start did line entries place todo =
    (rest : List Line) → IsRunning calibration session start (did ++ line ∷ rest) entries (record place { left = line ∷ rest; todo = todo })

-- the place once want of memory stops the session, which then gives its claims back
abbrev pub stopped_at : Place → Place
stopped_at place = record place { left = []; todo = returns place.todo; stopped = true }

-- nothing, or a print by its pairs or its ranges
abbrev pub IsPrintAtMost : List Piece → Type 0
IsPrintAtMost [] = Unit {0}
IsPrintAtMost (piece.Marginal print ∷ []) = Unit {0}
IsPrintAtMost (piece.Ranges print ∷ []) = Unit {0}
IsPrintAtMost other = ⊥

-- Want of memory stopped the session after some entries and some commands, before the last one was done: its acts weren't
-- all made, or its messages weren't made into what it tells. From there on it gives its claims back, the newest first.
pub record IsStopped (calibration : Calibration) (session : ℕ) (start : State) (script : List Line) (entries : List Entry) (place : Place) : Type 0 where
  pub commands : ℕ
  pub earlier : List Entry
  pub later : List Entry
  pub last : Place
  pub told : List Piece
  pub missed : List Piece
  pub running : IsRunning calibration session start (take commands script) earlier last
  pub written : last.written ≡ told ++ missed
  pub few : IsPrintAtMost missed
  pub unfinished : 0 < length last.left + length (drop commands script) + length missed
  pub follows : Follows calibration session (state_after start earlier) (stopped_at (record last { written = told })) later
  pub reached : place ≡ walk calibration session (state_after start earlier) (stopped_at (record last { written = told })) later
  pub all : entries ≡ earlier ++ later

-- The journal's entries of the session's seat are those of a course of its script, and this is where they lead.
abbrev pub IsCourse : Calibration → ℕ → State → List Line → List Entry → Place → Type 0
IsCourse calibration session start script entries place =
    IsRunning calibration session start script entries place ⊎ IsStopped calibration session start script entries place

-- what a command brings is in order: the years of a grid, a change, and the name of an event of which it tells
abbrev pub IsFit : Command → Type 0
IsFit (command.Grid older younger) = IsYear older × IsYear younger
IsFit (command.Change edit) = IsInOrder edit
IsFit (command.Print name) = name ≢ []
IsFit (command.Ranges name) = name ≢ []
IsFit other = Unit {0}

abbrev pub AreFit : List Line → Type 0
AreFit lines = All (λ line. IsFit line.command) lines
