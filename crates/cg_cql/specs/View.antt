-- What the reader's values mean, and what its calls make of it.
use Rattle.std.specs.Prelude.{◌≡◌, true, List, map, reverse, Result, Ok, Err, Some, None}
use Rattle.cg_model.specs.Node.{trees_of}
use Rattle.cg_grammar.specs.Arguments.{is_call}
use Rattle.cg_grammar.specs.Done.{Done, barred}
use Rattle.cg_grammar.specs.Steps as spec
use Rattle.cg_grammar.specs.View.{given_of}
use Rattle.cg_grammar.specs.Words.{setting_of}
use Rattle.cg_grammar.specs.declared.command.Base.{Base}
use Rattle.cg_grammar.specs.declared.command.Command.{Command}
use Rattle.cg_grammar.specs.declared.fault.CqlCause.TheVariants.{NoMemory}
use Rattle.cg_grammar.specs.declared.fault.Refusal.{Refusal}
use Rattle.cg_grammar.specs.declared.fault.Refusal.TheVariants.{Here}
use Rattle.cg_cql.specs.declared.reader.Part.{Part}
use Rattle.cg_cql.specs.declared.reader.Part.TheVariants as parts
use Rattle.cg_cql.specs.declared.reader.Frame.{Frame}
use Rattle.cg_cql.specs.declared.reader.Reader.{Reader}

-- the part of a statement, as the table has it
abbrev pub part_of : Part → spec.Part
part_of parts.Item = spec.item
part_of parts.Closed = spec.closed
part_of (parts.Called command) = spec.called command
part_of (parts.Opening command) = spec.opening command
part_of (parts.Given command given) = spec.given command (given_of given)
part_of (parts.Parted command given) = spec.parted command (given_of given)
part_of (parts.Ready command given) = spec.ready command (given_of given)
part_of parts.Option = spec.option
part_of (parts.Named word setting) = spec.named word.now setting
part_of (parts.Equated word setting) = spec.equated word.now setting
part_of parts.Valued = spec.valued
part_of parts.Complete = spec.complete

-- an open group, as the table has it
abbrev pub frame_of : Frame → spec.Frame
frame_of frame = record { kind = frame.kind; name = frame.name; before = trees_of frame.before }

-- the open groups, the innermost first
abbrev pub frames_of : Reader → List spec.Frame
frames_of reader = map frame_of (reverse reader.frames.items)

-- what was left so far
abbrev pub done_of : Reader → Done
done_of reader =
    record { members = trees_of reader.members; curve = reader.curve; events = reader.events; groups = reader.groups }

-- the state of the table
abbrev pub state_of : Reader → spec.State
state_of reader = spec.state reader.base (frames_of reader) (done_of reader) (part_of reader.part)

-- a step is refused so, want of memory aside
abbrev pub Refuses : Refusal → spec.Step → Type 0
Refuses (Here NoMemory) step = Unit {0}
Refuses refusal step = step ≡ Err refusal

-- this step was made, to this state
abbrev pub IsMade : spec.Step → Result (Unit {0}) Refusal → spec.State → Type 0
IsMade step (Ok done) now = step ≡ Ok now
IsMade step (Err refusal) now = Refuses refusal step

-- a call makes the step of a part of a statement
abbrev pub Makes : Reader → (Base → List spec.Frame → Done → spec.Step) → Result (Unit {0}) Refusal → Reader → Type 0
Makes old part result new = IsMade (part old.base (frames_of old) (done_of old)) result (state_of new)

-- the command may stand there
abbrev pub IsFree : Reader → Command → Type 0
IsFree reader command = barred reader.base (spec.path_of (frames_of reader)) (done_of reader) command ≡ None

-- arguments were checked as they were read, and so were words
abbrev pub IsSoundAt : spec.Part → spec.State → Type 0
IsSoundAt (spec.ready command given) state =
    (is_call command given ≡ true) × (barred state.base (spec.path_of state.frames) state.done command ≡ None)
IsSoundAt (spec.equated letters setting) state = setting_of letters ≡ Some setting
IsSoundAt _ state = Unit {0}

-- what the parts of a reader keep
abbrev pub IsSound : spec.State → Type 0
IsSound state = IsSoundAt state.part state
