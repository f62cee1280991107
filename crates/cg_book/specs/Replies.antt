-- What versions are asked, and what they reply.
use Rattle.std.specs.Prelude.{◌≡◌, Option, Some, None}
use Rattle.std.specs.Arc.{arc_value}
use Rattle.cg_cache.specs.Deeds.{empty_of}
use Rattle.cg_sharing.specs.Versions.{State, chronology_of}
use Rattle.cg_sharing.specs.Journal as meaning
use Rattle.cg_sharing.specs.Journal.{Shared, May, answer_of, changed_by}
use Rattle.cg_edit.specs.Plain.{edit_in}
use Rattle.cg_book.specs.declared.event.Event.{Event}
use Rattle.cg_book.specs.declared.event.Event.TheVariants as event
use Rattle.cg_book.specs.declared.event.Reply.{Reply}
use Rattle.cg_book.specs.declared.event.Reply.TheVariants as reply
use Rattle.cg_book.specs.declared.question.Question.{Question}
use Rattle.cg_book.specs.declared.question.Question.TheVariants as question

abbrev pub question_in : Question → meaning.Act
question_in (question.Head name) = meaning.Head name
question_in (question.Take version) = meaning.Take version
question_in (question.Undo version) = meaning.Undo version
question_in (question.Change version edit) = meaning.Change version (edit_in edit)
question_in (question.Commit name base version) = meaning.Commit name base version

-- the event that asks it
abbrev pub event_of : {P : Type 0} → Question → Event P
event_of (question.Head name) = event.Head name
event_of (question.Take version) = event.Take version
event_of (question.Undo version) = event.Undo version
event_of (question.Change version edit) = event.Change version edit
event_of (question.Commit name base version) = event.Commit name base version

-- versions beside an empty cache, which no question asks of
abbrev pub alone : State → Shared
alone state = record { state = state; cached = empty_of 0 }

-- what may be asked of versions, by whichever seat
abbrev pub MayAsk : State → meaning.Act → Type 0
MayAsk state act = May (alone state) 0 act

-- One step of the versions: want of memory leaves them as they were. Any other answer is the one that they give, and
-- they are as it leaves them.
abbrev pub Replies : State → meaning.Act → Option meaning.Answer → State → Type 0
Replies old act None new = new ≡ old
Replies old act (Some x) new = (x ≡ answer_of (alone old) act) × (new ≡ changed_by act x old)

-- a reply of versions hands out no payload and no ticket, and a tree is that of the version beside it
abbrev pub HasTree : {P : Type 0} → State → Reply P → Type 0
HasTree state (reply.At version tree) = arc_value tree ≡ chronology_of state version
HasTree state (reply.Made version tree) = arc_value tree ≡ chronology_of state version
HasTree state (reply.Hit payload) = ⊥
HasTree state (reply.Mine ticket) = ⊥
HasTree state other = Unit {0}
