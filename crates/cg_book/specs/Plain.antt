-- Events, replies and entries in the words of the definitions.
use Rattle.std.specs.Prelude.{◌≡◌, ◌≢◌, ℕ, List, [], ◌∷◌, ◌++◌, Option, Some, None, option_map}
use Rattle.std.specs.Arc.{arc_value}
use Rattle.cg_cache.specs.Cached as cached
use Rattle.cg_cache.specs.Deeds as deeds
use Rattle.cg_sharing.specs.Edit as edits
use Rattle.cg_sharing.specs.Versions.{State, chronology_of}
use Rattle.cg_sharing.specs.Journal as meaning
use Rattle.cg_sharing.specs.Journal.{Shared, state_after, shared_after, answer_of}
use Rattle.cg_edit.specs.Plain.{edit_in, fault_in}
use Rattle.cg_edit.specs.declared.fault.EditFault.TheVariants.{NoMemory}
use Rattle.cg_book.specs.declared.event.Event.{Event}
use Rattle.cg_book.specs.declared.event.Event.TheVariants as event
use Rattle.cg_book.specs.declared.event.Reply.{Reply}
use Rattle.cg_book.specs.declared.event.Reply.TheVariants as reply
use Rattle.cg_book.specs.declared.journal.Act.{Act}
use Rattle.cg_book.specs.declared.journal.Act.TheVariants as act
use Rattle.cg_book.specs.declared.journal.Answer.{Answer}
use Rattle.cg_book.specs.declared.journal.Answer.TheVariants as answer
use Rattle.cg_book.specs.declared.journal.Entry.{Entry}

abbrev pub act_in : Act → meaning.Act
act_in (act.Head name) = meaning.Head name
act_in (act.Take version) = meaning.Take version
act_in (act.Undo version) = meaning.Undo version
act_in (act.Change version edit) = meaning.Change version (edit_in edit)
act_in (act.Commit name base version) = meaning.Commit name base version
act_in (act.Claim code) = meaning.Do (deeds.Claim (arc_value code))
act_in (act.Publish code) = meaning.Do (deeds.Publish (arc_value code))
act_in (act.GiveBack code) = meaning.Do (deeds.GiveBack (arc_value code))

-- a refusal; want of memory is no answer, and stands here for an unknown name
abbrev pub refused : Option edits.EditFault → meaning.Answer
refused (Some fault) = meaning.Refused fault
refused None = meaning.Refused edits.NoName

abbrev pub answer_in : Answer → meaning.Answer
answer_in (answer.At version) = meaning.At version
answer_in (answer.Made version) = meaning.Made version
answer_in (answer.Committed version) = meaning.Committed version
answer_in answer.Hit = meaning.Told (deeds.Claimed cached.Hit)
answer_in answer.Mine = meaning.Told (deeds.Claimed cached.Mine)
answer_in (answer.Busy seat) = meaning.Told (deeds.Claimed (cached.Busy seat))
answer_in answer.NoRoom = meaning.Told (deeds.Claimed cached.NoRoom)
answer_in answer.Published = meaning.Told deeds.Published
answer_in answer.Returned = meaning.Told deeds.Returned
answer_in answer.NoModel = meaning.NoModel
answer_in (answer.NoVersion count) = meaning.NoVersion count
answer_in answer.NoParent = meaning.NoParent
answer_in (answer.Refused fault) = refused (fault_in fault)
answer_in (answer.Moved head) = meaning.Moved head

abbrev pub entry_in : Entry → meaning.Entry
entry_in entry = record { seat = entry.seat; act = act_in entry.act; answer = answer_in entry.answer }

-- what a book is seen as: what is shared at the start, the journal, and the origin of all payloads
pub record Seen (O : Type 0) : Type 0 where
  pub start : Shared
  pub journal : List meaning.Entry
  pub origin : O

module _ {O : Type 0} where
  -- what is shared now
  abbrev pub shared_in : Seen O → Shared
  shared_in book = shared_after book.start book.journal

  -- the versions now
  abbrev pub state_of : Seen O → State
  state_of book = state_after book.start.state book.journal

  -- one entry more
  abbrev pub logged : Seen O → meaning.Entry → Seen O
  logged book entry = record book { journal = book.journal ++ entry ∷ [] }

  -- One step of the book: want of memory leaves it as it was. Any other answer is the one that its versions and its cache
  -- give, and one entry more.
  abbrev pub Steps : Seen O → ℕ → meaning.Act → Option meaning.Answer → Seen O → Type 0
  Steps old seat a None new = new ≡ old
  Steps old seat a (Some x) new =
      (x ≡ answer_of (shared_in old) a) × (new ≡ logged old record { seat = seat; act = a; answer = x })

module _ {P : Type 0} where
  -- what an event asks
  abbrev pub asked : Event P → meaning.Act
  asked (event.Head name) = meaning.Head name
  asked (event.Take version) = meaning.Take version
  asked (event.Undo version) = meaning.Undo version
  asked (event.Change version edit) = meaning.Change version (edit_in edit)
  asked (event.Commit name base version) = meaning.Commit name base version
  asked (event.Claim code) = meaning.Do (deeds.Claim (arc_value code))
  asked (event.Publish ticket payload) = meaning.Do (deeds.Publish (arc_value ticket.code))
  asked (event.GiveBack ticket) = meaning.Do (deeds.GiveBack (arc_value ticket.code))

  -- the answer of a reply; none for want of memory
  abbrev pub answered : Reply P → Option meaning.Answer
  answered (reply.At version tree) = Some (meaning.At version)
  answered (reply.Made version tree) = Some (meaning.Made version)
  answered (reply.Committed version) = Some (meaning.Committed version)
  answered (reply.Hit payload) = Some (meaning.Told (deeds.Claimed cached.Hit))
  answered (reply.Mine ticket) = Some (meaning.Told (deeds.Claimed cached.Mine))
  answered (reply.Busy seat) = Some (meaning.Told (deeds.Claimed (cached.Busy seat)))
  answered reply.NoRoom = Some (meaning.Told (deeds.Claimed cached.NoRoom))
  answered reply.Published = Some (meaning.Told deeds.Published)
  answered reply.Returned = Some (meaning.Told deeds.Returned)
  answered reply.NoModel = Some meaning.NoModel
  answered (reply.NoVersion count) = Some (meaning.NoVersion count)
  answered reply.NoParent = Some meaning.NoParent
  answered (reply.Refused fault) = option_map (λ f. meaning.Refused f) (fault_in fault)
  answered (reply.Moved head) = Some (meaning.Moved head)
  answered reply.NoMemory = None

  -- a refused change is never told as want of memory
  abbrev pub IsTold : Reply P → Type 0
  IsTold given = given ≢ reply.Refused NoMemory

  -- a reply of the versions: no payload, no ticket, and nothing else that a cache tells
  abbrev pub IsOfVersions : Reply P → Type 0
  IsOfVersions (reply.Hit payload) = ⊥
  IsOfVersions (reply.Mine ticket) = ⊥
  IsOfVersions (reply.Busy seat) = ⊥
  IsOfVersions reply.NoRoom = ⊥
  IsOfVersions reply.Published = ⊥
  IsOfVersions reply.Returned = ⊥
  IsOfVersions other = Unit {0}

  -- what is asked of the versions they reply to; and a claim that is to be closed is closed, whatever memory there is
  abbrev pub Suits : Event P → Reply P → Type 0
  Suits (event.Claim code) given = Unit {0}
  Suits (event.Publish ticket payload) given = given ≡ reply.Published
  Suits (event.GiveBack ticket) given = given ≡ reply.Returned
  Suits other given = IsOfVersions given

  module _ {O : Type 0} (code_of : P → List ℕ) (origin_of : P → O) where
    -- what an event brings: a ticket of the seat, and a payload with the ticket's code and the book's origin
    abbrev pub Brings : Seen O → ℕ → Event P → Type 0
    Brings book seat (event.Publish ticket payload) =
        (ticket.seat ≡ seat) × (code_of (arc_value payload) ≡ arc_value ticket.code)
        × (origin_of (arc_value payload) ≡ book.origin)
    Brings book seat (event.GiveBack ticket) = ticket.seat ≡ seat
    Brings book seat other = Unit {0}

    -- what a reply carries: the tree of the version beside it, the payload of the code that was asked for, with the
    -- book's origin, or the seat's ticket for that code
    abbrev pub Carries : Seen O → ℕ → meaning.Act → Reply P → Type 0
    Carries book seat a (reply.At version tree) = arc_value tree ≡ chronology_of (state_of book) version
    Carries book seat a (reply.Made version tree) = arc_value tree ≡ chronology_of (state_of book) version
    Carries book seat a (reply.Hit payload) =
        (a ≡ meaning.Do (deeds.Claim (code_of (arc_value payload)))) × (origin_of (arc_value payload) ≡ book.origin)
    Carries book seat a (reply.Mine ticket) =
        (a ≡ meaning.Do (deeds.Claim (arc_value ticket.code))) × (ticket.seat ≡ seat)
    Carries book seat a other = Unit {0}
