-- What a port tells of a book.
use Rattle.std.specs.Prelude.{◌≡◌, ℕ, List, [], ◌∷◌, ◌++◌, Option, Some, None}
use Rattle.cg_sharing.specs.Journal.{Act, Answer, Entry}
use Rattle.cg_sharing.specs.Course.{AreOthers}
use Rattle.cg_curve.specs.Curves.{NamedCurve}
use Rattle.cg_message.specs.Value as message
use Rattle.cg_book.specs.Plain as book
use Rattle.cg_book.specs.declared.event.Event.{Event}
use Rattle.cg_book.specs.declared.event.Reply.{Reply}

-- what a seat has seen of a book, whose messages are made by curves
abbrev pub Seen : Type 0
Seen = book.Seen (List NamedCurve)

-- the code of a message, and the curves that it was made by
abbrev pub code_in : message.Seen → List ℕ
code_in m = m.code

abbrev pub curves_in : message.Seen → List NamedCurve
curves_in m = m.curves

-- what an event brings to a book, and what a reply carries
abbrev pub Brings : Seen → ℕ → Event message.Seen → Type 0
Brings seen seat event = book.Brings code_in curves_in seen seat event

abbrev pub Carries : Seen → ℕ → Act → Reply message.Seen → Type 0
Carries seen seat act reply = book.Carries code_in curves_in seen seat act reply

-- the journal after an answer to a seat, or after none
abbrev pub with_answer : List Entry → ℕ → Act → Option Answer → List Entry
with_answer entries seat act None = entries
with_answer entries seat act (Some answer) = entries ++ record { seat = seat; act = act; answer = answer } ∷ []

-- Entries of other seats came, and then the seat's own unless memory ran out. A seat that is alone sees no others.
pub record Grows (seat : ℕ) (alone : Type 0) (act : Act) (answer : Option Answer) (old new : Seen) : Type 0 where
  pub others : List Entry
  pub theirs : AreOthers seat others
  pub none : alone → others ≡ []
  pub start : new.start ≡ old.start
  pub journal : new.journal ≡ with_answer (old.journal ++ others) seat act answer
