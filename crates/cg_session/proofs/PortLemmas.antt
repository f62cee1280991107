-- What an event of the book leaves, and what a question is replied to.
use Rattle.std.proofs.Common.{◌≡◌, ℕ, [], ◌∷◌, ◌++◌, refl, sym, ap, subst, ◌∙◌, append-nil, Option, Some, None}
use Rattle.cg_sharing.specs.Journal.{Act, Answer, Entry, May, IsLegal}
use Rattle.cg_sharing.proofs.JournalLemmas.{IsLegal-append}
use Rattle.cg_book.specs.declared.event.Reply.{Reply}
use Rattle.cg_book.specs.declared.question.Question.{Question}
use Rattle.cg_message.specs.Value as message
use Rattle.cg_book.specs.declared.event.Event.{Event}
use Rattle.cg_book.specs.Plain.{shared_in, asked, Steps, IsOfVersions, Suits}
use Rattle.cg_book.specs.Replies.{question_in, event_of}
use Rattle.cg_book.proofs.QuestionLemmas.{asked-event_of, versions-event_of}
use Rattle.cg_session.specs.Port.{Seen, Grows}

pub legal_step : (old new : Seen) (seat : ℕ) (act : Act) (answer : Option Answer) → Steps old seat act answer new → IsLegal old.start old.journal → May (shared_in old) seat act → IsLegal new.start new.journal
legal_step old new seat act None step legal may = let P : Seen → Type 0 = λ seen. IsLegal seen.start seen.journal in subst P (sym step) legal
legal_step old new seat act (Some answer) step legal may =
    let entry : Entry = record { seat = seat; act = act; answer = answer } in
    let P : Seen → Type 0 = λ seen. IsLegal seen.start seen.journal in
    subst P (sym step.1) (IsLegal-append old.start old.journal (entry ∷ []) legal (may, step.0, tt))

-- the event of a question asks it
pub asks_it : (question : Question) (event : Event message.Seen) → event ≡ event_of question → asked event ≡ question_in question
asks_it question event is = ap (λ (e : Event message.Seen). asked e) is ∙ asked-event_of message.Seen question

-- and versions reply to it
pub of_versions : (question : Question) (event : Event message.Seen) (given : Reply message.Seen) → event ≡ event_of question → Suits event given → IsOfVersions given
of_versions question event given is suits = let S : Event message.Seen → Type 0 = λ e. Suits e given in versions-event_of message.Seen question given (subst S is suits)

-- to a seat that has the book to itself the journal grows by its own entry
pub grown_alone : (old new : Seen) (seat : ℕ) (act : Act) (answer : Option Answer) → Steps old seat act answer new → Grows seat (Unit {0}) act answer old new
grown_alone old new seat act None step =
    record { others = []; theirs = tt; none = λ _. refl; start = ap (λ (s : Seen). s.start) step; journal = ap (λ (s : Seen). s.journal) step ∙ sym (append-nil old.journal) }
grown_alone old new seat act (Some answer) step = record {
  others = [];
  theirs = tt;
  none = λ _. refl;
  start = ap (λ (s : Seen). s.start) step.1;
  journal = ap (λ (s : Seen). s.journal) step.1 ∙ ap (λ es. es ++ record { seat = seat; act = act; answer = answer } ∷ []) (sym (append-nil old.journal));
}
