-- A question to the versions, whatever the cache is.
use Rattle.std.proofs.Common.{◌≡◌, ℕ, List, refl, ap, ◌∙◌, Some, None}
use Rattle.cg_sharing.specs.Versions.{State, chronology_of}
use Rattle.cg_sharing.specs.Journal.{Act, Answer, Shared, answer_of, changed_by, shared_by, May}
use Rattle.cg_book.specs.declared.event.Reply.{Reply}
use Rattle.cg_book.specs.declared.event.Reply.TheVariants as reply
use Rattle.cg_book.specs.declared.question.Question.{Question}
use Rattle.cg_book.specs.declared.question.Question.TheVariants.{Head, Take, Undo, Change, Commit}
use Rattle.cg_book.specs.Plain.{Seen, state_of, asked, Brings, Carries, IsOfVersions, Suits}
use Rattle.cg_book.specs.Replies.{question_in, event_of, alone, MayAsk, HasTree}

-- its event asks just it,
pub asked-event_of : (P : Type 0) (question : Question) → asked (event_of {P = P} question) ≡ question_in question
asked-event_of P (Head name) = refl
asked-event_of P (Take version) = refl
asked-event_of P (Undo version) = refl
asked-event_of P (Change version edit) = refl
asked-event_of P (Commit name base version) = refl

-- and brings nothing
pub brings-event_of : {P O : Type 0} (code_of : P → List ℕ) (origin_of : P → O) (book : Seen O) (seat : ℕ) (question : Question) → Brings code_of origin_of book seat (event_of question)
brings-event_of code_of origin_of book seat (Head name) = tt
brings-event_of code_of origin_of book seat (Take version) = tt
brings-event_of code_of origin_of book seat (Undo version) = tt
brings-event_of code_of origin_of book seat (Change version edit) = tt
brings-event_of code_of origin_of book seat (Commit name base version) = tt

-- so versions reply to it
pub versions-event_of : (P : Type 0) (question : Question) (given : Reply P) → Suits (event_of {P = P} question) given → IsOfVersions given
versions-event_of P (Head name) given suits = suits
versions-event_of P (Take version) given suits = suits
versions-event_of P (Undo version) given suits = suits
versions-event_of P (Change version edit) given suits = suits
versions-event_of P (Commit name base version) given suits = suits

-- what may be asked of the versions beside a cache may be asked of them
pub may-ask : (shared : Shared) (seat : ℕ) (question : Question) → May shared seat (question_in question) → MayAsk shared.state (question_in question)
may-ask shared seat (Head name) may = tt
may-ask shared seat (Take version) may = tt
may-ask shared seat (Undo version) may = may
may-ask shared seat (Change version edit) may = may
may-ask shared seat (Commit name None version) may = may
may-ask shared seat (Commit name (Some base) version) may = may

-- the answer is the same
pub answer-alone : (shared : Shared) (question : Question) → answer_of (alone shared.state) (question_in question) ≡ answer_of shared (question_in question)
answer-alone shared (Head name) = refl
answer-alone shared (Take version) = refl
answer-alone shared (Undo version) = refl
answer-alone shared (Change version edit) = refl
answer-alone shared (Commit name base version) = refl

-- and the cache stays
pub shared_by-question : (shared : Shared) (seat : ℕ) (question : Question) (answer : Answer) →
    shared_by shared (record { seat = seat; act = question_in question; answer = answer })
    ≡ record { state = changed_by (question_in question) answer shared.state; cached = shared.cached }
shared_by-question shared seat (Head name) answer = refl
shared_by-question shared seat (Take version) answer = refl
shared_by-question shared seat (Undo version) answer = refl
shared_by-question shared seat (Change version edit) answer = refl
shared_by-question shared seat (Commit name base version) answer = refl

-- a book's reply of its versions carries their tree
pub carries-tree : {P O : Type 0} (code_of : P → List ℕ) (origin_of : P → O) (book : Seen O) (seat : ℕ) (act : Act) (state : State) (given : Reply P) →
    state ≡ state_of book → HasTree state given → Carries code_of origin_of book seat act given
carries-tree code_of origin_of book seat act state (reply.At version tree) same has = has ∙ ap (λ s. chronology_of s version) same
carries-tree code_of origin_of book seat act state (reply.Made version tree) same has = has ∙ ap (λ s. chronology_of s version) same
carries-tree code_of origin_of book seat act state (reply.Committed version) same has = tt
carries-tree code_of origin_of book seat act state (reply.Hit payload) same has = absurd has
carries-tree code_of origin_of book seat act state (reply.Mine ticket) same has = absurd has
carries-tree code_of origin_of book seat act state (reply.Busy owner) same has = tt
carries-tree code_of origin_of book seat act state reply.NoRoom same has = tt
carries-tree code_of origin_of book seat act state reply.Published same has = tt
carries-tree code_of origin_of book seat act state reply.Returned same has = tt
carries-tree code_of origin_of book seat act state reply.NoModel same has = tt
carries-tree code_of origin_of book seat act state (reply.NoVersion count) same has = tt
carries-tree code_of origin_of book seat act state reply.NoParent same has = tt
carries-tree code_of origin_of book seat act state (reply.Refused fault) same has = tt
carries-tree code_of origin_of book seat act state (reply.Moved head) same has = tt
carries-tree code_of origin_of book seat act state reply.NoMemory same has = tt
