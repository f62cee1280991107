-- One entry more keeps a replay.
use Rattle.std.proofs.Common.{◌≡◌, ℕ, List, [], ◌∷◌, ◌++◌, Option, Some, ap, sym, subst, ◌∙◌}
use Rattle.cg_cache.specs.Cached.{Cached}
use Rattle.cg_sharing.specs.Versions.{State}
use Rattle.cg_sharing.specs.Journal.{Act, Answer, Entry, Shared, answer_of, state_after, shared_by, May}
use Rattle.cg_sharing.proofs.JournalLemmas.{shared_after-append, state-shared_after, IsLegal-append}
use Rattle.cg_book.specs.declared.question.Question.{Question}
use Rattle.cg_book.specs.Plain.{Seen, shared_in}
use Rattle.cg_book.specs.Replies.{question_in, Replies}
use Rattle.cg_book.specs.Replay.{IsReplay}
use Rattle.cg_book.proofs.QuestionLemmas.{answer-alone, shared_by-question}

pub one-more : {start before now : Shared} {journal : List Entry} (entry : Entry) → IsReplay start before journal → May before entry.seat entry.act →
    entry.answer ≡ answer_of before entry.act → now ≡ shared_by before entry → IsReplay start now (journal ++ entry ∷ [])
one-more {start = start} {before = before} {now = now} {journal = journal} entry h may is to =
    record {
      legal = IsLegal-append start journal (entry ∷ []) h.legal (
        subst (λ (shared : Shared). May shared entry.seat entry.act) h.replay may,
        is ∙ ap (λ (shared : Shared). answer_of shared entry.act) h.replay,
        tt,
      );
      replay = to ∙ (ap (λ (shared : Shared). shared_by shared entry) h.replay ∙ sym (shared_after-append start journal (entry ∷ [])));
    }

module _ {O : Type 0} where
  -- what may be asked of a book may be asked of what is shared
  pub may-now : {now : Shared} (seen book : Seen O) (seat : ℕ) (act : Act) → seen ≡ book → IsReplay seen.start now seen.journal → May (shared_in book) seat act → May now seat act
  may-now seen book seat act same h may =
      subst (λ (shared : Shared). May shared seat act) (sym h.replay) (subst (λ (b : Seen O). May (shared_in b) seat act) (sym same) may)

-- the versions of a book
pub versions-now : {start now : Shared} {journal : List Entry} → IsReplay start now journal → now.state ≡ state_after start.state journal
versions-now {start = start} {journal = journal} h = ap (λ (shared : Shared). shared.state) h.replay ∙ state-shared_after start journal

-- a reply of the versions that becomes an entry
pub noted : {start : Shared} {before now : State} {cached : Cached} {journal : List Entry} (seat : ℕ) (question : Question) (act : Act) (answer : Answer) (told : Option Answer) →
    act ≡ question_in question → Some answer ≡ told → IsReplay start (record { state = before; cached = cached }) journal →
    May (record { state = before; cached = cached }) seat (question_in question) → Replies before (question_in question) told now →
    IsReplay start (record { state = now; cached = cached }) (journal ++ record { seat = seat; act = act; answer = answer } ∷ [])
noted {start = start} {before = before} {now = now} {cached = cached} {journal = journal} seat question act answer told same is h may step =
    let shared : Shared = record { state = before; cached = cached } in
    let own : Replies before (question_in question) (Some answer) now = subst (λ (o : Option Answer). Replies before (question_in question) o now) (sym is) step in
    let entry : Entry = record { seat = seat; act = question_in question; answer = answer } in
    let to : (record { state = now; cached = cached }) ≡ shared_by shared entry =
    ap (λ (state : State). record { state = state; cached = cached }) own.1 ∙ sym (shared_by-question shared seat question answer) in
    subst (λ (a : Act). IsReplay start (record { state = now; cached = cached }) (journal ++ record { seat = seat; act = a; answer = answer } ∷ [])) (sym same)
    (one-more entry h may (own.0 ∙ answer-alone shared question) to)
