-- The entries of claims, and of their ends.
use Rattle.std.proofs.Common.{◌≡◌, ℕ, ◌+◌, ◌-◌, ◌≤◌, List, [], ◌∷◌, ◌++◌, length, refl, ap, sym, subst, ◌∙◌, Option, Some, None}
use Rattle.std.specs.Prelude.{IfSome, option_map}
use Rattle.cg_cache.specs.Cached as cached
use Rattle.cg_cache.specs.Cached.{Cached, owner, claim_answer, after_claim, after_publish, after_give_back}
use Rattle.cg_cache.specs.Deeds.{Claim, Publish, GiveBack, Claimed, Published, Returned}
use Rattle.cg_sharing.specs.Versions.{State}
use Rattle.cg_sharing.specs.Journal.{Do, Answer, Told, Entry, Shared, answer_of, shared_after}
use Rattle.cg_book.specs.Replay.{IsReplay, HasRoom, open_after}
use Rattle.cg_book.proofs.ReplayLemmas.{one-more}
use Rattle.cg_book.proofs.RoomLemmas.{room-claimed, room-closed}

-- the answer of a claim is that of what is shared
pub claim-told : {start : Shared} {state : State} {before : Cached} {journal : List Entry} (code : List ℕ) (given : Option cached.Answer) (told : Option Answer) (answer : Answer) →
    Some answer ≡ told → told ≡ option_map (λ a. Told (Claimed a)) given → IfSome given (λ a. a ≡ claim_answer before code) →
    IsReplay start (record { state = state; cached = before }) journal → answer ≡ answer_of (shared_after start journal) (Do (Claim code))
claim-told code None told answer is by answered h = let no : ⊥ = cc in absurd no
claim-told code (Some x) told answer is by answered h =
    let own : answer ≡ Told (Claimed x) = cc in
    own ∙ (ap (λ (a : cached.Answer). Told (Claimed a)) answered ∙ ap (λ (shared : Shared). answer_of shared (Do (Claim code))) h.replay)

-- a claim becomes an entry, and there is room for the one that closes it
pub claim-noted : {start : Shared} {state : State} {before after : Cached} {journal : List Entry} (seat : ℕ) (code : List ℕ) (given : Option cached.Answer) (told : Option Answer) (answer : Answer) (open_claims entries capacity : ℕ) →
    Some answer ≡ told → told ≡ option_map (λ a. Told (Claimed a)) given → IfSome given (λ a. a ≡ claim_answer before code) → IfSome given (λ a. after ≡ after_claim before seat code a) →
    IsReplay start (record { state = state; cached = before }) journal → length before.claimed ≤ open_claims → entries + (1 + open_claims) ≤ capacity →
    IsReplay start (record { state = state; cached = after }) (journal ++ record { seat = seat; act = Do (Claim code); answer = answer } ∷ [])
    × HasRoom after.claimed (open_after open_claims answer) entries capacity
claim-noted seat code None told answer open_claims entries capacity is by answered to h counted room = let no : ⊥ = cc in absurd no
claim-noted {start = start} {state = state} {before = before} {after = after} {journal = journal} seat code (Some x) told answer open_claims entries capacity is by answered to h counted room =
    let own : answer ≡ Told (Claimed x) = cc in
    let entry : Entry = record { seat = seat; act = Do (Claim code); answer = Told (Claimed x) } in
    let replay : IsReplay start (record { state = state; cached = after }) (journal ++ entry ∷ []) =
    one-more entry h tt (ap (λ (a : cached.Answer). Told (Claimed a)) answered) (ap (λ (c : Cached). record { state = state; cached = c }) to) in
    let kept : HasRoom after.claimed (open_after open_claims (Told (Claimed x))) entries capacity =
    subst (λ (c : Cached). HasRoom c.claimed (open_after open_claims (Told (Claimed x))) entries capacity) (sym to)
    (room-claimed before seat code x open_claims entries capacity counted room) in
    subst (λ (a : Answer). IsReplay start (record { state = state; cached = after }) (journal ++ record { seat = seat; act = Do (Claim code); answer = a } ∷ [])
    × HasRoom after.claimed (open_after open_claims a) entries capacity) (sym own) (replay, kept)

-- a payload that is kept becomes an entry
pub publish-noted : {start : Shared} {state : State} {before after : Cached} {journal : List Entry} (seat : ℕ) (code : List ℕ) (open_claims entries capacity : ℕ) →
    owner code before.claimed ≡ Some seat → after ≡ after_publish before code → IsReplay start (record { state = state; cached = before }) journal →
    length before.claimed ≤ open_claims → entries + open_claims ≤ capacity + 1 →
    IsReplay start (record { state = state; cached = after }) (journal ++ record { seat = seat; act = Do (Publish code); answer = Told Published } ∷ [])
    × HasRoom after.claimed (open_claims - 1) entries capacity
publish-noted {state = state} {before = before} {after = after} seat code open_claims entries capacity owned to h counted room = (
  one-more (record { seat = seat; act = Do (Publish code); answer = Told Published }) h owned refl (ap (λ (c : Cached). record { state = state; cached = c }) to),
  room-closed code before.claimed after.claimed seat open_claims entries capacity owned (ap (λ (c : Cached). c.claimed) to) counted room,
)

-- and so does a claim that is given back
pub give_back-noted : {start : Shared} {state : State} {before after : Cached} {journal : List Entry} (seat : ℕ) (code : List ℕ) (open_claims entries capacity : ℕ) →
    owner code before.claimed ≡ Some seat → after ≡ after_give_back before code → IsReplay start (record { state = state; cached = before }) journal →
    length before.claimed ≤ open_claims → entries + open_claims ≤ capacity + 1 →
    IsReplay start (record { state = state; cached = after }) (journal ++ record { seat = seat; act = Do (GiveBack code); answer = Told Returned } ∷ [])
    × HasRoom after.claimed (open_claims - 1) entries capacity
give_back-noted {state = state} {before = before} {after = after} seat code open_claims entries capacity owned to h counted room = (
  one-more (record { seat = seat; act = Do (GiveBack code); answer = Told Returned }) h owned refl (ap (λ (c : Cached). record { state = state; cached = c }) to),
  room-closed code before.claimed after.claimed seat open_claims entries capacity owned (ap (λ (c : Cached). c.claimed) to) counted room,
)
