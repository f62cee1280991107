-- What seats do with a cache, and what they are told. chron's own.
use Rattle.std.specs.Prelude.{◌≡◌, ℕ, List, [], Option, Some}
use Rattle.cg_cache.specs.Cached.{Cached, Answer, claim_answer, after_claim, after_publish, after_give_back, owner}

-- a seat claims a code, publishes what it made for one that it has claimed, or gives the claim back
pub data Deed : Type 0 where
  Claim : List ℕ → Deed
  Publish : List ℕ → Deed
  GiveBack : List ℕ → Deed

-- what it is told: the answer to a claim, or that the deed is done
pub data Reply : Type 0 where
  Claimed : Answer → Reply
  Published : Reply
  Returned : Reply

-- a cache of this capacity in which nothing is ready or claimed
abbrev pub empty_of : ℕ → Cached
empty_of capacity = record { capacity = capacity; ready = []; claimed = [] }

abbrev pub reply_of : Cached → Deed → Reply
reply_of cached (Claim code) = Claimed (claim_answer cached code)
reply_of cached (Publish code) = Published
reply_of cached (GiveBack code) = Returned

-- a seat closes only its own claims
abbrev pub MayDo : Cached → ℕ → Deed → Type 0
MayDo cached seat (Claim code) = Unit {0}
MayDo cached seat (Publish code) = owner code cached.claimed ≡ Some seat
MayDo cached seat (GiveBack code) = owner code cached.claimed ≡ Some seat

-- the cache after a seat's deed, of which it is told so
abbrev pub after_deed : Cached → ℕ → Deed → Reply → Cached
after_deed cached seat (Claim code) (Claimed answer) = after_claim cached seat code answer
after_deed cached seat (Publish code) Published = after_publish cached code
after_deed cached seat (GiveBack code) Returned = after_give_back cached code
after_deed cached seat deed reply = cached
