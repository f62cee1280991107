-- The cache after entries: codes that are ready and codes that are claimed. chron's own.
use Rattle.std.specs.Prelude.{◌≡◌, ◌≢◌, false, ℕ, ◌+◌, ◌-◌, Bool, not, List, [], ◌∷◌, length, take, nat_le, Option, None, Some, if◌then◌else◌, bytes_eq}
use Rattle.std.specs.List.{All, AllPairs, filter, list_any}

-- ready codes with the last used first, and claimed codes with their seats, the newest first
pub record Cached : Type 0 where
  pub capacity : ℕ
  pub ready : List (List ℕ)
  pub claimed : List (List ℕ × ℕ)

-- what a claim is answered, but for memory
pub data Answer : Type 0 where
  Hit : Answer
  Mine : Answer
  Busy : ℕ → Answer
  NoRoom : Answer

-- whether a code is among these
abbrev pub stands : List ℕ → List (List ℕ) → Bool
stands code codes = list_any (λ other. bytes_eq code other) codes

-- these codes but one
abbrev pub without_code : List ℕ → List (List ℕ) → List (List ℕ)
without_code code codes = filter (λ other. not (bytes_eq code other)) codes

-- the seat that has claimed a code
abbrev pub owner : List ℕ → List (List ℕ × ℕ) → Option ℕ
owner code [] = None
owner code (claim ∷ claims) = if bytes_eq code claim.0 then Some claim.1 else owner code claims

-- these claims but that of one code
abbrev pub unclaimed : List ℕ → List (List ℕ × ℕ) → List (List ℕ × ℕ)
unclaimed code claims = filter (λ claim. not (bytes_eq code claim.0)) claims

-- the answer where the code isn't ready: the owner's seat, no room where all the capacity is claimed, or the ticket
abbrev pub busy_or : Cached → Option ℕ → Answer
busy_or cached (Some seat) = Busy seat
busy_or cached None = if nat_le cached.capacity (length cached.claimed) then NoRoom else Mine

-- the answer to a claim of a code
abbrev pub claim_answer : Cached → List ℕ → Answer
claim_answer cached code = if stands code cached.ready then Hit else busy_or cached (owner code cached.claimed)

-- the ready codes for a further claim: the last is dropped where ready and claimed ones fill the capacity
abbrev pub cut_if_full : Cached → List (List ℕ)
cut_if_full cached =
    if nat_le cached.capacity (length cached.ready + length cached.claimed)
    then take (length cached.ready - 1) cached.ready else cached.ready

-- a claim of a seat after its answer: a hit goes to the front, and a claim is the newest
abbrev pub after_claim : Cached → ℕ → List ℕ → Answer → Cached
after_claim cached seat code Hit = record cached { ready = code ∷ without_code code cached.ready }
after_claim cached seat code Mine =
    record cached { ready = cut_if_full cached; claimed = (code, seat) ∷ cached.claimed }
after_claim cached seat code (Busy other) = cached
after_claim cached seat code NoRoom = cached

-- a claim that becomes ready
abbrev pub after_publish : Cached → List ℕ → Cached
after_publish cached code = record cached { ready = code ∷ cached.ready; claimed = unclaimed code cached.claimed }

-- a claim that is given back
abbrev pub after_give_back : Cached → List ℕ → Cached
after_give_back cached code = record cached { claimed = unclaimed code cached.claimed }

-- no code stands twice
pub record HasOnce (cached : Cached) : Type 0 where
  pub ready : AllPairs (λ a b. a ≢ b) cached.ready
  pub claimed : AllPairs (λ a b. a.0 ≢ b.0) cached.claimed
  pub apart : All (λ claim. stands claim.0 cached.ready ≡ false) cached.claimed
