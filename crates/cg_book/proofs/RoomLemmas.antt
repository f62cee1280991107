-- How many claims are open after a claim and after its end.
use Rattle.std.proofs.Common.{◌≡◌, ℕ, ◌+◌, ◌-◌, ◌≤◌, Bool, true, false, not, cond, List, [], ◌∷◌, length, ap, arith, Some, bytes_eq}
use Rattle.std.proofs.lemmas.List.Sums.{length-filter, count_by-le-length}
use Rattle.cg_cache.specs.Cached as cached
use Rattle.cg_cache.specs.Cached.{Cached, owner, unclaimed, after_claim}
use Rattle.cg_cache.specs.Deeds.{Claimed}
use Rattle.cg_sharing.specs.Journal.{Told}
use Rattle.cg_book.specs.Replay.{HasRoom, open_after}

-- a claim is one more at most
pub room-claimed : (before : Cached) (seat : ℕ) (code : List ℕ) (answer : cached.Answer) (open_claims entries capacity : ℕ) → length before.claimed ≤ open_claims → entries + (1 + open_claims) ≤ capacity →
    HasRoom (after_claim before seat code answer).claimed (open_after open_claims (Told (Claimed answer))) entries capacity
room-claimed before seat code cached.Hit open_claims entries capacity counted room = record { counted = counted; room = omega arith }
room-claimed before seat code cached.Mine open_claims entries capacity counted room = record { counted = omega arith; room = omega arith }
room-claimed before seat code (cached.Busy owner) open_claims entries capacity counted room = record { counted = counted; room = omega arith }
room-claimed before seat code cached.NoRoom open_claims entries capacity counted room = record { counted = counted; room = omega arith }

fewer-step : (code : List ℕ) (claim : List ℕ × ℕ) (claims : List (List ℕ × ℕ)) (seat : ℕ) (b : Bool) → length (unclaimed code claims) ≤ length claims →
    (owner code claims ≡ Some seat → length (unclaimed code claims) + 1 ≤ length claims) → cond b (Some claim.1) (owner code claims) ≡ Some seat →
    length (cond (not b) (claim ∷ unclaimed code claims) (unclaimed code claims)) + 1 ≤ length (claim ∷ claims)
fewer-step code claim claims seat true le then e = omega arith
fewer-step code claim claims seat false le then e = let h = then e in omega arith

-- a claim that ends is one fewer at least
pub fewer-claimed : (code : List ℕ) (claims : List (List ℕ × ℕ)) (seat : ℕ) → owner code claims ≡ Some seat → length (unclaimed code claims) + 1 ≤ length claims
fewer-claimed code [] seat e = cc
fewer-claimed code (claim ∷ claims) seat e =
    let others : List ℕ × ℕ → Bool = λ other. not (bytes_eq code other.0) in
    let le : length (unclaimed code claims) ≤ length claims = omega (arith, length-filter others claims, count_by-le-length others claims) in
    fewer-step code claim claims seat (bytes_eq code claim.0) le (fewer-claimed code claims seat) e

pub room-closed : (code : List ℕ) (before after : List (List ℕ × ℕ)) (seat open_claims entries capacity : ℕ) → owner code before ≡ Some seat → after ≡ unclaimed code before →
    length before ≤ open_claims → entries + open_claims ≤ capacity + 1 → HasRoom after (open_claims - 1) entries capacity
room-closed code before after seat open_claims entries capacity owned to counted room =
    let fewer = fewer-claimed code before seat owned in
    let size : length after ≡ length (unclaimed code before) = ap (λ (claims : List (List ℕ × ℕ)). length claims) to in
    record { counted = omega arith; room = omega arith }
