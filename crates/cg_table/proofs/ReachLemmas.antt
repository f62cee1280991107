-- How far exponents reach, and the greatest reach of a list.
use Rattle.std.proofs.Common.{◌≡◌, ℕ, zero, suc, ◌+◌, ◌*◌, ◌^◌, ◌<◌, ◌≤◌, max, ℤ, pos, negsuc, unsigned_abs, List, [], ◌∷◌, ◌++◌, length, get_or, fold, lit<, arith, refl}
use Rattle.std.specs.List.{All}
use Rattle.std.proofs.Math.Nat.{mul-le-mul_right}
use Rattle.std.proofs.lemmas.List.Elements.{All-head, All-tail}
use Rattle.std.proofs.lemmas.List.Sums.{fold_push}
use borrow.Author.Differences.{up, down}
use Rattle.cg_enc.specs.Enclosure.{Enclosure, IsExponent}
use Rattle.cg_enc.specs.Rounding.{ceil_div}
use Rattle.cg_enc.proofs.Divisions.{ceil_above, ceil_least}
use Rattle.cg_table.specs.Losses.{reach_of, greatest_reach}

pub reach_of-quotient : (a : Enclosure) → reach_of a ≡ ceil_div (up a.exp + down a.exp) (2 ^ 31)
unfolding reach_of
reach_of-quotient a = refl

-- an exponent has one part
parts : (e : ℤ) (m : ℕ) → IsExponent m e → up e + down e ≤ m
parts (pos n) m h = omega (arith, h)
parts (negsuc n) m h = omega (arith, h)

-- the exponent is within its reach, which is the least
pub reach_of-IsExponent : (a : Enclosure) → IsExponent (reach_of a * 2 ^ 31) a.exp
reach_of-IsExponent a =
    let above : up a.exp + down a.exp ≤ ceil_div (up a.exp + down a.exp) (2 ^ 31) * 2 ^ 31 = ceil_above (up a.exp + down a.exp) (2 ^ 31) (lit< tt) in
    rw (reach_of-quotient a) (omega (arith, above), omega (arith, above))

pub reach_of-least : (a : Enclosure) (m : ℕ) → IsExponent (m * 2 ^ 31) a.exp → reach_of a ≤ m
reach_of-least a m h = rw (reach_of-quotient a) (ceil_least (up a.exp + down a.exp) (2 ^ 31) m (lit< tt) (parts a.exp (m * 2 ^ 31) h))

-- a wider bound is one too
pub IsExponent-more : (e : ℤ) (m n : ℕ) → m ≤ n → IsExponent m e → IsExponent n e
IsExponent-more e m n le h = (omega (arith, h), omega (arith, h))

max_from : (k : ℕ) (xs : List Enclosure) (m : ℕ) → k ≤ m → All (λ e. reach_of e ≤ m) xs → fold (λ k e. max k (reach_of e)) k xs ≤ m
max_from k [] m le h = le
max_from k (x ∷ xs) m le h = max_from (max k (reach_of x)) xs m (omega (arith, All-head (λ e. reach_of e ≤ m) x xs h)) (All-tail (λ e. reach_of e ≤ m) x xs h)

below_max : (k : ℕ) (xs : List Enclosure) → k ≤ fold (λ k e. max k (reach_of e)) k xs
below_max k [] = omega arith
below_max k (x ∷ xs) = omega (arith, below_max (max k (reach_of x)) xs)

each_from : (k : ℕ) (xs : List Enclosure) (i : ℕ) (d : Enclosure) → i < length xs → reach_of (get_or xs i d) ≤ fold (λ k e. max k (reach_of e)) k xs
each_from k [] i d less = absurd (omega arith)
each_from k (x ∷ xs) zero d less = omega (arith, below_max (max k (reach_of x)) xs)
each_from k (x ∷ xs) (suc i) d less = each_from (max k (reach_of x)) xs i d (omega arith)

-- the greatest reach holds for each, and is the least that does
pub greatest_reach-IsExponent : (xs : List Enclosure) → All (λ e. IsExponent (greatest_reach xs * 2 ^ 31) e.exp) xs
greatest_reach-IsExponent xs = λ i d less.
    let le : reach_of (get_or xs i d) ≤ greatest_reach xs = each_from 0 xs i d less in
    IsExponent-more (get_or xs i d).exp (reach_of (get_or xs i d) * 2 ^ 31) (greatest_reach xs * 2 ^ 31) (mul-le-mul_right (2 ^ 31) le) (reach_of-IsExponent (get_or xs i d))

pub greatest_reach-least : (xs : List Enclosure) (m : ℕ) → All (λ e. IsExponent (m * 2 ^ 31) e.exp) xs → greatest_reach xs ≤ m
greatest_reach-least xs m h = max_from 0 xs m (omega arith) (λ i d less. reach_of-least (get_or xs i d) m (h i d less))

pub greatest_reach-push : (xs : List Enclosure) (x : Enclosure) → greatest_reach (xs ++ x ∷ []) ≡ max (greatest_reach xs) (reach_of x)
greatest_reach-push xs x = fold_push (λ k e. max k (reach_of e)) 0 xs x

-- by the distance from 0
pub reach_of-far : (a : Enclosure) → reach_of a ≡ ceil_div (unsigned_abs a.exp) (2 ^ 31)
reach_of-far a = rw (reach_of-quotient a, whole a.exp) refl
  where
    whole : (e : ℤ) → up e + down e ≡ unsigned_abs e
    whole (pos n) = omega arith
    whole (negsuc n) = omega arith

pub reach_of-most : (a : Enclosure) → IsExponent (2 ^ 60) a.exp → reach_of a ≤ 2 ^ 29
reach_of-most a h = reach_of-least a (2 ^ 29) h
