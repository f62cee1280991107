-- Losses of enclosures, and the greatest one of a list.
use Rattle.std.proofs.Common.{◌≡◌, ℕ, zero, suc, ◌-◌, ◌*◌, ◌^◌, ◌<◌, ◌≤◌, max, List, [], ◌∷◌, ◌++◌, length, get_or, fold, inl, inr, arith, refl}
use Rattle.std.specs.List.{All}
use Rattle.std.proofs.Math.Nat.{mul-le-mul_right}
use Rattle.std.proofs.lemmas.Bool.{cases_eq, eq-eqb, ne_eqb}
use Rattle.std.proofs.lemmas.List.Elements.{All-head, All-tail}
use Rattle.std.proofs.lemmas.List.Sums.{fold_push}
use Rattle.cg_enc.specs.Enclosure.{Enclosure, HasLoss}
use Rattle.cg_enc.specs.Rounding.{ceil_div}
use Rattle.cg_enc.proofs.Divisions.{ceil_above, ceil_least}
use Rattle.cg_table.specs.Losses.{loss_of, greatest_loss}

pub loss_of-zero : (a : Enclosure) → a.hi ≡ 0 → loss_of a ≡ 0
unfolding loss_of
loss_of-zero a z = rw (eq-eqb a.hi 0 z) refl

pub loss_of-quotient : (a : Enclosure) → 0 < a.hi → loss_of a ≡ ceil_div ((a.hi - a.lo) * 2 ^ 62) a.hi
unfolding loss_of
loss_of-quotient a some = rw (ne_eqb a.hi 0 (λ z. absurd (omega arith))) refl

-- it is a loss, and the least one
pub loss_of-HasLoss : (a : Enclosure) → HasLoss a (loss_of a)
loss_of-HasLoss a =
    elim (cases_eq a.hi 0) [
      | inl z ↦ let none : a.hi - a.lo ≡ 0 = omega arith in rw (loss_of-zero a z, none) (omega arith)
      | inr n ↦ rw (loss_of-quotient a (omega arith)) (ceil_above ((a.hi - a.lo) * 2 ^ 62) a.hi (omega arith))
    ]

pub loss_of-least : (a : Enclosure) (k : ℕ) → HasLoss a k → loss_of a ≤ k
loss_of-least a k h =
    elim (cases_eq a.hi 0) [
      | inl z ↦ rw (loss_of-zero a z) (omega arith)
      | inr n ↦ rw (loss_of-quotient a (omega arith)) (ceil_least ((a.hi - a.lo) * 2 ^ 62) a.hi k (omega arith) h)
    ]

-- at most all of it
pub loss_of-most : (a : Enclosure) → loss_of a ≤ 2 ^ 62
loss_of-most a = let le : a.hi - a.lo ≤ a.hi = omega arith in loss_of-least a (2 ^ 62) (omega (arith, mul-le-mul_right (2 ^ 62) le))

-- a greater loss is one too
pub HasLoss-more : (a : Enclosure) (k j : ℕ) → k ≤ j → HasLoss a k → HasLoss a j
HasLoss-more a k j le h = omega (arith, h, mul-le-mul_right a.hi le)

max_from : (k : ℕ) (xs : List Enclosure) (m : ℕ) → k ≤ m → All (λ e. loss_of e ≤ m) xs → fold (λ k e. max k (loss_of e)) k xs ≤ m
max_from k [] m le h = le
max_from k (x ∷ xs) m le h = max_from (max k (loss_of x)) xs m (omega (arith, All-head (λ e. loss_of e ≤ m) x xs h)) (All-tail (λ e. loss_of e ≤ m) x xs h)

below_max : (k : ℕ) (xs : List Enclosure) → k ≤ fold (λ k e. max k (loss_of e)) k xs
below_max k [] = omega arith
below_max k (x ∷ xs) = omega (arith, below_max (max k (loss_of x)) xs)

each_from : (k : ℕ) (xs : List Enclosure) (i : ℕ) (d : Enclosure) → i < length xs → loss_of (get_or xs i d) ≤ fold (λ k e. max k (loss_of e)) k xs
each_from k [] i d less = absurd (omega arith)
each_from k (x ∷ xs) zero d less = omega (arith, below_max (max k (loss_of x)) xs)
each_from k (x ∷ xs) (suc i) d less = each_from (max k (loss_of x)) xs i d (omega arith)

-- the greatest loss is one of each, and the least that is
pub greatest_loss-HasLoss : (xs : List Enclosure) → All (λ e. HasLoss e (greatest_loss xs)) xs
greatest_loss-HasLoss xs = λ i d less. HasLoss-more (get_or xs i d) (loss_of (get_or xs i d)) (greatest_loss xs) (each_from 0 xs i d less) (loss_of-HasLoss (get_or xs i d))

pub greatest_loss-least : (xs : List Enclosure) (k : ℕ) → All (λ e. HasLoss e k) xs → greatest_loss xs ≤ k
greatest_loss-least xs k h = max_from 0 xs k (omega arith) (λ i d less. loss_of-least (get_or xs i d) k (h i d less))

pub greatest_loss-push : (xs : List Enclosure) (x : Enclosure) → greatest_loss (xs ++ x ∷ []) ≡ max (greatest_loss xs) (loss_of x)
greatest_loss-push xs x = fold_push (λ k e. max k (loss_of e)) 0 xs x

-- the greater of k and a loss, by the two ways to find it
pub no_greater_loss : (a : Enclosure) (k : ℕ) → HasLoss a k → k ≡ max k (loss_of a)
no_greater_loss a k h = omega (arith, loss_of-least a k h)

pub greater_loss : (a : Enclosure) (k : ℕ) → k * a.hi < (a.hi - a.lo) * 2 ^ 62 → ceil_div ((a.hi - a.lo) * 2 ^ 62) a.hi ≡ max k (loss_of a)
greater_loss a k more =
    elim (cases_eq a.hi 0) [
      | inl z ↦ let none : a.hi - a.lo ≡ 0 = omega arith in absurd (omega (arith, more, none))
      | inr n ↦ rw (loss_of-quotient a (omega arith)) (above ((a.hi - a.lo) * 2 ^ 62) a.hi k (omega arith) more)
    ]
  where
    above : (n d k : ℕ) → 0 < d → k * d < n → ceil_div n d ≡ max k (ceil_div n d)
    above n d k some less =
        elim (cases_eq (max k (ceil_div n d)) (ceil_div n d)) [
          | inl e ↦ omega arith
          | inr ne ↦ let le : ceil_div n d ≤ k = omega arith in absurd (omega (arith, ceil_above n d some, mul-le-mul_right d le))
        ]
