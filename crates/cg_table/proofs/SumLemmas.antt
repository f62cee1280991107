-- What rounded sums enclose and lose.
use Rattle.std.proofs.Common.{◌≡◌, ℕ, zero, suc, ◌+◌, ◌*◌, ◌^◌, ◌<◌, ◌≤◌, inl, inr, arith, refl, subst}
use Rattle.std.proofs.Math.Nat.{le_of_mul-le-mul_right}
use Rattle.std.proofs.lemmas.Bool.{cases_eq}
use borrow.Author.Differences.{up, down}
use Rattle.cg_enc.specs.Enclosure.{Enclosure, IsEnclosure, IsExponent, IsZero, Encloses, HasLoss}
use Rattle.cg_enc.specs.Rounding.{plus}
use Rattle.cg_enc.proofs.Sums.{IsSum, plus-IsSum}
use Rattle.cg_enc.proofs.WholeNumbers.{zero-IsEnclosure, zero-encloses}
use Rattle.cg_table.specs.Sums.{sum_of, total_of}
use Rattle.cg_table.proofs.LossLemmas.{HasLoss-more}
use Rattle.cg_table.proofs.ReachLemmas.{IsExponent-more}

reduced_below : (l p d n q m : ℕ) → 0 < m → l * p * (d * m) ≤ (n * m) * q → l * p * d ≤ n * q
reduced_below l p d n q m some h = let x : (l * p * d) * m ≤ (n * q) * m = omega (arith, h) in le_of_mul-le-mul_right x some

reduced_above : (l p d n q m : ℕ) → 0 < m → (n * m) * q ≤ l * p * (d * m) → n * q ≤ l * p * d
reduced_above l p d n q m some h = let x : (n * q) * m ≤ (l * p * d) * m = omega (arith, h) in le_of_mul-le-mul_right x some

-- n m / d m is n / d
pub encloses-reduced : (a : Enclosure) (n d m : ℕ) → 0 < m → Encloses a (n * m) (d * m) → Encloses a n d
encloses-reduced a n d m some h = record {
  below = reduced_below a.lo (2 ^ up a.exp) d n (2 ^ down a.exp) m some h.below;
  above = reduced_above a.hi (2 ^ up a.exp) d n (2 ^ down a.exp) m some h.above;
}

-- a sum of two fractions of one denominator
pub plus_encloses : (a b : Enclosure) → IsEnclosure a → IsEnclosure b → (n n' d : ℕ) → 0 < d → Encloses a n d → Encloses b n' d → Encloses (plus a b) (n + n') d
plus_encloses a b va vb n n' d some ha hb =
    let both : n * d + n' * d ≡ (n + n') * d = omega arith in
    encloses-reduced (plus a b) (n + n') d d some (subst (λ (x : ℕ). Encloses (plus a b) x (d * d)) both ((plus-IsSum a b va vb).encloses n d n' d ha hb))

pub sum_of-IsEnclosure : (f : ℕ → Enclosure) (a n : ℕ) → ((i : ℕ) → i < n → IsEnclosure (f (a + i))) → IsEnclosure (sum_of f a n)
sum_of-IsEnclosure f a zero v = zero-IsEnclosure
sum_of-IsEnclosure f a (suc n) v = (plus-IsSum (sum_of f a n) (f (a + n)) (sum_of-IsEnclosure f a n (λ i less. v i (omega arith))) (v n (omega arith))).valid

-- the last term joins the sum of those before it
last : (f : ℕ → Enclosure) (a n : ℕ) → ((i : ℕ) → i < suc n → IsEnclosure (f (a + i))) → IsSum (sum_of f a n) (f (a + n)) (sum_of f a (suc n))
last f a n v = plus-IsSum (sum_of f a n) (f (a + n)) (sum_of-IsEnclosure f a n (λ i less. v i (omega arith))) (v n (omega arith))

-- it encloses the exact sum
pub sum_of-encloses : (f : ℕ → Enclosure) (x : ℕ → ℕ) (d a n : ℕ) → 0 < d → ((i : ℕ) → i < n → IsEnclosure (f (a + i))) → ((i : ℕ) → i < n → Encloses (f (a + i)) (x (a + i)) d) →
    Encloses (sum_of f a n) (total_of x a n) d
sum_of-encloses f x d a zero some v h = zero-encloses 0 d refl
sum_of-encloses f x d a (suc n) some v h =
    plus_encloses (sum_of f a n) (f (a + n)) (sum_of-IsEnclosure f a n (λ i less. v i (omega arith))) (v n (omega arith)) (total_of x a n) (x (a + n)) d some
    (sum_of-encloses f x d a n some (λ i less. v i (omega arith)) (λ i less. h i (omega arith))) (h n (omega arith))

-- each addition may lose 3
pub sum_of-HasLoss : (f : ℕ → Enclosure) (k a n : ℕ) → ((i : ℕ) → i < n → IsEnclosure (f (a + i))) → ((i : ℕ) → i < n → HasLoss (f (a + i)) k) → HasLoss (sum_of f a n) (k + 3 * n)
sum_of-HasLoss f k a zero v h = omega arith
sum_of-HasLoss f k a (suc n) v h =
    let e : k + 3 * n + 3 ≡ k + 3 * suc n = omega arith in
    subst (HasLoss (sum_of f a (suc n))) e
    ((last f a n v).loss (k + 3 * n) (sum_of-HasLoss f k a n (λ i less. v i (omega arith)) (λ i less. h i (omega arith))) (HasLoss-more (f (a + n)) k (k + 3 * n) (omega arith) (h n (omega arith))))

-- and moves the exponent by 1 at most
pub sum_of-IsExponent : (f : ℕ → Enclosure) (m a n : ℕ) → ((i : ℕ) → i < n → IsEnclosure (f (a + i))) → ((i : ℕ) → i < n → IsExponent m (f (a + i)).exp) → IsExponent (m + n) (sum_of f a n).exp
sum_of-IsExponent f m a zero v h = (omega arith, omega arith)
sum_of-IsExponent f m a (suc n) v h =
    let s = (last f a n v).exponent (m + n) (sum_of-IsExponent f m a n (λ i less. v i (omega arith)) (λ i less. h i (omega arith))) (IsExponent-more (f (a + n)).exp m (m + n) (omega arith) (h n (omega arith))) in
    IsExponent-more (sum_of f a (suc n)).exp (m + n + 1) (m + suc n) (omega arith) s

-- a sum is zero exactly where all terms are
pub sum_of-IsZero : (f : ℕ → Enclosure) (a n : ℕ) → ((i : ℕ) → i < n → IsEnclosure (f (a + i))) → ((i : ℕ) → i < n → IsZero (f (a + i))) → IsZero (sum_of f a n)
sum_of-IsZero f a zero v h = refl
sum_of-IsZero f a (suc n) v h = (last f a n v).zero.1 (sum_of-IsZero f a n (λ i less. v i (omega arith)) (λ i less. h i (omega arith)), h n (omega arith))

pub IsZero-terms : (f : ℕ → Enclosure) (a n : ℕ) → ((i : ℕ) → i < n → IsEnclosure (f (a + i))) → IsZero (sum_of f a n) → (i : ℕ) → i < n → IsZero (f (a + i))
IsZero-terms f a zero v z i less = absurd (omega arith)
IsZero-terms f a (suc n) v z i less =
    let both = (last f a n v).zero.0 z in
    elim (cases_eq i n) [
      | inl e ↦ rw e both.1
      | inr ne ↦ IsZero-terms f a n (λ i less. v i (omega arith)) both.0 i (omega arith)
    ]
