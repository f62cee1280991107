-- Rounded sums: what those from the youngest cell down lose and enclose, and those from the oldest up.
use Rattle.std.proofs.Common.{◌≡◌, ℕ, zero, suc, ◌+◌, ◌-◌, ◌*◌, ◌<◌, ◌≤◌, cond, leb, arith, refl, subst}
use Rattle.std.proofs.lemmas.Bool.{cond-false, lt-leb}
use Rattle.cg_enc.specs.Enclosure.{Enclosure, Encloses}
use Rattle.cg_enc.specs.Rounding.{plus}
use Rattle.cg_enc.proofs.WholeNumbers.{zero-encloses}
use Rattle.cg_table.specs.Sums.{sum_of}
use Rattle.cg_table.proofs.SumLemmas.{sum_of-encloses, plus_encloses}
use Rattle.cg_table.proofs.WithinLemmas.{IsWithin, within_more, zero-within, plus-within, sum-within}
use Rattle.cg_meaning.specs.Sums.{sum_below}
use Rattle.cg_meaning.proofs.Sums.{sum_below-zero}
use Rattle.cg_part.specs.Tables.{sum_from}
use Rattle.cg_context.proofs.TotalLemmas.{total-below, total-from}
use Rattle.cg_path.specs.Contexts as exact
use Rattle.cg_path.proofs.Triangles.{sum_on-first}
use Rattle.cg_context.specs.Formulas.{sum_down, sum_on}

-- each addition may lose 3 and moves the exponent by 1 at most
pub down-within : (f : ℕ → Enclosure) (k m c n : ℕ) → ((d : ℕ) → c ≤ d → d < c + n → IsWithin (f d) k m) → IsWithin (sum_down f c n) (k + 3 * n) (m + n)
down-within f k m c zero h = zero-within (k + 3 * 0) (m + 0)
down-within f k m c (suc n) h =
    within_more (sum_down f c (suc n)) (k + 3 * n + 3) (m + n + 1) (k + 3 * suc n) (m + suc n) (omega arith) (omega arith)
    (plus-within (sum_down f (suc c) n) (f c) (k + 3 * n) (m + n)
    (down-within f k m (suc c) n (λ d l less. h d (omega arith) (omega arith)))
    (within_more (f c) k m (k + 3 * n) (m + n) (omega arith) (omega arith) (h c (omega arith) (omega arith))))

-- what the sum up to the youngest cell loses
pub on-within : (cells c : ℕ) (f : ℕ → Enclosure) (k m : ℕ) → ((d : ℕ) → c ≤ d → d < cells → IsWithin (f d) k m) → IsWithin (sum_on cells c f) (k + 3 * cells) (m + cells)
on-within cells c f k m h =
    within_more (sum_on cells c f) (k + 3 * (cells - c)) (m + (cells - c)) (k + 3 * cells) (m + cells) (omega arith) (omega arith)
    (down-within f k m c (cells - c) (λ d l less. h d l (omega arith)))

-- nothing behind the youngest cell
on-none : (cells c : ℕ) (x : ℕ → ℕ) → cells ≤ c → exact.sum_on cells c x ≡ 0
on-none cells c x h = sum_below-zero cells (λ d. cond (leb c d) (x d) 0) (λ d l. cond-false (leb c d) (x d) 0 (lt-leb c d (omega arith)))

-- it encloses the exact sum
pub down-encloses : (f : ℕ → Enclosure) (x : ℕ → ℕ) (d k m cells c n : ℕ) → 0 < d → n ≡ cells - c →
    ((i : ℕ) → c ≤ i → i < cells → IsWithin (f i) k m) → ((i : ℕ) → c ≤ i → i < cells → Encloses (f i) (x i) d) →
    Encloses (sum_down f c n) (exact.sum_on cells c x) d
down-encloses f x d k m cells c zero some size within h = zero-encloses (exact.sum_on cells c x) d (on-none cells c x (omega arith))
down-encloses f x d k m cells c (suc n) some size within h =
    let sum : exact.sum_on cells (suc c) x + x c ≡ exact.sum_on cells c x = omega (arith, sum_on-first cells c x (omega arith)) in
    subst (λ (y : ℕ). Encloses (plus (sum_down f (suc c) n) (f c)) y d) sum
    (plus_encloses (sum_down f (suc c) n) (f c)
    (down-within f k m (suc c) n (λ i l less. within i (omega arith) (omega arith))).valid (within c (omega arith) (omega arith)).valid
    (exact.sum_on cells (suc c) x) (x c) d some
    (down-encloses f x d k m cells (suc c) n some (omega arith) (λ i l less. within i (omega arith) less) (λ i l less. h i (omega arith) less))
    (h c (omega arith) (omega arith)))

-- what the sum up to the youngest cell encloses
pub on-encloses : (cells c : ℕ) (f : ℕ → Enclosure) (x : ℕ → ℕ) (d k m : ℕ) → 0 < d →
    ((i : ℕ) → c ≤ i → i < cells → IsWithin (f i) k m) → ((i : ℕ) → c ≤ i → i < cells → Encloses (f i) (x i) d) →
    Encloses (sum_on cells c f) (exact.sum_on cells c x) d
on-encloses cells c f x d k m some within h = down-encloses f x d k m cells c (cells - c) some refl within h

-- sums from the oldest cell up to one
pub up-within : (f : ℕ → Enclosure) (k m b cells : ℕ) → b < cells → ((i : ℕ) → i ≤ b → IsWithin (f i) k m) →
    IsWithin (sum_of f 0 (b + 1)) (k + 3 * cells) (m + cells)
up-within f k m b cells less h =
    within_more (sum_of f 0 (b + 1)) (k + 3 * (b + 1)) (m + (b + 1)) (k + 3 * cells) (m + cells) (omega arith) (omega arith)
    (sum-within f k m 0 (b + 1) (λ i small. h (0 + i) (omega arith)))

-- what they enclose
pub up-encloses : (f : ℕ → Enclosure) (x : ℕ → ℕ) (d k m b : ℕ) → 0 < d → ((i : ℕ) → i ≤ b → IsWithin (f i) k m) →
    ((i : ℕ) → i ≤ b → Encloses (f i) (x i) d) → Encloses (sum_of f 0 (b + 1)) (sum_from 0 b x) d
up-encloses f x d k m b some within h =
    subst (λ (y : ℕ). Encloses (sum_of f 0 (b + 1)) y d) (total-from x 0 b (b + 1) (omega arith) (omega arith))
    (sum_of-encloses f x d 0 (b + 1) some (λ i small. (within (0 + i) (omega arith)).valid) (λ i small. h (0 + i) (omega arith)))

-- and up to the cell before
pub before-within : (f : ℕ → Enclosure) (k m b cells : ℕ) → b < cells → ((i : ℕ) → i < b → IsWithin (f i) k m) →
    IsWithin (sum_of f 0 b) (k + 3 * cells) (m + cells)
before-within f k m b cells less h =
    within_more (sum_of f 0 b) (k + 3 * b) (m + b) (k + 3 * cells) (m + cells) (omega arith) (omega arith)
    (sum-within f k m 0 b (λ i small. h (0 + i) (omega arith)))

-- what those enclose
pub before-encloses : (f : ℕ → Enclosure) (x : ℕ → ℕ) (d k m b : ℕ) → 0 < d → ((i : ℕ) → i < b → IsWithin (f i) k m) →
    ((i : ℕ) → i < b → Encloses (f i) (x i) d) → Encloses (sum_of f 0 b) (sum_below b x) d
before-encloses f x d k m b some within h =
    subst (λ (y : ℕ). Encloses (sum_of f 0 b) y d) (total-below x b)
    (sum_of-encloses f x d 0 b some (λ i small. (within (0 + i) (omega arith)).valid) (λ i small. h (0 + i) (omega arith)))
