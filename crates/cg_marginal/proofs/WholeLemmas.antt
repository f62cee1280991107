-- The whole of a row: what it encloses and loses, and what the entries are of it.
use Rattle.std.proofs.Common.{◌≡◌, ℕ, zero, suc, ◌+◌, ◌-◌, ◌*◌, ◌^◌, ◌<◌, ◌≤◌, ◌↔◌, List, length, take, ap, sym, ◌∙◌, inl, inr, arith, refl, add-one, zero-add, get_or}
use Rattle.std.specs.List.{All, sum_by}
use Rattle.std.proofs.Math.Nat.{le_of_mul-le-mul_right, mul-le-mul_right, mul-pos}
use Rattle.std.proofs.Math.Seq.{take-length}
use Rattle.std.proofs.lemmas.Bool.{cases_eq}
use Rattle.std.proofs.lemmas.List.{get_or_default}
use Rattle.std.proofs.lemmas.List.Sums.{sum_by_more}
use Rattle.std.proofs.lemmas.Nat.{pow_pos}
use borrow.Author.Differences.{up, down}
use Rattle.cg_enc.specs.Enclosure.{Enclosure, exact_zero, IsEnclosure, IsExponent, IsFirm, IsZero, Encloses, HasLoss}
use Rattle.cg_enc.specs.Rounding.{plus, ppm_below, ppm_above}
use Rattle.cg_enc.proofs.Powers.{pow_join}
use Rattle.cg_enc.proofs.Shares.{Shared, ppm-encloses}
use Rattle.cg_table.specs.Losses.{greatest_loss, greatest_reach}
use Rattle.cg_table.specs.Sums.{sum_of, total_of}
use Rattle.cg_table.proofs.LossLemmas.{greatest_loss-HasLoss}
use Rattle.cg_table.proofs.ReachLemmas.{greatest_reach-IsExponent, IsExponent-more}
use Rattle.cg_table.proofs.SumLemmas.{sum_of-IsEnclosure, sum_of-encloses, sum_of-HasLoss, sum_of-IsExponent, sum_of-IsZero, IsZero-terms}
use Rattle.cg_table.specs.Table.{row_entry, EnclosesRow}
use Rattle.cg_marginal.specs.Finished.{whole_of}

-- one more entry
pub whole_more : (row : List Enclosure) (i : ℕ) → sum_of (row_entry row) 0 (i + 1) ≡ plus (sum_of (row_entry row) 0 i) (row_entry row i)
whole_more row i = rw (add-one i) (ap (λ (x : ℕ). plus (sum_of (row_entry row) 0 i) (row_entry row x)) (zero-add i))

pub part-IsEnclosure : (row : List Enclosure) (i : ℕ) → All IsEnclosure row → i ≤ length row → IsEnclosure (sum_of (row_entry row) 0 i)
part-IsEnclosure row i v le = sum_of-IsEnclosure (row_entry row) 0 i (λ j less. v (0 + j) exact_zero (omega arith))

pub part-IsExponent : (row : List Enclosure) (i : ℕ) → All IsEnclosure row → i ≤ length row → length row ≤ 512 → greatest_reach row < 2 ^ 20 → IsExponent (2 ^ 60) (sum_of (row_entry row) 0 i).exp
part-IsExponent row i v le few reach =
    let near : IsExponent (greatest_reach row * 2 ^ 31 + i) (sum_of (row_entry row) 0 i).exp =
    sum_of-IsExponent (row_entry row) (greatest_reach row * 2 ^ 31) 0 i (λ j less. v (0 + j) exact_zero (omega arith)) (λ j less. greatest_reach-IsExponent row (0 + j) exact_zero (omega arith)) in
    IsExponent-more (sum_of (row_entry row) 0 i).exp (greatest_reach row * 2 ^ 31 + i) (2 ^ 60) (omega arith) near

pub whole-HasLoss : (row : List Enclosure) → All IsEnclosure row → HasLoss (whole_of row) (greatest_loss row + 3 * length row)
whole-HasLoss row v = sum_of-HasLoss (row_entry row) (greatest_loss row) 0 (length row) (λ j less. v (0 + j) exact_zero (omega arith)) (λ j less. greatest_loss-HasLoss row (0 + j) exact_zero (omega arith))

-- an enclosure that isn't zero and loses less than all is firm
firm_of_loss : (a : Enclosure) (k : ℕ) → k < 2 ^ 62 → HasLoss a k → 0 < a.hi → IsFirm a
firm_of_loss a k small loss some =
    elim (cases_eq a.lo 0) [
      | inr firm ↦ omega arith
      | inl none ↦ absurd (omega (arith, loss, none, mul-le-mul_right a.hi small))
    ]

pub whole-IsFirm : (row : List Enclosure) → All IsEnclosure row → length row ≤ 512 → greatest_loss row < 2 ^ 41 → 0 < (whole_of row).hi → IsFirm (whole_of row)
whole-IsFirm row v few loss some = firm_of_loss (whole_of row) (greatest_loss row + 3 * length row) (omega arith) (whole-HasLoss row v) some

-- the whole is zero exactly where all entries are
pub whole-IsZero : (row : List Enclosure) → All IsEnclosure row → IsZero (whole_of row) ↔ All IsZero row
whole-IsZero row v = (
  λ z i d less.
      let here : IsZero (row_entry row (0 + i)) = IsZero-terms (row_entry row) 0 (length row) (λ j h. v (0 + j) exact_zero (omega arith)) z i less in
      rw (get_or_default row i d exact_zero less, ← zero-add i) here,
  λ zeros. sum_of-IsZero (row_entry row) 0 (length row) (λ j less. v (0 + j) exact_zero (omega arith)) (λ j less. zeros (0 + j) exact_zero (omega arith)),
)

-- a term is at most the sum of all
term_below : (x : ℕ → ℕ) (n i : ℕ) → i < n → x i ≤ total_of x 0 n
term_below x zero i less = absurd (omega arith)
term_below x (suc n) i less =
    elim (cases_eq i n) [
      | inl e ↦ omega (arith, ap x (e ∙ sym (zero-add n)))
      | inr ne ↦ omega (arith, term_below x n i (omega arith))
    ]

-- sums of bounded terms
total_bound : (x u : ℕ → ℕ) (w v n : ℕ) → ((i : ℕ) → i < n → w * x i ≤ u i * v) → w * total_of x 0 n ≤ total_of u 0 n * v
total_bound x u w v zero h = omega arith
total_bound x u w v (suc n) h = omega (arith, h (0 + n) (omega arith), total_bound x u w v n (λ i less. h i (omega arith)))

-- std's sum over a list is the sum over its places
sum_by-take : {X : Type 0} (f : X → ℕ) (xs : List X) (d : X) (n : ℕ) → n ≤ length xs → sum_by f (take n xs) ≡ total_of (λ i. f (get_or xs i d)) 0 n
sum_by-take f xs d zero le = refl
sum_by-take f xs d (suc n) le = rw (← add-one n, sum_by_more f xs n d (omega arith), sum_by-take f xs d n (omega arith), zero-add n) refl

pub sum_by-total : {X : Type 0} (f : X → ℕ) (xs : List X) (d : X) → sum_by f xs ≡ total_of (λ i. f (get_or xs i d)) 0 (length xs)
sum_by-total f xs d = ap (sum_by f) (sym (take-length xs)) ∙ sum_by-take f xs d (length xs) (omega arith)

-- both ends of a share, the denominator d cancelled
cancelled : (b x t d u : ℕ) → 0 < d → b * t * d ≤ 1000000 * x * d → 1000000 * x * d ≤ u * t * d → (b * t ≤ 1000000 * x) × (1000000 * x ≤ u * t)
cancelled b x t d u some below above = (le_of_mul-le-mul_right below some, le_of_mul-le-mul_right above some)

-- what an entry is of the whole, for all numbers that the row encloses
pub entry-parts : (row : List Enclosure) (x : ℕ → ℕ) (d cell : ℕ) → All IsEnclosure row → IsFirm (whole_of row) → 0 < d → EnclosesRow row x d → cell < length row →
    (ppm_below (row_entry row cell) (whole_of row) * total_of x 0 (length row) ≤ 1000000 * x cell) × (1000000 * x cell ≤ ppm_above (row_entry row cell) (whole_of row) * total_of x 0 (length row))
entry-parts row x d cell v firm some h less =
    let s : Shared (row_entry row cell) (whole_of row) = record { part = v cell exact_zero less; whole = part-IsEnclosure row (length row) v (omega arith); firm = firm } in
    let whole = sum_of-encloses (row_entry row) x d 0 (length row) some (λ j l. v (0 + j) exact_zero (omega arith)) (λ j l. h.at (0 + j) (omega arith)) in
    let both = ppm-encloses (row_entry row cell) (whole_of row) s (x cell) d (total_of x 0 (length row)) d (h.at cell less) whole (mul-le-mul_right d (term_below x (length row) cell less)) in
    cancelled (ppm_below (row_entry row cell) (whole_of row)) (x cell) (total_of x 0 (length row)) d (ppm_above (row_entry row cell) (whole_of row)) some both.0 both.1

-- an enclosure encloses its own upper end
top : ℕ → Enclosure → ℕ
top m a = a.hi * 2 ^ up a.exp * 2 ^ (m - down a.exp)

top_below : (l h p r q t : ℕ) → l ≤ h → r * q ≡ t → l * p * t ≤ h * p * r * q
top_below l h p r q t le e = omega (arith, mul-le-mul_right (p * t) le, ap (λ (x : ℕ). h * p * x) e)

top_above : (h p r q t : ℕ) → r * q ≡ t → h * p * r * q ≤ h * p * t
top_above h p r q t e = omega (arith, ap (λ (x : ℕ). h * p * x) e)

top_encloses : (a : Enclosure) (m : ℕ) → IsEnclosure a → down a.exp ≤ m → Encloses a (top m a) (2 ^ m)
unfolding top
top_encloses a m v near = record {
  below = top_below a.lo a.hi (2 ^ up a.exp) (2 ^ (m - down a.exp)) (2 ^ down a.exp) (2 ^ m) v.ordered (pow_join (m - down a.exp) (down a.exp) m (omega arith));
  above = top_above a.hi (2 ^ up a.exp) (2 ^ (m - down a.exp)) (2 ^ down a.exp) (2 ^ m) (pow_join (m - down a.exp) (down a.exp) m (omega arith));
}

-- something is enclosed where the whole is firm, so its parts are of a whole above 0
total-positive : (z : Enclosure) (t d : ℕ) → IsFirm z → 0 < d → Encloses z t d → 0 < t
total-positive z t d firm some h =
    elim (cases_eq t 0) [
      | inr ne ↦ omega arith
      | inl e ↦ absurd (omega (arith, h.below, mul-pos (mul-pos firm (pow_pos (up z.exp))) some, ap (λ (x : ℕ). x * 2 ^ down z.exp) e))
    ]

-- the upper ends of all parts reach the whole
pub upper-reach : (row : List Enclosure) (m : ℕ) → All IsEnclosure row → IsFirm (whole_of row) → ((i : ℕ) → i < length row → down (row_entry row i).exp ≤ m) →
    1000000 ≤ total_of (λ i. ppm_above (row_entry row i) (whole_of row)) 0 (length row)
upper-reach row m v firm near =
    let x : ℕ → ℕ = λ i. top m (row_entry row i) in
    let h : EnclosesRow row x (2 ^ m) = record { at = λ i less. top_encloses (row_entry row i) m (v i exact_zero less) (near i less) } in
    let all = total_bound x (λ i. ppm_above (row_entry row i) (whole_of row)) 1000000 (total_of x 0 (length row)) (length row) (λ i less. (entry-parts row x (2 ^ m) i v firm (pow_pos m) h less).1) in
    let some = total-positive (whole_of row) (total_of x 0 (length row)) (2 ^ m) firm (pow_pos m)
    (sum_of-encloses (row_entry row) x (2 ^ m) 0 (length row) (pow_pos m) (λ j l. v (0 + j) exact_zero (omega arith)) (λ j l. h.at (0 + j) (omega arith))) in
    le_of_mul-le-mul_right all some
