-- What the formulas give in a row of zeros: zeros.
use Rattle.std.proofs.Common.{◌≡◌, ℕ, zero, suc, ◌+◌, ◌-◌, ◌<◌, ◌≤◌, inl, inr, arith, refl, ap, ap₂, ◌∙◌}
use Rattle.std.proofs.lemmas.Bool.{cases_eq, eq-eqb, ne_eqb}
use Rattle.cg_enc.specs.Enclosure.{Enclosure, exact_zero, IsZero}
use Rattle.cg_enc.specs.Rounding.{plus, times}
use Rattle.cg_enc.proofs.Products.{times-zero_left, times-zero_right}
use Rattle.cg_enc.proofs.Sums.{plus-zero_left}
use Rattle.cg_table.specs.Formulas.{cumulated, then_row_entry, then_entry, beside_entry, after_entry, before_entry, span_power, spanned_entry}
use Rattle.cg_table.specs.Sums.{sum_of}
use Rattle.cg_table.specs.Table.{Table, entry}

-- a sum of zeros
pub sum-zero : (f : ℕ → Enclosure) (from n : ℕ) → ((i : ℕ) → i < n → f (from + i) ≡ exact_zero) → sum_of f from n ≡ exact_zero
sum-zero f from zero h = refl
sum-zero f from (suc n) h = ap₂ plus (sum-zero f from n (λ i less. h i (omega arith))) (h n (omega arith)) ∙ plus-zero_left exact_zero exact_zero refl

-- it has an upper end of zero
pub is_zero : (e : Enclosure) → e ≡ exact_zero → IsZero e
is_zero e z = ap (λ (x : Enclosure). x.hi) z

-- the entries of a row are zero
abbrev pub IsDeadRow : Table → ℕ → Type 0
IsDeadRow t a = (b : ℕ) → a ≤ b → b < t.cells → entry t a b ≡ exact_zero

pub row_sum-zero : (t : Table) (a from n : ℕ) → IsDeadRow t a → a ≤ from → from + n ≤ t.cells → sum_of (entry t a) from n ≡ exact_zero
row_sum-zero t a from n dead le fits = sum-zero (entry t a) from n (λ i less. dead (from + i) (omega arith) (omega arith))

-- what the formulas give in a dead row
pub then_row-dead : (p : Table) (w : ℕ → Enclosure) (a b : ℕ) → IsDeadRow p a → a ≤ b → b < p.cells → then_row_entry (entry p) w a b ≡ exact_zero
then_row-dead p w a b dead le less = times-zero_left (cumulated (entry p) a b) (w b) (is_zero (cumulated (entry p) a b) (row_sum-zero p a a (b - a + 1) dead (omega arith) (omega arith)))

pub then-dead : (p t : Table) (a b : ℕ) → IsDeadRow p a → a ≤ b → b < p.cells → then_entry (entry p) (entry t) a b ≡ exact_zero
then-dead p t a b dead le less = sum-zero (λ c. times (entry p a c) (entry t c b)) a (b - a + 1)
    (λ i short. times-zero_left (entry p a (a + i)) (entry t (a + i) b) (is_zero (entry p a (a + i)) (dead (a + i) (omega arith) (omega arith))))

pub beside-dead_left : (s t : Table) (a b : ℕ) → IsDeadRow s a → a ≤ b → b < s.cells → beside_entry (entry s) (entry t) a b ≡ exact_zero
beside-dead_left s t a b dead le less =
    ap₂ plus
    (times-zero_left (sum_of (entry s a) a (b - a)) (entry t a b) (is_zero (sum_of (entry s a) a (b - a)) (row_sum-zero s a a (b - a) dead (omega arith) (omega arith))))
    (times-zero_left (entry s a b) (cumulated (entry t) a b) (is_zero (entry s a b) (dead b le less)))
    ∙ plus-zero_left exact_zero exact_zero refl

pub beside-dead_right : (s t : Table) (a b : ℕ) → IsDeadRow t a → a ≤ b → b < t.cells → beside_entry (entry s) (entry t) a b ≡ exact_zero
beside-dead_right s t a b dead le less =
    ap₂ plus
    (times-zero_right (sum_of (entry s a) a (b - a)) (entry t a b) (is_zero (entry t a b) (dead b le less)))
    (times-zero_right (entry s a b) (cumulated (entry t) a b) (is_zero (cumulated (entry t) a b) (row_sum-zero t a a (b - a + 1) dead (omega arith) (omega arith))))
    ∙ plus-zero_left exact_zero exact_zero refl

pub spanned-dead : (m : Table) (n a b : ℕ) → IsDeadRow m a → a ≤ b → b < m.cells → spanned_entry (entry m) n a b ≡ exact_zero
spanned-dead m n a b dead le less = times-zero_left (cumulated (entry m) a b) (span_power (b - a + 1) n) (is_zero (cumulated (entry m) a b) (row_sum-zero m a a (b - a + 1) dead (omega arith) (omega arith)))

pub after-dead : (t : Table) (a b : ℕ) → IsDeadRow t 0 → a ≤ b → b < t.cells → after_entry (entry t) a b ≡ exact_zero
after-dead t a b dead le less =
    elim (cases_eq a b) [
      | inl e ↦ rw (eq-eqb a b e) (row_sum-zero t 0 0 (a + 1) dead (omega arith) (omega arith))
      | inr n ↦ rw (ne_eqb a b n) (dead b (omega arith) less)
    ]

pub before-dead : (t : Table) (a b : ℕ) → IsDeadRow t a → a ≤ b → b < t.cells → before_entry t.cells (entry t) a b ≡ exact_zero
before-dead t a b dead le less =
    elim (cases_eq a b) [
      | inl e ↦ rw (eq-eqb a b e) (row_sum-zero t a a (t.cells - a) dead (omega arith) (omega arith))
      | inr n ↦ rw (ne_eqb a b n) refl
    ]
