-- Sums as they grow by a term, terms that are zero, and how far products of entries reach.
use Rattle.std.proofs.Common.{◌≡◌, ℕ, zero, suc, ◌+◌, ◌-◌, ◌*◌, ◌^◌, ◌<◌, ◌≤◌, inl, inr, arith, refl, sym, ap, ap₂, ◌∙◌, zero-add}
use Rattle.std.proofs.lemmas.Bool.{cases_eq}
use Rattle.cg_enc.specs.Enclosure.{Enclosure, exact_zero, IsEnclosure, IsExponent}
use Rattle.cg_enc.specs.Rounding.{plus, times}
use Rattle.cg_enc.proofs.Products.{times-zero_left}
use Rattle.cg_enc.proofs.Sums.{plus-zero_left, plus-zero_right}
use Rattle.cg_table.specs.Sums.{sum_of}
use Rattle.cg_table.specs.Table.{Table, IsTable, start, entry, table_loss, table_reach}
use Rattle.cg_table.proofs.FormulaLemmas.{AllWithin}
use Rattle.cg_table.proofs.LiveLemmas.{exactly_zero}
use Rattle.cg_table.proofs.PlaceLemmas.{start_twice, start_rises}
use Rattle.cg_table.proofs.ReachLemmas.{IsExponent-more}
use Rattle.cg_table.proofs.WithinLemmas.{IsWithin, times-within, entry-within}
use Rattle.cg_context.specs.Formulas.{sum_down, sum_on}

-- all entries of a table
pub entries-within : (t : Table) → IsTable t → AllWithin (entry t) (table_loss t) (table_reach t * 2 ^ 31)
entries-within t h a b = entry-within t a b h

-- from one row on all entries are zero
abbrev pub AreDead : Table → ℕ → Type 0
AreDead t live = (a b : ℕ) → live ≤ a → a ≤ b → b < t.cells → entry t a b ≡ exact_zero

-- a product of two entries
pub product-within : (s t : Table) (a b c d : ℕ) → IsTable s → IsTable t →
    IsWithin (times (entry s a b) (entry t c d)) (table_loss s + table_loss t + 3) (table_reach s * 2 ^ 31 + table_reach t * 2 ^ 31 + 63)
product-within s t a b c d h h' =
    times-within (entry s a b) (entry t c d) (table_loss s) (table_reach s * 2 ^ 31) (table_loss t) (table_reach t * 2 ^ 31) (entry-within s a b h) (entry-within t c d h')

-- what lies within few exponents may be added to and multiplied
pub within-near : (e made : Enclosure) (k m n : ℕ) → IsWithin made k m → m ≤ n → e ≡ made → IsExponent n e.exp
within-near e made k m n h le is = rw is (IsExponent-more made.exp m n le h.near)

-- nothing is added to an enclosure
pub plus-nothing : (s e : Enclosure) → IsEnclosure s → e ≡ exact_zero → plus s e ≡ s
plus-nothing s e v is =
    elim (cases_eq s.hi 0) [
      | inl z ↦ plus-zero_left s e z ∙ is ∙ sym (exactly_zero s v z)
      | inr n ↦ plus-zero_right s e (omega arith) (ap (λ (x : Enclosure). x.hi) is)
    ]

-- a product of nothing
pub times-nothing : (a b : Enclosure) → a ≡ exact_zero → times a b ≡ exact_zero
times-nothing a b is = times-zero_left a b (ap (λ (x : Enclosure). x.hi) is)

-- from the youngest cell down: one more term
pub sum_on-next : (cells c : ℕ) (f : ℕ → Enclosure) → c < cells → sum_on cells c f ≡ plus (sum_on cells (suc c) f) (f c)
sum_on-next cells c f less =
    let count : cells - c ≡ suc (cells - suc c) = omega arith in
    ap (sum_down f c) count

-- nothing stands behind the youngest cell
pub sum_on-past : (cells c : ℕ) (f : ℕ → Enclosure) → cells ≤ c → sum_on cells c f ≡ exact_zero
sum_on-past cells c f le =
    let none : cells - c ≡ 0 = omega arith in
    ap (sum_down f c) none

-- a running sum and the term at its next cell
pub sum_on-more : (cells c : ℕ) (f : ℕ → Enclosure) (sum term : Enclosure) → c < cells → sum ≡ sum_on cells (suc c) f → term ≡ f c → plus sum term ≡ sum_on cells c f
sum_on-more cells c f sum term less is is' = ap₂ (λ (x y : Enclosure). plus x y) is is' ∙ sym (sum_on-next cells c f less)

-- terms that are zero add nothing
pub sum_down-zero : (f : ℕ → Enclosure) (c n : ℕ) → ((d : ℕ) → c ≤ d → d < c + n → f d ≡ exact_zero) → sum_down f c n ≡ exact_zero
sum_down-zero f c zero h = refl
sum_down-zero f c (suc n) h =
    ap₂ (λ (x y : Enclosure). plus x y) (sum_down-zero f (suc c) n (λ d le less. h d (omega arith) (omega arith))) (h c (omega arith) (omega arith))
    ∙ plus-zero_left exact_zero exact_zero refl

-- so a sum of zeros is zero
pub sum_on-zero : (cells c : ℕ) (f : ℕ → Enclosure) → ((d : ℕ) → c ≤ d → d < cells → f d ≡ exact_zero) → sum_on cells c f ≡ exact_zero
sum_on-zero cells c f h = sum_down-zero f c (cells - c) (λ d le less. h d le (omega arith))

-- from the oldest cell up: one more term
pub sum_of-more : (f : ℕ → Enclosure) (i : ℕ) (sum term : Enclosure) → sum ≡ sum_of f 0 i → term ≡ f i → plus sum term ≡ sum_of f 0 (i + 1)
sum_of-more f i sum term is is' =
    let count : i + 1 ≡ suc i = omega arith in
    rw count (ap₂ (λ (x y : Enclosure). plus x y) is (is' ∙ ap f (sym (zero-add i))))

-- and zeros behind a sum
pub sum_of-zeros : (f : ℕ → Enclosure) (n k : ℕ) → ((i : ℕ) → i ≤ n + k → IsEnclosure (sum_of f 0 i)) → ((i : ℕ) → n ≤ i → i < n + k → f i ≡ exact_zero) →
    sum_of f 0 (n + k) ≡ sum_of f 0 n
sum_of-zeros f n zero valid h = ap (sum_of f 0) (let none : n + 0 ≡ n = omega arith in none)
sum_of-zeros f n (suc k) valid h =
    let count : n + suc k ≡ suc (n + k) = omega arith in
    ap (sum_of f 0) count
    ∙ plus-nothing (sum_of f 0 (n + k)) (f (0 + (n + k))) (valid (n + k) (omega arith)) (ap f (zero-add (n + k)) ∙ h (n + k) (omega arith) (omega arith))
    ∙ sum_of-zeros f n k (λ i le. valid i (omega arith)) (λ i le less. h i le (omega arith))

-- a product for each entry of the live rows, at most one for each of all
pub few_ticks : (cells live s s' : ℕ) → live ≤ cells → s' ≤ s + start cells live → 2 * s' ≤ 2 * s + cells * (cells + 1)
few_ticks cells live s s' le h = omega (arith, h, start_rises cells live cells le, start_twice cells cells 0 (omega arith))
