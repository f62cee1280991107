-- How much the results of sums, products and quotients lose, and how far their exponents reach.
use Rattle.std.proofs.Common.{◌≡◌, ℕ, suc, ◌+◌, ◌-◌, ◌*◌, ◌^◌, ◌<◌, ◌≤◌, List, length, pos, ◌+ℤ◌, inl, inr, arith, sym, subst, ap, ◌∙◌}
use Rattle.std.specs.List.{All}
use Rattle.std.specs.Prelude.{slice_index_or}
use Rattle.std.proofs.lemmas.Bool.{cases_lt, cases_eq}
use Rattle.std.proofs.lemmas.List.Elements.{All-get_or}
use Rattle.std.proofs.Math.Nat.{mul-le-mul}
use lib.ListN.{get_or-eq_default}
use Rattle.cg_enc.specs.Enclosure.{Enclosure, exact_zero, IsEnclosure, IsExponent, IsFirm, HasLoss}
use Rattle.cg_enc.specs.Rounding.{of_whole, plus, times}
use Rattle.cg_enc.proofs.Sums.{plus-IsSum}
use Rattle.cg_enc.proofs.Products.{Factors, product_low, product_high, times-full, times-zero_left, times-zero_right, times-IsProduct}
use Rattle.cg_enc.proofs.WholeNumbers.{zero-IsEnclosure, of_whole-zero, of_whole-positive, of_whole_exact, of_whole-exponent, of_whole-is_zero}
use Rattle.cg_enc.proofs.Widening.{norm-IsEnclosure}
use Rattle.cg_table.specs.Losses.{greatest_loss, greatest_reach}
use Rattle.cg_table.specs.Row.{AreEntries}
use Rattle.cg_table.specs.Sums.{sum_of}
use Rattle.cg_table.specs.Table.{Table, IsTable, entry, place, row_entry, table_loss, table_reach}
use Rattle.cg_table.proofs.LossLemmas.{HasLoss-more, greatest_loss-HasLoss}
use Rattle.cg_table.proofs.ReachLemmas.{IsExponent-more, greatest_reach-IsExponent}
use Rattle.cg_table.proofs.SumLemmas.{sum_of-IsEnclosure, sum_of-HasLoss, sum_of-IsExponent}

-- an enclosure of loss k whose exponent lies within m
pub record IsWithin (a : Enclosure) (k m : ℕ) : Type 0 where
  pub valid : IsEnclosure a
  pub loss : HasLoss a k
  pub near : IsExponent m a.exp

pub within_more : (a : Enclosure) (k m k' m' : ℕ) → k ≤ k' → m ≤ m' → IsWithin a k m → IsWithin a k' m'
within_more a k m k' m' le le' h = record { valid = h.valid; loss = HasLoss-more a k k' le h.loss; near = IsExponent-more a.exp m m' le' h.near }

pub zero-within : (k m : ℕ) → IsWithin exact_zero k m
zero-within k m = record { valid = zero-IsEnclosure; loss = omega arith; near = (omega arith, omega arith) }

pub plus-within : (a b : Enclosure) (k m : ℕ) → IsWithin a k m → IsWithin b k m → IsWithin (plus a b) (k + 3) (m + 1)
plus-within a b k m h h' =
    let s = plus-IsSum a b h.valid h'.valid in
    record { valid = s.valid; loss = s.loss k h.loss h'.loss; near = s.exponent m h.near h'.near }

times-IsEnclosure : (a b : Enclosure) → IsEnclosure a → IsEnclosure b → IsEnclosure (times a b)
times-IsEnclosure a b va vb =
    elim (cases_eq a.hi 0) [
      | inl za ↦ rw (times-zero_left a b za) zero-IsEnclosure
      | inr na ↦ elim (cases_eq b.hi 0) [
        | inl zb ↦ rw (times-zero_right a b zb) zero-IsEnclosure
        | inr nb ↦
            let f : Factors a b = record { left = va; right = vb; left_full = omega arith; right_full = omega arith } in
            let low = product_low a b f in
            let high = product_high a b f in
            rw (times-full a b f.left_full f.right_full) (norm-IsEnclosure (a.lo * b.lo) (a.hi * b.hi) (a.exp +ℤ b.exp) (mul-le-mul va.ordered vb.ordered) (omega (arith, low)) (omega (arith, high)))
      ]
    ]

pub times-within : (a b : Enclosure) (k m k' m' : ℕ) → IsWithin a k m → IsWithin b k' m' → IsWithin (times a b) (k + k' + 3) (m + m' + 63)
times-within a b k m k' m' h h' =
    let p = times-IsProduct a b h.valid h'.valid in
    record { valid = times-IsEnclosure a b h.valid h'.valid; loss = p.loss k k' h.loss h'.loss; near = p.exponent m m' h.near h'.near }

pub sum-within : (f : ℕ → Enclosure) (k m a n : ℕ) → ((i : ℕ) → i < n → IsWithin (f (a + i)) k m) → IsWithin (sum_of f a n) (k + 3 * n) (m + n)
sum-within f k m a n h = record {
  valid = sum_of-IsEnclosure f a n (λ i less. (h i less).valid);
  loss = sum_of-HasLoss f k a n (λ i less. (h i less).valid) (λ i less. (h i less).loss);
  near = sum_of-IsExponent f m a n (λ i less. (h i less).valid) (λ i less. (h i less).near);
}

-- what holds of zero and of each element holds at any place
All-anywhere : (P : Enclosure → Type 0) (xs : List Enclosure) (i : ℕ) → P exact_zero → All P xs → P (slice_index_or xs i exact_zero)
All-anywhere P xs i h all =
    elim (cases_lt i (length xs)) [
      | inl inside ↦ All-get_or P xs i exact_zero inside all
      | inr past ↦ subst P (sym (get_or-eq_default xs exact_zero past)) h
    ]

at_place : (xs : List Enclosure) (i : ℕ) → AreEntries xs → IsWithin (slice_index_or xs i exact_zero) (greatest_loss xs) (greatest_reach xs * 2 ^ 31)
at_place xs i h = record {
  valid = All-anywhere IsEnclosure xs i zero-IsEnclosure h.valid;
  loss = All-anywhere (λ e. HasLoss e (greatest_loss xs)) xs i (omega arith) (greatest_loss-HasLoss xs);
  near = All-anywhere (λ e. IsExponent (greatest_reach xs * 2 ^ 31) e.exp) xs i (omega arith, omega arith) (greatest_reach-IsExponent xs);
}

pub entry-within : (t : Table) (a b : ℕ) → IsTable t → IsWithin (entry t a b) (table_loss t) (table_reach t * 2 ^ 31)
entry-within t a b h = at_place t.entries (place t.cells a b) h.entries

pub row_entry-within : (w : List Enclosure) (b : ℕ) → AreEntries w → IsWithin (row_entry w b) (greatest_loss w) (greatest_reach w * 2 ^ 31)
row_entry-within w b h = at_place w b h

pub row_entry-near : (w : List Enclosure) (b : ℕ) → AreEntries w → IsWithin (row_entry w b) (greatest_loss w) (2 ^ 60)
row_entry-near w b h = record {
  valid = (at_place w b h).valid;
  loss = (at_place w b h).loss;
  near = All-anywhere (λ e. IsExponent (2 ^ 60) e.exp) w b (omega arith, omega arith) h.near;
}

-- the whole number s, exact where it is small
pub whole-within : (s : ℕ) → s < 2 ^ 63 → IsWithin (of_whole s) 0 66
whole-within s small = record { valid = whole-IsEnclosure s small; loss = of_whole_exact s small; near = of_whole-exponent s (omega arith) }
  where
    whole-IsEnclosure : (s : ℕ) → s < 2 ^ 63 → IsEnclosure (of_whole s)
    whole-IsEnclosure s small =
        elim (cases_eq s 0) [
          | inl z ↦ rw (of_whole-zero s z) zero-IsEnclosure
          | inr n ↦ let some : 0 < s = omega arith in rw (of_whole-positive s some) (norm-IsEnclosure s s (pos 0) (omega arith) some (omega arith))
        ]

-- it is firm where it isn't zero
pub whole-IsFirm : (s : ℕ) → 0 < s → s < 2 ^ 63 → IsFirm (of_whole s)
whole-IsFirm s some small =
    elim (cases_eq (of_whole s).hi 0) [
      | inl z ↦ let none = (of_whole-is_zero s (omega arith)).0 z in absurd (omega (arith, none, some))
      | inr n ↦ firm (of_whole s).lo (of_whole s).hi (omega arith) (of_whole_exact s small)
    ]
  where
    firm : (lo hi : ℕ) → 0 < hi → (hi - lo) * 2 ^ 62 ≤ 0 * hi → 1 ≤ lo
    firm lo hi full none = omega (arith, none)

-- a running sum, and one more term
pub sum_of-more : (f : ℕ → Enclosure) (a b : ℕ) (sum next : Enclosure) → a ≤ b → sum ≡ sum_of f a (b - a) → next ≡ f b → plus sum next ≡ sum_of f a (b + 1 - a)
sum_of-more f a b sum next le e e' =
    let last : b + 1 - a ≡ suc (b - a) = omega arith in
    let at : a + (b - a) ≡ b = omega arith in
    rw (last, e, e') (ap (λ (x : ℕ). plus (sum_of f a (b - a)) (f x)) (sym at))

-- it may be added to
pub sum-near : (t : Table) (a from n : ℕ) (sum : Enclosure) → IsTable t → table_reach t < 2 ^ 20 → n ≤ t.cells → sum ≡ sum_of (entry t a) from n → IsExponent (2 ^ 60) sum.exp
sum-near t a from n sum h reach few e =
    rw e (IsExponent-more (sum_of (entry t a) from n).exp (table_reach t * 2 ^ 31 + n) (2 ^ 60) (omega (arith, h.few))
    (sum-within (entry t a) (table_loss t) (table_reach t * 2 ^ 31) from n (λ i less. entry-within t a (from + i) h)).near)

-- a running sum that has come to b
pub cumulated_at : (t : ℕ → ℕ → Enclosure) (a b : ℕ) (sum : Enclosure) → a ≤ b → sum ≡ sum_of (t a) a (b + 1 - a) → sum ≡ sum_of (t a) a (b - a + 1)
cumulated_at t a b sum le e = let same : b + 1 - a ≡ b - a + 1 = omega arith in e ∙ ap (sum_of (t a) a) same

-- products that may be added to: of a running sum and an entry, and of two entries
pub sum_entry-near : (s t : Table) (a b n : ℕ) (sum e r : Enclosure) → IsTable s → IsTable t → table_reach s + table_reach t < 2 ^ 20 → n ≤ s.cells → sum ≡ sum_of (entry s a) a n → e ≡ entry t a b → r ≡ times sum e →
    IsExponent (2 ^ 60) r.exp
sum_entry-near s t a b n sum e r vs vt reach few is is' product =
    rw (product, is, is') (IsExponent-more (times (sum_of (entry s a) a n) (entry t a b)).exp (table_reach s * 2 ^ 31 + n + table_reach t * 2 ^ 31 + 63) (2 ^ 60) (omega (arith, vs.few))
    (times-within (sum_of (entry s a) a n) (entry t a b) (table_loss s + 3 * n) (table_reach s * 2 ^ 31 + n) (table_loss t) (table_reach t * 2 ^ 31)
    (sum-within (entry s a) (table_loss s) (table_reach s * 2 ^ 31) a n (λ i less. entry-within s a (a + i) vs)) (entry-within t a b vt)).near)

pub entry_sum-near : (s t : Table) (a b n : ℕ) (sum e r : Enclosure) → IsTable s → IsTable t → table_reach s + table_reach t < 2 ^ 20 → n ≤ t.cells → sum ≡ sum_of (entry t a) a n → e ≡ entry s a b → r ≡ times e sum →
    IsExponent (2 ^ 60) r.exp
entry_sum-near s t a b n sum e r vs vt reach few is is' product =
    rw (product, is, is') (IsExponent-more (times (entry s a b) (sum_of (entry t a) a n)).exp (table_reach s * 2 ^ 31 + (table_reach t * 2 ^ 31 + n) + 63) (2 ^ 60) (omega (arith, vt.few))
    (times-within (entry s a b) (sum_of (entry t a) a n) (table_loss s) (table_reach s * 2 ^ 31) (table_loss t + 3 * n) (table_reach t * 2 ^ 31 + n)
    (entry-within s a b vs) (sum-within (entry t a) (table_loss t) (table_reach t * 2 ^ 31) a n (λ i less. entry-within t a (a + i) vt))).near)
