-- What the entries that the formulas give lose, how far they reach, and what they enclose.
use Rattle.std.proofs.Common.{◌≡◌, ℕ, zero, suc, ◌+◌, ◌-◌, ◌*◌, ◌^◌, ◌<◌, ◌≤◌, inl, inr, lit<, arith, refl, sym, ◌∙◌, List, [], ◌∷◌, ◌++◌, map, length, get_or}
use Rattle.std.proofs.Math.Nat.{mul-pos, pow-zero, pow-suc}
use Rattle.std.specs.List.{range_with_len}
use Rattle.std.proofs.lemmas.List.FromFn.{map-range_with_len_more, get_or-map-range_with_len, length-map-range_with_len}
use Rattle.std.proofs.lemmas.Bool.{cases_eq, cases_lt, eq-eqb, ne_eqb, lt-ltb, le-ltb}
use Rattle.cg_enc.specs.Enclosure.{Enclosure, Encloses, IsExponent}
use Rattle.cg_enc.specs.Rounding.{of_whole, times, over}
use Rattle.cg_enc.proofs.Products.{times-IsProduct}
use Rattle.cg_enc.proofs.Quotients.{over-IsQuotient}
use Rattle.cg_enc.proofs.Sums.{encloses-scaled}
use Rattle.cg_enc.proofs.WholeNumbers.{zero-encloses, of_whole_encloses}
use Rattle.cg_table.specs.Sums.{sum_of, total_of}
use Rattle.cg_table.specs.Formulas.{identity_entry, cumulated, then_row_entry, then_entry, beside_entry, after_entry, before_entry, span_power, spanned_entry}
use Rattle.cg_table.specs.Live.{identity_rows_entry}
use Rattle.cg_table.specs.Exact.{exact_identity, exact_cumulated, exact_then_row, exact_then, exact_beside, exact_after, exact_before, exact_spanned}
use Rattle.cg_table.proofs.ReachLemmas.{IsExponent-more}
use Rattle.cg_table.proofs.SumLemmas.{sum_of-encloses, plus_encloses}
use Rattle.cg_table.proofs.WithinLemmas.{IsWithin, within_more, zero-within, plus-within, times-within, sum-within, whole-within, whole-IsFirm}

-- every entry loses k at most and has its exponent within m
abbrev pub AllWithin : (ℕ → ℕ → Enclosure) → ℕ → ℕ → Type 0
AllWithin t k m = (a b : ℕ) → IsWithin (t a b) k m

-- the entries of these cells enclose the fractions of x over d
abbrev pub AllEnclose : ℕ → (ℕ → ℕ → Enclosure) → (ℕ → ℕ → ℕ) → ℕ → Type 0
AllEnclose cells t x d = (a b : ℕ) → a ≤ b → b < cells → Encloses (t a b) (x a b) d

pub identity-within : (a b : ℕ) → IsWithin (identity_entry a b) 0 66
identity-within a b =
    elim (cases_eq a b) [
      | inl e ↦ rw (eq-eqb a b e) (whole-within 1 (lit< tt))
      | inr n ↦ rw (ne_eqb a b n) (zero-within 0 66)
    ]

pub identity-encloses : (a b : ℕ) → Encloses (identity_entry a b) (exact_identity a b) 1
identity-encloses a b =
    elim (cases_eq a b) [
      | inl e ↦ rw (eq-eqb a b e) (of_whole_encloses 1 (lit< tt))
      | inr n ↦ rw (ne_eqb a b n) (zero-encloses 0 1 refl)
    ]

pub identity_rows-within : (live a b : ℕ) → IsWithin (identity_rows_entry live a b) 0 66
identity_rows-within live a b =
    elim (cases_lt a live) [
      | inl less ↦ rw (lt-ltb a live less) (identity-within a b)
      | inr le ↦ rw (le-ltb a live le) (zero-within 0 66)
    ]

-- n entries of a row
pub row_sum-within : (t : ℕ → ℕ → Enclosure) (k m cells a from n : ℕ) → AllWithin t k m → n ≤ cells → IsWithin (sum_of (t a) from n) (k + 3 * cells) (m + cells)
row_sum-within t k m cells a from n h few = within_more (sum_of (t a) from n) (k + 3 * n) (m + n) (k + 3 * cells) (m + cells) (omega arith) (omega arith) (sum-within (t a) k m from n (λ i less. h a (from + i)))

pub row_sum-encloses : (t : ℕ → ℕ → Enclosure) (x : ℕ → ℕ → ℕ) (d k m cells a from n : ℕ) → 0 < d → AllWithin t k m → AllEnclose cells t x d → a ≤ from → from + n ≤ cells → Encloses (sum_of (t a) from n) (total_of (x a) from n) d
row_sum-encloses t x d k m cells a from n some h e le fits = sum_of-encloses (t a) (x a) d from n some (λ i less. (h a (from + i)).valid) (λ i less. e a (from + i) (omega arith) (omega arith))

-- a product of two fractions
pub times_encloses : (e f : Enclosure) (k m k' m' n d n' d' : ℕ) → IsWithin e k m → IsWithin f k' m' → Encloses e n d → Encloses f n' d' → Encloses (times e f) (n * n') (d * d')
times_encloses e f k m k' m' n d n' d' h h' = (times-IsProduct e f h.valid h'.valid).encloses n d n' d'

pub then_row-within : (p : ℕ → ℕ → Enclosure) (w : ℕ → Enclosure) (k m k' m' cells a b : ℕ) → AllWithin p k m → ((b : ℕ) → IsWithin (w b) k' m') → a ≤ b → b < cells →
    IsWithin (then_row_entry p w a b) (k + k' + 3 * cells + 3) (m + m' + cells + 63)
then_row-within p w k m k' m' cells a b h h' le less =
    within_more (then_row_entry p w a b) (k + 3 * cells + k' + 3) (m + cells + m' + 63) (k + k' + 3 * cells + 3) (m + m' + cells + 63) (omega arith) (omega arith)
    (times-within (cumulated p a b) (w b) (k + 3 * cells) (m + cells) k' m' (row_sum-within p k m cells a a (b - a + 1) h (omega arith)) (h' b))

pub then_row-encloses : (p : ℕ → ℕ → Enclosure) (w : ℕ → Enclosure) (x : ℕ → ℕ → ℕ) (y : ℕ → ℕ) (d e k m k' m' cells a b : ℕ) → 0 < d → AllWithin p k m → ((b : ℕ) → IsWithin (w b) k' m') →
    AllEnclose cells p x d → Encloses (w b) (y b) e → a ≤ b → b < cells → Encloses (then_row_entry p w a b) (exact_then_row x y a b) (d * e)
then_row-encloses p w x y d e k m k' m' cells a b some h h' hx hy le less =
    times_encloses (cumulated p a b) (w b) (k + 3 * cells) (m + cells) k' m' (exact_cumulated x a b) d (y b) e (row_sum-within p k m cells a a (b - a + 1) h (omega arith)) (h' b)
    (row_sum-encloses p x d k m cells a a (b - a + 1) some h hx (omega arith) (omega arith)) hy

pub then-within : (p t : ℕ → ℕ → Enclosure) (k m k' m' cells a b : ℕ) → AllWithin p k m → AllWithin t k' m' → a ≤ b → b < cells →
    IsWithin (then_entry p t a b) (k + k' + 3 * cells + 3) (m + m' + cells + 63)
then-within p t k m k' m' cells a b h h' le less =
    within_more (then_entry p t a b) (k + k' + 3 + 3 * (b - a + 1)) (m + m' + 63 + (b - a + 1)) (k + k' + 3 * cells + 3) (m + m' + cells + 63) (omega arith) (omega arith)
    (sum-within (λ c. times (p a c) (t c b)) (k + k' + 3) (m + m' + 63) a (b - a + 1) (λ i small. times-within (p a (a + i)) (t (a + i) b) k m k' m' (h a (a + i)) (h' (a + i) b)))

pub then-encloses : (p t : ℕ → ℕ → Enclosure) (x y : ℕ → ℕ → ℕ) (d e k m k' m' cells a b : ℕ) → 0 < d → 0 < e → AllWithin p k m → AllWithin t k' m' →
    AllEnclose cells p x d → AllEnclose cells t y e → a ≤ b → b < cells → Encloses (then_entry p t a b) (exact_then x y a b) (d * e)
then-encloses p t x y d e k m k' m' cells a b some some' h h' hx hy le less =
    sum_of-encloses (λ c. times (p a c) (t c b)) (λ c. x a c * y c b) (d * e) a (b - a + 1) (mul-pos some some')
    (λ i small. (times-within (p a (a + i)) (t (a + i) b) k m k' m' (h a (a + i)) (h' (a + i) b)).valid)
    (λ i small. times_encloses (p a (a + i)) (t (a + i) b) k m k' m' (x a (a + i)) d (y (a + i) b) e (h a (a + i)) (h' (a + i) b) (hx a (a + i) (omega arith) (omega arith)) (hy (a + i) b (omega arith) less))

pub beside-within : (s t : ℕ → ℕ → Enclosure) (k m k' m' cells a b : ℕ) → AllWithin s k m → AllWithin t k' m' → a ≤ b → b < cells →
    IsWithin (beside_entry s t a b) (k + k' + 3 * cells + 6) (m + m' + cells + 64)
beside-within s t k m k' m' cells a b h h' le less =
    let first = times-within (sum_of (s a) a (b - a)) (t a b) (k + 3 * cells) (m + cells) k' m' (row_sum-within s k m cells a a (b - a) h (omega arith)) (h' a b) in
    let second = times-within (s a b) (cumulated t a b) k m (k' + 3 * cells) (m' + cells) (h a b) (row_sum-within t k' m' cells a a (b - a + 1) h' (omega arith)) in
    within_more (beside_entry s t a b) (k + k' + 3 * cells + 3 + 3) (m + m' + cells + 63 + 1) (k + k' + 3 * cells + 6) (m + m' + cells + 64) (omega arith) (omega arith)
    (plus-within (times (sum_of (s a) a (b - a)) (t a b)) (times (s a b) (cumulated t a b)) (k + k' + 3 * cells + 3) (m + m' + cells + 63)
    (within_more (times (sum_of (s a) a (b - a)) (t a b)) (k + 3 * cells + k' + 3) (m + cells + m' + 63) (k + k' + 3 * cells + 3) (m + m' + cells + 63) (omega arith) (omega arith) first)
    (within_more (times (s a b) (cumulated t a b)) (k + (k' + 3 * cells) + 3) (m + (m' + cells) + 63) (k + k' + 3 * cells + 3) (m + m' + cells + 63) (omega arith) (omega arith) second))

pub beside-encloses : (s t : ℕ → ℕ → Enclosure) (x y : ℕ → ℕ → ℕ) (d e k m k' m' cells a b : ℕ) → 0 < d → 0 < e → AllWithin s k m → AllWithin t k' m' →
    AllEnclose cells s x d → AllEnclose cells t y e → a ≤ b → b < cells → Encloses (beside_entry s t a b) (exact_beside x y a b) (d * e)
beside-encloses s t x y d e k m k' m' cells a b some some' h h' hx hy le less =
    let before = row_sum-within s k m cells a a (b - a) h (omega arith) in
    let reached = row_sum-within t k' m' cells a a (b - a + 1) h' (omega arith) in
    plus_encloses (times (sum_of (s a) a (b - a)) (t a b)) (times (s a b) (cumulated t a b))
    (times-within (sum_of (s a) a (b - a)) (t a b) (k + 3 * cells) (m + cells) k' m' before (h' a b)).valid
    (times-within (s a b) (cumulated t a b) k m (k' + 3 * cells) (m' + cells) (h a b) reached).valid
    (total_of (x a) a (b - a) * y a b) (x a b * exact_cumulated y a b) (d * e) (mul-pos some some')
    (times_encloses (sum_of (s a) a (b - a)) (t a b) (k + 3 * cells) (m + cells) k' m' (total_of (x a) a (b - a)) d (y a b) e before (h' a b)
    (row_sum-encloses s x d k m cells a a (b - a) some h hx (omega arith) (omega arith)) (hy a b le less))
    (times_encloses (s a b) (cumulated t a b) k m (k' + 3 * cells) (m' + cells) (x a b) d (exact_cumulated y a b) e (h a b) reached (hx a b le less)
    (row_sum-encloses t y e k' m' cells a a (b - a + 1) some' h' hy (omega arith) (omega arith)))

pub after-within : (t : ℕ → ℕ → Enclosure) (k m cells a b : ℕ) → AllWithin t k m → a ≤ b → b < cells → IsWithin (after_entry t a b) (k + 3 * cells) (m + cells)
after-within t k m cells a b h le less =
    elim (cases_eq a b) [
      | inl e ↦ rw (eq-eqb a b e) (row_sum-within t k m cells 0 0 (a + 1) h (omega arith))
      | inr n ↦ rw (ne_eqb a b n) (within_more (t 0 b) k m (k + 3 * cells) (m + cells) (omega arith) (omega arith) (h 0 b))
    ]

pub after-encloses : (t : ℕ → ℕ → Enclosure) (x : ℕ → ℕ → ℕ) (d k m cells a b : ℕ) → 0 < d → AllWithin t k m → AllEnclose cells t x d → a ≤ b → b < cells → Encloses (after_entry t a b) (exact_after x a b) d
after-encloses t x d k m cells a b some h hx le less =
    elim (cases_eq a b) [
      | inl e ↦ rw (eq-eqb a b e) (row_sum-encloses t x d k m cells 0 0 (a + 1) some h hx (omega arith) (omega arith))
      | inr n ↦ rw (ne_eqb a b n) (hx 0 b (omega arith) less)
    ]

pub before-within : (t : ℕ → ℕ → Enclosure) (k m cells a b : ℕ) → AllWithin t k m → IsWithin (before_entry cells t a b) (k + 3 * cells) (m + cells)
before-within t k m cells a b h =
    elim (cases_eq a b) [
      | inl e ↦ rw (eq-eqb a b e) (row_sum-within t k m cells a a (cells - a) h (omega arith))
      | inr n ↦ rw (ne_eqb a b n) (zero-within (k + 3 * cells) (m + cells))
    ]

pub before-encloses : (t : ℕ → ℕ → Enclosure) (x : ℕ → ℕ → ℕ) (d k m cells a b : ℕ) → 0 < d → AllWithin t k m → AllEnclose cells t x d → a ≤ b → b < cells → Encloses (before_entry cells t a b) (exact_before cells x a b) d
before-encloses t x d k m cells a b some h hx le less =
    elim (cases_eq a b) [
      | inl e ↦ rw (eq-eqb a b e) (row_sum-encloses t x d k m cells a a (cells - a) some h hx (omega arith) (omega arith))
      | inr n ↦ rw (ne_eqb a b n) (zero-encloses 0 d refl)
    ]

one_over-within : (s : ℕ) → 0 < s → s < 2 ^ 63 → IsWithin (over (of_whole 1) (of_whole s)) 3 195
one_over-within s some small =
    let one = whole-within 1 (lit< tt) in
    let by = whole-within s small in
    let q = over-IsQuotient (of_whole 1) (of_whole s) one.valid by.valid (whole-IsFirm s some small) in
    record { valid = q.valid; loss = q.loss 0 0 one.loss by.loss; near = q.exponent 66 66 one.near by.near }

pub power-within : (s n : ℕ) → 0 < s → s < 2 ^ 63 → IsWithin (span_power s n) (6 * n) (66 + 258 * n)
power-within s zero some small = whole-within 1 (lit< tt)
power-within s (suc n) some small =
    within_more (span_power s (suc n)) (6 * n + 3 + 3) (66 + 258 * n + 195 + 63) (6 * suc n) (66 + 258 * suc n) (omega arith) (omega arith)
    (times-within (span_power s n) (over (of_whole 1) (of_whole s)) (6 * n) (66 + 258 * n) 3 195 (power-within s n some small) (one_over-within s some small))

pub power-encloses : (s n w e : ℕ) → 0 < s → s < 2 ^ 63 → w * s ≡ e → 0 < w → Encloses (span_power s n) (w ^ n) (e ^ n)
power-encloses s zero w e some small is full = rw (pow-zero w, pow-zero e) (of_whole_encloses 1 (lit< tt))
power-encloses s (suc n) w e some small is full =
    let one = whole-within 1 (lit< tt) in
    let by = whole-within s small in
    let share = (over-IsQuotient (of_whole 1) (of_whole s) one.valid by.valid (whole-IsFirm s some small)).encloses 1 1 s 1 (of_whole_encloses 1 (lit< tt)) (of_whole_encloses s (omega arith)) in
    let top : 1 * 1 * w ≡ w = omega arith in
    let bottom : 1 * s * w ≡ e = omega (arith, is) in
    let weight : Encloses (over (of_whole 1) (of_whole s)) w e = rw (top, bottom) at (encloses-scaled (over (of_whole 1) (of_whole s)) (1 * 1) (1 * s) w share) in
    rw (pow-suc w n, pow-suc e n)
    (times_encloses (span_power s n) (over (of_whole 1) (of_whole s)) (6 * n) (66 + 258 * n) 3 195 (w ^ n) (e ^ n) w e (power-within s n some small) (one_over-within s some small) (power-encloses s n w e some small is full) weight)

pub spanned-within : (t : ℕ → ℕ → Enclosure) (k m n cells a b : ℕ) → AllWithin t k m → cells < 2 ^ 33 → a ≤ b → b < cells → IsWithin (spanned_entry t n a b) (k + 3 * cells + 6 * n + 3) (m + cells + 258 * n + 129)
spanned-within t k m n cells a b h few le less =
    within_more (spanned_entry t n a b) (k + 3 * cells + 6 * n + 3) (m + cells + (66 + 258 * n) + 63) (k + 3 * cells + 6 * n + 3) (m + cells + 258 * n + 129) (omega arith) (omega arith)
    (times-within (cumulated t a b) (span_power (b - a + 1) n) (k + 3 * cells) (m + cells) (6 * n) (66 + 258 * n) (row_sum-within t k m cells a a (b - a + 1) h (omega arith)) (power-within (b - a + 1) n (omega arith) (omega arith)))

pub spanned-encloses : (t : ℕ → ℕ → Enclosure) (x : ℕ → ℕ → ℕ) (weight : ℕ → ℕ) (d e k m n cells a b : ℕ) → 0 < d → 0 < e → AllWithin t k m → AllEnclose cells t x d → cells < 2 ^ 33 →
    ((s : ℕ) → 1 ≤ s → s ≤ cells → weight s * s ≡ e) → a ≤ b → b < cells → Encloses (spanned_entry t n a b) (exact_spanned x weight n a b) (d * e ^ n)
spanned-encloses t x weight d e k m n cells a b some some' h hx few parts le less =
    let is : weight (b - a + 1) * (b - a + 1) ≡ e = parts (b - a + 1) (omega arith) (omega arith) in
    times_encloses (cumulated t a b) (span_power (b - a + 1) n) (k + 3 * cells) (m + cells) (6 * n) (66 + 258 * n) (exact_cumulated x a b) d (weight (b - a + 1) ^ n) (e ^ n)
    (row_sum-within t k m cells a a (b - a + 1) h (omega arith)) (power-within (b - a + 1) n (omega arith) (omega arith))
    (row_sum-encloses t x d k m cells a a (b - a + 1) some h hx (omega arith) (omega arith))
    (power-encloses (b - a + 1) n (weight (b - a + 1)) e (omega arith) (omega arith) is (positive (weight (b - a + 1)) (b - a + 1) e is some'))
  where
    positive : (w s e : ℕ) → w * s ≡ e → 0 < e → 0 < w
    positive zero s e is some = absurd (omega (arith, is, some))
    positive (suc w) s e is some = omega arith

pub power-near : (s n : ℕ) (e : Enclosure) → 0 < s → s < 2 ^ 34 → n < 2 ^ 32 → e ≡ span_power s n → IsExponent (2 ^ 60) e.exp
power-near s n e some small few is = rw is (IsExponent-more (span_power s n).exp (66 + 258 * n) (2 ^ 60) (omega arith) (power-within s n some (omega arith)).near)

-- a power that was made before
pub read_power : (xs : List Enclosure) (n cells i : ℕ) (x : Enclosure) → xs ≡ map (λ s. span_power (s + 1) n) (range_with_len 0 cells) → i < cells → x ≡ get_or xs i x → x ≡ span_power (i + 1) n
read_power xs n cells i x e less is = is ∙ rw e (get_or-map-range_with_len (λ s. span_power (s + 1) n) 0 cells i i x less (omega arith))

pub powers_count : (xs : List Enclosure) (n cells : ℕ) → xs ≡ map (λ s. span_power (s + 1) n) (range_with_len 0 cells) → length xs ≡ cells
powers_count xs n cells e = rw e (length-map-range_with_len (λ s. span_power (s + 1) n) 0 cells)

pub powers_more : (n passed : ℕ) (xs new : List Enclosure) (x : Enclosure) → new ≡ xs ++ x ∷ [] → xs ≡ map (λ s. span_power (s + 1) n) (range_with_len 0 passed) → x ≡ span_power (passed + 1) n →
    new ≡ map (λ s. span_power (s + 1) n) (range_with_len 0 (passed + 1))
powers_more n passed xs new x e h is = e ∙ rw (h, is) (sym (map-range_with_len_more (λ s. span_power (s + 1) n) 0 passed passed (omega arith)))
