-- What the entries of contexts lose, how far they reach, and what they enclose.
use Rattle.std.proofs.Common.{◌≡◌, ℕ, zero, suc, ◌+◌, ◌-◌, ◌*◌, ◌/◌, ◌^◌, ◌<◌, ◌≤◌, inl, inr, lit<, arith, refl, subst}
use Rattle.std.specs.Prelude.{Some}
use Rattle.std.proofs.Math.Nat.{mul-pos, one-le-pow}
use Rattle.std.proofs.lemmas.Bool.{cases_eq, eq-eqb, ne_eqb}
use Rattle.cg_enc.specs.Enclosure.{Enclosure, Encloses}
use Rattle.cg_enc.specs.Rounding.{times}
use Rattle.cg_enc.proofs.WholeNumbers.{zero-encloses, of_whole_encloses}
use Rattle.cg_table.specs.Sums.{sum_of}
use Rattle.cg_table.specs.Formulas.{cumulated, span_power}
use Rattle.cg_table.proofs.SumLemmas.{plus_encloses}
use Rattle.cg_table.proofs.WithinLemmas.{IsWithin, within_more, zero-within, plus-within, times-within, whole-within}
use Rattle.cg_table.proofs.FormulaLemmas.{AllWithin, AllEnclose, row_sum-within, row_sum-encloses, times_encloses, power-within, power-encloses}
use Rattle.cg_meaning.specs.Pairs.{factorial, span_weight}
use Rattle.cg_part.specs.Tables as part
use Rattle.cg_part.proofs.Factorials.{exact-spans}
use Rattle.cg_context.proofs.TotalLemmas.{total-from}
use Rattle.cg_path.specs.Contexts as exact
use Rattle.cg_context.specs.Formulas.{sum_on, root_entry, into_phase_entry, into_after_entry, back_entry, back_row_entry, into_sequence_entry, into_span_entry, at_member_entry, at_leaf_entry, at_end_entry}
use Rattle.cg_context.proofs.DownSums.{on-within, on-encloses, up-within, up-encloses, before-within, before-encloses}

-- the sum of a row from its first cell up to one
pub cumulated-encloses : (t : ℕ → ℕ → Enclosure) (x : part.ExactTable) (d k m cells a b : ℕ) → 0 < d → AllWithin t k m → AllEnclose cells t x d →
    a ≤ b → b < cells → Encloses (cumulated t a b) (part.cumulated x a b) d
cumulated-encloses t x d k m cells a b some h hx le less =
    subst (λ (y : ℕ). Encloses (cumulated t a b) y d) (total-from (x a) a b (b - a + 1) le refl)
    (row_sum-encloses t x d k m cells a a (b - a + 1) some h hx (omega arith) (omega arith))

pub cumulated-within : (t : ℕ → ℕ → Enclosure) (k m cells a b : ℕ) → AllWithin t k m → a ≤ b → b < cells → IsWithin (cumulated t a b) (k + 3 * cells) (m + cells)
cumulated-within t k m cells a b h le less = row_sum-within t k m cells a a (b - a + 1) h (omega arith)

pub root-within : (a b : ℕ) → IsWithin (root_entry a b) 0 66
root-within a b =
    elim (cases_eq a 0) [
      | inl e ↦ rw (eq-eqb a 0 e) (whole-within 1 (lit< tt))
      | inr n ↦ rw (ne_eqb a 0 n) (zero-within 0 66)
    ]

pub root-encloses : (a b : ℕ) → Encloses (root_entry a b) (exact.root a b) 1
root-encloses a b =
    elim (cases_eq a 0) [
      | inl e ↦ rw (eq-eqb a 0 e) (of_whole_encloses 1 (lit< tt))
      | inr n ↦ rw (ne_eqb a 0 n) (zero-encloses 0 1 refl)
    ]

pub into_phase-within : (x q : ℕ → ℕ → Enclosure) (k m k' m' cells a d : ℕ) → AllWithin x k m → AllWithin q k' m' → a ≤ d → d < cells →
    IsWithin (into_phase_entry cells x q a d) (k + k' + 3 * cells + 6) (m + m' + cells + 64)
into_phase-within x q k m k' m' cells a d h h' le less =
    within_more (into_phase_entry cells x q a d) (k + k' + 3 * cells + 3 + 3) (m + m' + cells + 63 + 1) (k + k' + 3 * cells + 6) (m + m' + cells + 64) (omega arith) (omega arith)
    (plus-within (times (x a d) (cumulated q a d)) (sum_on cells (suc d) (λ b. times (x a b) (q a b))) (k + k' + 3 * cells + 3) (m + m' + cells + 63)
    (within_more (times (x a d) (cumulated q a d)) (k + (k' + 3 * cells) + 3) (m + (m' + cells) + 63) (k + k' + 3 * cells + 3) (m + m' + cells + 63) (omega arith) (omega arith)
    (times-within (x a d) (cumulated q a d) k m (k' + 3 * cells) (m' + cells) (h a d) (cumulated-within q k' m' cells a d h' le less)))
    (within_more (sum_on cells (suc d) (λ b. times (x a b) (q a b))) (k + k' + 3 + 3 * cells) (m + m' + 63 + cells) (k + k' + 3 * cells + 3) (m + m' + cells + 63) (omega arith) (omega arith)
    (on-within cells (suc d) (λ b. times (x a b) (q a b)) (k + k' + 3) (m + m' + 63) (λ b i j. times-within (x a b) (q a b) k m k' m' (h a b) (h' a b)))))

pub into_phase-encloses : (x q : ℕ → ℕ → Enclosure) (X Q : part.ExactTable) (d e k m k' m' cells a b : ℕ) → 0 < d → 0 < e → AllWithin x k m → AllWithin q k' m' →
    AllEnclose cells x X d → AllEnclose cells q Q e → a ≤ b → b < cells → Encloses (into_phase_entry cells x q a b) (exact.into_phase cells X Q a b) (d * e)
into_phase-encloses x q X Q d e k m k' m' cells a b some some' h h' hx hy le less =
    let each : (c : ℕ) → IsWithin (times (x a c) (q a c)) (k + k' + 3) (m + m' + 63) = λ c. times-within (x a c) (q a c) k m k' m' (h a c) (h' a c) in
    plus_encloses (times (x a b) (cumulated q a b)) (sum_on cells (suc b) (λ c. times (x a c) (q a c)))
    (times-within (x a b) (cumulated q a b) k m (k' + 3 * cells) (m' + cells) (h a b) (cumulated-within q k' m' cells a b h' le less)).valid
    (on-within cells (suc b) (λ c. times (x a c) (q a c)) (k + k' + 3) (m + m' + 63) (λ c i j. each c)).valid
    (X a b * part.cumulated Q a b) (exact.sum_on cells (suc b) (λ c. X a c * Q a c)) (d * e) (mul-pos some some')
    (times_encloses (x a b) (cumulated q a b) k m (k' + 3 * cells) (m' + cells) (X a b) d (part.cumulated Q a b) e (h a b) (cumulated-within q k' m' cells a b h' le less) (hx a b le less)
    (cumulated-encloses q Q e k' m' cells a b some' h' hy le less))
    (on-encloses cells (suc b) (λ c. times (x a c) (q a c)) (λ c. X a c * Q a c) (d * e) (k + k' + 3) (m + m' + 63) (mul-pos some some') (λ c i j. each c)
    (λ c i j. times_encloses (x a c) (q a c) k m k' m' (X a c) d (Q a c) e (h a c) (h' a c) (hx a c (omega arith) j) (hy a c (omega arith) j)))

pub into_after-within : (x : ℕ → ℕ → Enclosure) (k m cells a c : ℕ) → AllWithin x k m → a ≤ c → c < cells → IsWithin (into_after_entry cells x a c) (k + 3 * cells + 3) (m + cells + 1)
into_after-within x k m cells a c h le less =
    elim (cases_eq a 0) [
      | inl e ↦ rw (eq-eqb a 0 e)
          (plus-within (sum_of (λ d. x d c) 0 c) (sum_on cells c (λ d. x d d)) (k + 3 * cells) (m + cells)
          (before-within (λ d. x d c) k m c cells less (λ d i. h d c)) (on-within cells c (λ d. x d d) k m (λ d i j. h d d)))
      | inr n ↦ rw (ne_eqb a 0 n) (zero-within (k + 3 * cells + 3) (m + cells + 1))
    ]

pub into_after-encloses : (x : ℕ → ℕ → Enclosure) (X : part.ExactTable) (d k m cells a c : ℕ) → 0 < d → AllWithin x k m → AllEnclose cells x X d → a ≤ c → c < cells →
    Encloses (into_after_entry cells x a c) (exact.into_after cells X a c) d
into_after-encloses x X d k m cells a c some h hx le less =
    elim (cases_eq a 0) [
      | inl e ↦ rw (eq-eqb a 0 e)
          (plus_encloses (sum_of (λ b. x b c) 0 c) (sum_on cells c (λ b. x b b))
          (before-within (λ b. x b c) k m c cells less (λ b i. h b c)).valid (on-within cells c (λ b. x b b) k m (λ b i j. h b b)).valid _ _ d some
          (before-encloses (λ b. x b c) (λ b. X b c) d k m c some (λ b i. h b c) (λ b i. hx b c (omega arith) less))
          (on-encloses cells c (λ b. x b b) (λ b. X b b) d k m some (λ b i j. h b b) (λ b i j. hx b b (omega arith) j)))
      | inr n ↦ rw (ne_eqb a 0 n) (zero-encloses 0 d refl)
    ]

pub back-within : (v t : ℕ → ℕ → Enclosure) (k m k' m' cells a c : ℕ) → AllWithin v k m → AllWithin t k' m' →
    IsWithin (back_entry cells v t a c) (k + k' + 3 + 3 * cells) (m + m' + 63 + cells)
back-within v t k m k' m' cells a c h h' =
    on-within cells c (λ d. times (v a d) (t c d)) (k + k' + 3) (m + m' + 63) (λ d i j. times-within (v a d) (t c d) k m k' m' (h a d) (h' c d))

pub back-encloses : (v t : ℕ → ℕ → Enclosure) (V T : part.ExactTable) (d e k m k' m' cells a c : ℕ) → 0 < d → 0 < e → AllWithin v k m → AllWithin t k' m' →
    AllEnclose cells v V d → AllEnclose cells t T e → a ≤ c → c < cells → Encloses (back_entry cells v t a c) (exact.back cells V T a c) (d * e)
back-encloses v t V T d e k m k' m' cells a c some some' h h' hx hy le less =
    on-encloses cells c (λ b. times (v a b) (t c b)) (λ b. V a b * T c b) (d * e) (k + k' + 3) (m + m' + 63) (mul-pos some some')
    (λ b i j. times-within (v a b) (t c b) k m k' m' (h a b) (h' c b))
    (λ b i j. times_encloses (v a b) (t c b) k m k' m' (V a b) d (T c b) e (h a b) (h' c b) (hx a b (omega arith) j) (hy c b i j))

pub back_row-within : (v : ℕ → ℕ → Enclosure) (w : ℕ → Enclosure) (k m k' m' cells a c : ℕ) → AllWithin v k m → ((b : ℕ) → IsWithin (w b) k' m') →
    IsWithin (back_row_entry cells v w a c) (k + k' + 3 + 3 * cells) (m + m' + 63 + cells)
back_row-within v w k m k' m' cells a c h h' =
    on-within cells c (λ d. times (v a d) (w d)) (k + k' + 3) (m + m' + 63) (λ d i j. times-within (v a d) (w d) k m k' m' (h a d) (h' d))

pub back_row-encloses : (v : ℕ → ℕ → Enclosure) (w : ℕ → Enclosure) (V : part.ExactTable) (y : ℕ → ℕ) (d e k m k' m' cells a c : ℕ) → 0 < d → 0 < e → AllWithin v k m →
    ((b : ℕ) → IsWithin (w b) k' m') → AllEnclose cells v V d → ((b : ℕ) → b < cells → Encloses (w b) (y b) e) → a ≤ c → c < cells →
    Encloses (back_row_entry cells v w a c) (exact.back_row cells V y a c) (d * e)
back_row-encloses v w V y d e k m k' m' cells a c some some' h h' hx hy le less =
    on-encloses cells c (λ b. times (v a b) (w b)) (λ b. V a b * y b) (d * e) (k + k' + 3) (m + m' + 63) (mul-pos some some')
    (λ b i j. times-within (v a b) (w b) k m k' m' (h a b) (h' b))
    (λ b i j. times_encloses (v a b) (w b) k m k' m' (V a b) d (y b) e (h a b) (h' b) (hx a b (omega arith) j) (hy b j))

pub into_sequence-within : (p v : ℕ → ℕ → Enclosure) (k m k' m' cells c d : ℕ) → AllWithin p k m → AllWithin v k' m' → c < cells →
    IsWithin (into_sequence_entry p v c d) (k + k' + 3 + 3 * cells) (m + m' + 63 + cells)
into_sequence-within p v k m k' m' cells c d h h' less =
    up-within (λ a. times (p a c) (v a d)) (k + k' + 3) (m + m' + 63) c cells less (λ a i. times-within (p a c) (v a d) k m k' m' (h a c) (h' a d))

pub into_sequence-encloses : (p v : ℕ → ℕ → Enclosure) (P V : part.ExactTable) (d e k m k' m' cells b c : ℕ) → 0 < d → 0 < e → AllWithin p k m → AllWithin v k' m' →
    AllEnclose cells p P d → AllEnclose cells v V e → b ≤ c → c < cells → Encloses (into_sequence_entry p v b c) (exact.into_sequence P V b c) (d * e)
into_sequence-encloses p v P V d e k m k' m' cells b c some some' h h' hx hy le less =
    up-encloses (λ a. times (p a b) (v a c)) (λ a. P a b * V a c) (d * e) (k + k' + 3) (m + m' + 63) b (mul-pos some some')
    (λ a i. times-within (p a b) (v a c) k m k' m' (h a b) (h' a c))
    (λ a i. times_encloses (p a b) (v a c) k m k' m' (P a b) d (V a c) e (h a b) (h' a c) (hx a b i (omega arith)) (hy a c (omega arith) less))

pub into_span-within : (x : ℕ → ℕ → Enclosure) (k m n cells a c : ℕ) → AllWithin x k m → cells < 2 ^ 33 → a ≤ c → c < cells →
    IsWithin (into_span_entry cells x n a c) (k + 6 * n + 3 + 3 * cells) (m + (66 + 258 * n) + 63 + cells)
into_span-within x k m n cells a c h few le less =
    on-within cells c (λ b. times (x a b) (span_power (b - a + 1) n)) (k + 6 * n + 3) (m + (66 + 258 * n) + 63)
    (λ b i j. times-within (x a b) (span_power (b - a + 1) n) k m (6 * n) (66 + 258 * n) (h a b) (power-within (b - a + 1) n (omega arith) (omega arith)))

pub factorial-some : (n : ℕ) → 0 < factorial n
factorial-some zero = omega arith
factorial-some (suc n) = let more : 0 < suc n = omega arith in mul-pos more (factorial-some n)

-- the weight of a span, as a whole number of parts
power-at : (cells s n : ℕ) → cells < 2 ^ 33 → 0 < s → s ≤ cells → Encloses (span_power s n) ((factorial cells / s) ^ n) (factorial cells ^ n)
power-at cells s n few some most =
    let is : factorial cells / s * s ≡ factorial cells = exact-spans cells s some most in
    power-encloses s n (factorial cells / s) (factorial cells) some (omega arith) is (positive (factorial cells / s) s (factorial cells) is (factorial-some cells))
  where
    positive : (w s e : ℕ) → w * s ≡ e → 0 < e → 0 < w
    positive zero s e is some = absurd (omega (arith, is, some))
    positive (suc w) s e is some = omega arith

pub into_span-encloses : (x : ℕ → ℕ → Enclosure) (X : part.ExactTable) (d k m n cells a c : ℕ) → 0 < d → AllWithin x k m → AllEnclose cells x X d → cells < 2 ^ 33 → a ≤ c → c < cells →
    Encloses (into_span_entry cells x n a c) (exact.into_span cells X n a c) (d * factorial cells ^ n)
into_span-encloses x X d k m n cells a c some h hx few le less =
    on-encloses cells c (λ b. times (x a b) (span_power (b - a + 1) n)) (λ b. X a b * span_weight cells (Some (a, b)) ^ n) (d * factorial cells ^ n)
    (k + 6 * n + 3) (m + (66 + 258 * n) + 63) (mul-pos some (one-le-pow n (factorial cells) (factorial-some cells)))
    (λ b i j. times-within (x a b) (span_power (b - a + 1) n) k m (6 * n) (66 + 258 * n) (h a b) (power-within (b - a + 1) n (omega arith) (omega arith)))
    (λ b i j. times_encloses (x a b) (span_power (b - a + 1) n) k m (6 * n) (66 + 258 * n) (X a b) d ((factorial cells / (b - a + 1)) ^ n) (factorial cells ^ n) (h a b)
    (power-within (b - a + 1) n (omega arith) (omega arith)) (hx a b (omega arith) j) (power-at cells (b - a + 1) n few (omega arith) (omega arith)))

pub at_leaf-within : (x : ℕ → ℕ → Enclosure) (k m cells y : ℕ) → AllWithin x k m → y < cells → IsWithin (at_leaf_entry x y) (k + 3 * cells) (m + cells)
at_leaf-within x k m cells y h less = up-within (λ a. x a y) k m y cells less (λ a i. h a y)

pub at_leaf-encloses : (x : ℕ → ℕ → Enclosure) (X : part.ExactTable) (d k m cells y : ℕ) → 0 < d → AllWithin x k m → AllEnclose cells x X d → y < cells →
    Encloses (at_leaf_entry x y) (exact.at_leaf X y) d
at_leaf-encloses x X d k m cells y some h hx less =
    up-encloses (λ a. x a y) (λ a. X a y) d k m y some (λ a i. h a y) (λ a i. hx a y i less)

pub at_end-within : (x t : ℕ → ℕ → Enclosure) (k m k' m' cells y : ℕ) → AllWithin x k m → AllWithin t k' m' → y < cells →
    IsWithin (at_end_entry x t y) (k + k' + 3 + 3 * cells) (m + m' + 63 + cells)
at_end-within x t k m k' m' cells y h h' less =
    up-within (λ a. times (x a y) (t a y)) (k + k' + 3) (m + m' + 63) y cells less (λ a i. times-within (x a y) (t a y) k m k' m' (h a y) (h' a y))

pub at_end-encloses : (x t : ℕ → ℕ → Enclosure) (X T : part.ExactTable) (d e k m k' m' cells y : ℕ) → 0 < d → 0 < e → AllWithin x k m → AllWithin t k' m' →
    AllEnclose cells x X d → AllEnclose cells t T e → y < cells → Encloses (at_end_entry x t y) (exact.at_end X T y) (d * e)
at_end-encloses x t X T d e k m k' m' cells y some some' h h' hx hy less =
    up-encloses (λ a. times (x a y) (t a y)) (λ a. X a y * T a y) (d * e) (k + k' + 3) (m + m' + 63) y (mul-pos some some')
    (λ a i. times-within (x a y) (t a y) k m k' m' (h a y) (h' a y))
    (λ a i. times_encloses (x a y) (t a y) k m k' m' (X a y) d (T a y) e (h a y) (h' a y) (hx a y i less) (hy a y i less))

pub at_member-within : (p v : ℕ → ℕ → Enclosure) (k m k' m' cells y : ℕ) → AllWithin p k m → AllWithin v k' m' → y < cells →
    IsWithin (at_member_entry p v y) (k + k' + 6 * cells + 3) (m + m' + 2 * cells + 63)
at_member-within p v k m k' m' cells y h h' less =
    within_more (at_member_entry p v y) (k + 3 * cells + k' + 3 + 3 * cells) (m + cells + m' + 63 + cells) (k + k' + 6 * cells + 3) (m + m' + 2 * cells + 63) (omega arith) (omega arith)
    (up-within (λ a. times (cumulated p a y) (v a y)) (k + 3 * cells + k' + 3) (m + cells + m' + 63) y cells less
    (λ a i. times-within (cumulated p a y) (v a y) (k + 3 * cells) (m + cells) k' m' (cumulated-within p k m cells a y h i less) (h' a y)))

pub at_member-encloses : (p v : ℕ → ℕ → Enclosure) (P V : part.ExactTable) (d e k m k' m' cells y : ℕ) → 0 < d → 0 < e → AllWithin p k m → AllWithin v k' m' →
    AllEnclose cells p P d → AllEnclose cells v V e → y < cells → Encloses (at_member_entry p v y) (exact.at_member P V y) (d * e)
at_member-encloses p v P V d e k m k' m' cells y some some' h h' hx hy less =
    up-encloses (λ a. times (cumulated p a y) (v a y)) (λ a. part.cumulated P a y * V a y) (d * e) (k + 3 * cells + k' + 3) (m + cells + m' + 63) y (mul-pos some some')
    (λ a i. times-within (cumulated p a y) (v a y) (k + 3 * cells) (m + cells) k' m' (cumulated-within p k m cells a y h i less) (h' a y))
    (λ a i. times_encloses (cumulated p a y) (v a y) (k + 3 * cells) (m + cells) k' m' (part.cumulated P a y) d (V a y) e (cumulated-within p k m cells a y h i less) (h' a y)
    (cumulated-encloses p P d k m cells a y some h hx i less) (hy a y i less))
