-- The exact tables of the two crates are one: sums of so many terms, and sums from one cell to another.
use Rattle.std.proofs.Common.{◌≡◌, ℕ, ◌+◌, ◌-◌, ◌*◌, ◌^◌, ◌<◌, ◌≤◌, ◌/◌, inl, inr, arith, refl, sym, ap, ap₂, ◌∙◌, eqb, eq-eqb, ne_eqb}
use Rattle.std.specs.Prelude.{if◌then◌else◌}
use Rattle.std.proofs.lemmas.Bool.{cases_eq}
use Rattle.cg_meaning.specs.Pairs.{factorial}
use Rattle.cg_part.specs.Tables as exact
use Rattle.cg_part.proofs.Ranges.{sum_from-scale_right}
use Rattle.cg_table.specs.Sums.{total_of}
use Rattle.cg_context.proofs.TotalLemmas.{total-from}
use Rattle.cg_table.specs.Exact.{exact_then_row, exact_then, exact_beside, exact_after, exact_before, exact_spanned}

-- an event is a table of which each row is the same
pub then_row-joins : (x : exact.ExactTable) (y : ℕ → ℕ) (a b : ℕ) → a ≤ b →
    exact_then_row x y a b ≡ exact.then_table x (exact.row_table y) a b
then_row-joins x y a b le =
    ap (λ (n : ℕ). n * y b) (total-from (x a) a b (b - a + 1) le refl) ∙ sym (sum_from-scale_right a b (y b) (x a))

-- one after another
pub then-joins : (x y : exact.ExactTable) (a b : ℕ) → a ≤ b → exact_then x y a b ≡ exact.then_table x y a b
then-joins x y a b le = total-from (λ c. x a c * y c b) a b (b - a + 1) le refl

-- nothing, and another term
alone : (t m n : ℕ) → m ≡ n → 0 * t + m ≡ n
alone t m n e = omega (arith, e)

-- side by side
pub beside-joins : (x y : exact.ExactTable) (a b : ℕ) → a ≤ b → exact_beside x y a b ≡ exact.beside x y a b
beside-joins x y a b le =
    elim (cases_eq a b) [
      | inl e ↦
          let nothing : b - a ≡ 0 = omega arith in
          rw (eq-eqb a b e, nothing) (alone (y a b) (x a b * total_of (y a) a (0 + 1)) (x a b * exact.cumulated y a b)
          (ap (λ (n : ℕ). x a b * n) (total-from (y a) a b (0 + 1) le (omega arith))))
      | inr ne ↦
          rw (ne_eqb a b ne) (ap₂ (λ (m n : ℕ). m * y a b + x a b * n) (total-from (x a) a (b - 1) (b - a) (omega arith) (omega arith))
          (total-from (y a) a b (b - a + 1) le refl))
    ]

-- an After group
pub after-joins : (x : exact.ExactTable) (a b : ℕ) → exact_after x a b ≡ exact.after_group x a b
after-joins x a b = ap (λ (n : ℕ). if eqb a b then n else x 0 b) (total-from (x 0) 0 a (a + 1) (omega arith) (omega arith))

-- a Before group
pub before-joins : (cells : ℕ) (x : exact.ExactTable) (a b : ℕ) → a < cells → exact_before cells x a b ≡ exact.before_group cells x a b
before-joins cells x a b less =
    ap (λ (n : ℕ). if eqb a b then n else 0) (total-from (x a) a (cells - 1) (cells - a) (omega arith) (omega arith))

-- G! over the number of cells of a span
abbrev pub share : ℕ → ℕ → ℕ
share cells s = factorial cells / s

-- what stands between two Boundaries
pub spanned-joins : (cells : ℕ) (x : exact.ExactTable) (opened a b : ℕ) → a ≤ b →
    exact_spanned x (share cells) opened a b ≡ exact.spanned cells x opened a b
spanned-joins cells x opened a b le = ap (λ (n : ℕ). n * share cells (b - a + 1) ^ opened) (total-from (x a) a b (b - a + 1) le refl)
