-- On the grid each dating has spans of a weight above 0.
use Rattle.std.proofs.Common.{◌≡◌, ℕ, zero, suc, ◌+◌, ◌-◌, ◌*◌, ◌/◌, ◌<◌, ◌≤◌, List, [], ◌∷◌, get_or, arith, lit<, Option, Some, None}
use Rattle.std.proofs.Math.Nat.{mul-pos}
use Rattle.cg_meaning.specs.Sums.{product_by}
use Rattle.cg_meaning.specs.Pairs.{pair_at, span_weight, factorial}
use Rattle.cg_meaning.proofs.Sums.{AreCells}
use Rattle.cg_part.proofs.Factorials.{exact-spans}
use Rattle.cg_context.proofs.CallLemmas.{factorial-some}

-- a factor of a number above 0
factor-some : (w s n : ℕ) → w * s ≡ n → 0 < n → 0 < w
factor-some zero s n e some = absurd (omega (arith, e))
factor-some (suc w) s n e some = omega arith

-- the weight of a span that ends on the grid
weight-some : (g first last : ℕ) → last ≤ g - 1 → 0 < span_weight g (Some (first, last))
weight-some zero first last within = let one : last - first + 1 ≡ 1 = omega (arith, within) in rw one (lit< tt)
weight-some (suc g) first last within =
    let span : ℕ = last - first + 1 in
    factor-some (factorial (suc g) / span) span (factorial (suc g)) (exact-spans (suc g) span (omega arith) (omega (arith, within)))
    (factorial-some (suc g))

-- the cell of any number
cell-within : (g : ℕ) (cells : List ℕ) (number : ℕ) → AreCells g cells → get_or cells number 0 ≤ g - 1
unfolding AreCells
cell-within g [] number all = omega arith
cell-within g (c ∷ cs) zero all = omega (arith, all.0)
cell-within g (c ∷ cs) (suc number) all = cell-within g cs number all.1

-- The spans of a dating on the grid.
pub spans-some : (g : ℕ) (cells : List ℕ) (pairs : List (Option (ℕ × ℕ))) → AreCells g cells →
    0 < product_by (λ pair. span_weight g (pair_at cells pair)) pairs
spans-some g cells [] all = lit< tt
spans-some g cells (None ∷ pairs) all = let one : 0 < 1 = lit< tt in mul-pos one (spans-some g cells pairs all)
spans-some g cells (Some pair ∷ pairs) all =
    mul-pos (weight-some g (get_or cells pair.0 0) (get_or cells pair.1 0) (cell-within g cells pair.1 all)) (spans-some g cells pairs all)
