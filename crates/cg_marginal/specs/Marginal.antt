-- What a marginal shows.
use Rattle.std.specs.Prelude.{ℕ, List, length, Option, Some, None}
use Rattle.cg_marginal.specs.declared.marginal.Marginal.{Marginal}
use Rattle.cg_marginal.specs.declared.marginal.Marginal.TheVariants.{Impossible, Pairs}

-- its pairs, one for each cell; none where it is impossible
abbrev pub pairs_of : Marginal → Option (List (ℕ × ℕ))
pairs_of Impossible = None
pairs_of (Pairs pairs) = Some pairs

-- how many cells it has pairs for
abbrev pub cell_count : Marginal → ℕ
cell_count Impossible = 0
cell_count (Pairs pairs) = length pairs
