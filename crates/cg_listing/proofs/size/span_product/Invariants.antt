use Rattle.std.proofs.Common.{◌≡◌, take}
use Rattle.cg_meaning.specs.Pairs.{pair_at, span_weight}
use Rattle.cg_meaning.specs.Sums.{product_by}
use Rattle.cg_listing.proofs.size.span_product.Given as goal

abbrev pub invariant-loop-pair : goal.invariant-loop-pair
invariant-loop-pair l = l.product ≡ product_by (λ pair. span_weight l.grid_cells (pair_at l.cells pair)) (take l.pair-index l.pairs)
