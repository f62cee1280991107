use Rattle.std.proofs.Common.{◌≡◌, ◌<◌, map, option_map}
use Rattle.std.specs.List.{range_with_len}
use Rattle.cg_meaning.specs.Scene.{scene_of}
use Rattle.cg_model.specs.Dating.{dating_of}
use Rattle.cg_like.specs.Cover.{rows_of}
use Rattle.cg_like.specs.Distance.{IsKnown}
use Rattle.cg_like.specs.Likelihood.{weight_at}
use Rattle.cg_like.proofs.row.filled.Given as goal

-- The row has the weights of the cells so far.
abbrev pub invariant-loop-cell : goal.invariant-loop-cell
invariant-loop-cell l = let curve = option_map (λ c. c.now) l.curve in record {
  weights : l.row ≡ map (weight_at (scene_of l.grid (rows_of curve)) (dating_of l.dating)) (range_with_len 0 l.cell);
  known : 0 < l.cell → IsKnown curve (dating_of l.dating);
}
