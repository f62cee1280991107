use Rattle.std.proofs.Common.{◌≡◌, ◌-◌, ◌<◌, option_map}
use Rattle.cg_meaning.specs.Scene.{scene_of}
use Rattle.cg_meaning.specs.Cover.{fault_from}
use Rattle.cg_model.specs.Dating.{dating_of}
use Rattle.cg_like.specs.Cover.{rows_of}
use Rattle.cg_like.specs.Distance.{IsKnown}
use Rattle.cg_like.proofs.cover.first_fault.Given as goal

-- No cell so far has a fault.
abbrev pub invariant-loop-cell : goal.invariant-loop-cell
invariant-loop-cell l = let curve = option_map (λ c. c.now) l.curve in record {
  none : fault_from (scene_of l.grid (rows_of curve)) (dating_of l.dating) 0 l.grid.cells
      ≡ fault_from (scene_of l.grid (rows_of curve)) (dating_of l.dating) l.cell (l.grid.cells - l.cell);
  known : 0 < l.cell → IsKnown curve (dating_of l.dating);
}
