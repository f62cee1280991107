use Rattle.std.proofs.Common.{◌≡◌, take}
use Rattle.cg_context.proofs.cells.row_of.Given as goal

abbrev pub invariant-loop-e : goal.invariant-loop-e
invariant-loop-e l = l.row ≡ take l.e-index l.e-items
