use Rattle.std.proofs.Common.{◌≡◌, map, take}
use Rattle.cg_marginal.specs.Finished.{ppm_pair}
use Rattle.cg_marginal.proofs.parts.shares.Given as goal

abbrev pub invariant-loop-cell : goal.invariant-loop-cell
invariant-loop-cell l = l.cells.items ≡ map (ppm_pair l.whole) (take l.cell l.n)
