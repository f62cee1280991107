use Rattle.std.proofs.Common.{◌≡◌}
use Rattle.cg_table.specs.Sums.{sum_of}
use Rattle.cg_table.specs.Table.{row_entry}
use Rattle.cg_marginal.proofs.parts.whole_of.Given as goal

abbrev pub invariant-loop-cell : goal.invariant-loop-cell
invariant-loop-cell l = l.whole ≡ sum_of (row_entry l.n) 0 l.cell
