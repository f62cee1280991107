use Rattle.std.proofs.Common.{◌≡◌, ◌-◌}
use Rattle.cg_table.specs.Sums.{sum_of}
use Rattle.cg_table.specs.Table.{entry}
use Rattle.cg_table.proofs.single.summed.Given as goal

abbrev pub invariant-loop-b : goal.invariant-loop-b
invariant-loop-b l = l.sum ≡ sum_of (entry l.t l.a) l.from (l.b - l.from)
