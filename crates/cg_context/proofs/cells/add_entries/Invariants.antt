use Rattle.std.proofs.Common.{◌-◌}
use Rattle.cg_table.specs.Table.{entry}
use Rattle.cg_context.proofs.ColumnLemmas.{AreColumnsTo}
use Rattle.cg_context.proofs.cells.add_entries.Given as goal

abbrev pub invariant-loop-y : goal.invariant-loop-y
invariant-loop-y l = AreColumnsTo (entry l.x) l.x.cells (1 - l.passed) l.a l.y l.sums
