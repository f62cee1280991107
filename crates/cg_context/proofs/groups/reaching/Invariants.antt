use Rattle.cg_table.specs.Table.{entry}
use Rattle.cg_context.specs.Columns.{AreColumns}
use Rattle.cg_context.proofs.groups.reaching.Given as goal

abbrev pub invariant-loop-a : goal.invariant-loop-a
invariant-loop-a l = AreColumns (entry l.x) l.x.cells 0 l.a l.sums.items
