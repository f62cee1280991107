use Rattle.std.proofs.Common.{◌≡◌}
use Rattle.cg_table.specs.Table.{rows, entry}
use Rattle.cg_context.specs.Formulas.{into_before_entry}
use Rattle.cg_context.proofs.groups.filled_before.Given as goal

abbrev pub invariant-loop-a : goal.invariant-loop-a
invariant-loop-a l = l.entries.items ≡ rows l.x.cells (into_before_entry (entry l.x)) l.a
