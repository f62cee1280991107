use Rattle.std.proofs.Common.{◌≡◌}
use Rattle.cg_table.specs.Formulas.{before_entry}
use Rattle.cg_table.specs.Table.{rows, entry}
use Rattle.cg_table.proofs.groups.filled_before.Given as goal

abbrev pub invariant-loop-a : goal.invariant-loop-a
invariant-loop-a l = l.entries.items ≡ rows l.t.cells (before_entry l.t.cells (entry l.t)) l.a
