use Rattle.std.proofs.Common.{◌≡◌}
use Rattle.cg_table.specs.Formulas.{after_entry}
use Rattle.cg_table.specs.Table.{rows, entry}
use Rattle.cg_table.proofs.groups.filled_after.Given as goal

abbrev pub invariant-loop-a : goal.invariant-loop-a
invariant-loop-a l = l.entries.items ≡ rows l.t.cells (after_entry (entry l.t)) l.a
