use Rattle.std.proofs.Common.{◌≡◌}
use Rattle.cg_table.specs.Formulas.{identity_entry}
use Rattle.cg_table.specs.Table.{rows}
use Rattle.cg_table.proofs.single.identity_entries.Given as goal

abbrev pub invariant-loop-a : goal.invariant-loop-a
invariant-loop-a l = l.entries.items ≡ rows l.cells identity_entry l.a
