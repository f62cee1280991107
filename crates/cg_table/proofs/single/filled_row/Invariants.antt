use Rattle.std.proofs.Common.{◌≡◌}
use Rattle.cg_table.specs.Table.{rows, row_entry}
use Rattle.cg_table.proofs.single.filled_row.Given as goal

abbrev pub invariant-loop-a : goal.invariant-loop-a
invariant-loop-a l = l.entries.items ≡ rows l.cells (λ a b. row_entry l.w b) l.a
