use Rattle.std.proofs.Common.{◌≡◌, ◌+◌}
use Rattle.cg_table.specs.Formulas.{then_row_entry}
use Rattle.cg_table.specs.Table.{rows, start, entry, row_entry}
use Rattle.cg_table.proofs.order.filled_then_row.Given as goal

abbrev pub invariant-loop-a : goal.invariant-loop-a
invariant-loop-a g l = record {
  front : l.entries.items ≡ rows l.p.cells (then_row_entry (entry l.p) (row_entry l.w)) l.a;
  ticks : l.steps ≡ l.initial.steps + start l.p.cells l.a;
}
