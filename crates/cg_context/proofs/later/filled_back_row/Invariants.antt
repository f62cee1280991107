use Rattle.std.proofs.Common.{◌≡◌, ◌+◌}
use Rattle.cg_table.specs.Table.{rows, start, entry, row_entry}
use Rattle.cg_context.specs.Formulas.{back_row_entry}
use Rattle.cg_context.proofs.later.filled_back_row.Given as goal

abbrev pub invariant-loop-a : goal.invariant-loop-a
invariant-loop-a g l = record {
  front : l.entries.items ≡ rows l.v.cells (back_row_entry l.v.cells (entry l.v) (row_entry l.w)) l.a;
  ticks : l.steps ≡ l.initial.steps + start l.v.cells l.a;
}
