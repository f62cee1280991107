use Rattle.std.proofs.Common.{◌≡◌, ◌+◌, ◌*◌}
use Rattle.cg_table.specs.Formulas.{spanned_entry}
use Rattle.cg_table.specs.Table.{rows, start, entry}
use Rattle.cg_table.proofs.span.filled_spanned.Given as goal

abbrev pub invariant-loop-a : goal.invariant-loop-a
invariant-loop-a g l = record {
  front : l.entries.items ≡ rows l.m.cells (spanned_entry (entry l.m) l.n) l.a;
  ticks : l.steps ≡ l.fn.steps + start l.m.cells l.a + l.m.cells * l.n;
}
