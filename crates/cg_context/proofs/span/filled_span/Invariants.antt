use Rattle.std.proofs.Common.{◌≡◌, ◌+◌, ◌*◌}
use Rattle.cg_table.specs.Table.{rows, start, entry}
use Rattle.cg_context.specs.Formulas.{into_span_entry}
use Rattle.cg_context.proofs.span.filled_span.Given as goal

abbrev pub invariant-loop-a : goal.invariant-loop-a
invariant-loop-a g l = record {
  front : l.entries.items ≡ rows l.x.cells (into_span_entry l.x.cells (entry l.x) l.n) l.a;
  ticks : l.steps ≡ l.fn.steps + start l.x.cells l.a + l.x.cells * l.n;
}
