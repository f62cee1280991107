use Rattle.std.proofs.Common.{◌≡◌, ◌+◌, ◌-◌}
use Rattle.cg_table.specs.Table.{entry}
use Rattle.cg_context.specs.Formulas.{into_span_entry, sum_on}
use Rattle.cg_context.proofs.FallingLemmas.{AreFallen}
use Rattle.cg_context.proofs.SpanLemmas.{span-term}
use Rattle.cg_context.proofs.span.fill_span.Given as goal

abbrev pub invariant-loop-i : goal.invariant-loop-i
invariant-loop-i g l = record {
  done : AreFallen (into_span_entry l.x.cells (entry l.x) l.n l.a) l.x.cells l.a l.base (l.x.cells - l.i) l.initial.sums l.sums;
  sum : l.sum ≡ sum_on l.x.cells (l.x.cells - l.i) (span-term l.x l.n l.a);
  ticks : l.steps ≡ l.initial.steps + l.i;
}
