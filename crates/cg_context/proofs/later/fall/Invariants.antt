use Rattle.std.proofs.Common.{◌≡◌, ◌+◌, ◌-◌}
use Rattle.cg_enc.specs.Rounding.{times}
use Rattle.cg_table.specs.Table.{entry, row_entry}
use Rattle.cg_context.specs.Formulas.{back_row_entry, sum_on}
use Rattle.cg_context.proofs.FallingLemmas.{AreFallen}
use Rattle.cg_context.proofs.later.fall.Given as goal

abbrev pub invariant-loop-i : goal.invariant-loop-i
invariant-loop-i g l = record {
  sums : AreFallen (back_row_entry l.v.cells (entry l.v) (row_entry l.w) l.a) l.v.cells l.a l.base (l.v.cells - l.i) l.initial.sums l.sums;
  sum : l.sum ≡ sum_on l.v.cells (l.v.cells - l.i) (λ d. times (entry l.v l.a d) (row_entry l.w d));
  ticks : l.steps ≡ l.initial.steps + l.i;
}
