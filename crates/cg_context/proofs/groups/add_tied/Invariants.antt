use Rattle.std.proofs.Common.{◌≡◌, ◌-◌}
use Rattle.cg_table.specs.Table.{entry}
use Rattle.cg_context.specs.Formulas.{into_after_entry, sum_on}
use Rattle.cg_context.proofs.FallingLemmas.{AreFallen}
use Rattle.cg_context.proofs.groups.add_tied.Given as goal

abbrev pub invariant-loop-i : goal.invariant-loop-i
invariant-loop-i l = record {
  sums : AreFallen (into_after_entry l.x.cells (entry l.x) 0) l.x.cells 0 0 (l.x.cells - l.i) l.initial.sums l.sums;
  sum : l.sum ≡ sum_on l.x.cells (l.x.cells - l.i) (λ d. entry l.x d d);
}
