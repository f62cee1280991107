use Rattle.std.proofs.Common.{◌≡◌, ◌+◌, ◌-◌}
use Rattle.cg_enc.specs.Rounding.{times}
use Rattle.cg_table.specs.Table.{entry}
use Rattle.cg_context.proofs.ColumnLemmas.{AreColumnsTo}
use Rattle.cg_context.proofs.end.add_end.Given as goal

abbrev pub invariant-loop-y : goal.invariant-loop-y
invariant-loop-y g l = record {
  sums : AreColumnsTo (λ b y. times (entry l.x b y) (entry l.k b y)) l.x.cells 1 l.a l.y l.sums;
  ticks : l.steps ≡ l.initial.steps + (l.y - l.a);
}
