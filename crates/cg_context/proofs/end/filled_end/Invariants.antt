use Rattle.std.proofs.Common.{◌≡◌, ◌+◌}
use Rattle.cg_enc.specs.Rounding.{times}
use Rattle.cg_table.specs.Table.{entry, start}
use Rattle.cg_context.specs.Columns.{AreColumns}
use Rattle.cg_context.proofs.end.filled_end.Given as goal

abbrev pub invariant-loop-a : goal.invariant-loop-a
invariant-loop-a g l = record {
  sums : AreColumns (λ b y. times (entry l.x b y) (entry l.k b y)) l.x.cells 1 l.a l.sums.items;
  ticks : l.steps ≡ l.initial.steps + start l.x.cells l.a;
}
