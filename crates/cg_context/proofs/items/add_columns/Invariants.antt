use Rattle.std.proofs.Common.{◌≡◌, ◌+◌, ◌-◌, ◌*◌, ◌≤◌}
use Rattle.cg_context.proofs.BackLemmas.{AreBack, triangle}
use Rattle.cg_context.proofs.items.add_columns.Given as goal

abbrev pub invariant-loop-i : goal.invariant-loop-i
invariant-loop-i g l = record {
  sums : AreBack l.v l.t l.a l.base l.i l.initial.sums l.sums;
  begin : l.begin ≡ triangle (l.v.cells - l.i);
  ticks : 2 * l.steps + (l.v.cells - l.a - l.i) * (l.v.cells - l.a - l.i + 1) ≤ 2 * l.initial.steps + (l.v.cells - l.a) * (l.v.cells - l.a + 1);
}
