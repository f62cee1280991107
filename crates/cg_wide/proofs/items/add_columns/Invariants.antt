use Rattle.std.proofs.Common.{◌≡◌, ◌-◌}
use Rattle.cg_context.proofs.BackLemmas.{AreBack, triangle}
use Rattle.cg_wide.proofs.items.add_columns.Given as goal

abbrev pub invariant-loop-i : goal.invariant-loop-i
invariant-loop-i l = record {
  sums : AreBack l.v l.t l.a 0 l.i l.initial.sums l.sums;
  begin : l.begin ≡ triangle (l.v.cells - l.i);
}
