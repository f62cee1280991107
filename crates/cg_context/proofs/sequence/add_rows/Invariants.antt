use Rattle.std.proofs.Common.{◌+◌, ◌-◌, ◌*◌, ◌≤◌}
use Rattle.cg_context.proofs.SequenceLemmas.{AreSummed}
use Rattle.cg_context.proofs.sequence.add_rows.Given as goal

abbrev pub invariant-loop-a : goal.invariant-loop-a
invariant-loop-a g l = record {
  sums : AreSummed l.p l.v l.c l.base l.a l.initial.sums l.sums;
  ticks : l.steps ≤ l.initial.steps + l.a * (l.p.cells - l.c);
}
