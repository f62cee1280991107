use Rattle.cg_context.proofs.SequenceLemmas.{AreSummed}
use Rattle.cg_wide.proofs.sequence.add_rows.Given as goal

abbrev pub invariant-loop-a : goal.invariant-loop-a
invariant-loop-a l = AreSummed l.p l.v l.c 0 l.a l.initial.sums l.sums
