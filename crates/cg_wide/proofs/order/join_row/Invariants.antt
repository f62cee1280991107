use Rattle.cg_table.proofs.JoinLemmas.{AreJoined}
use Rattle.cg_wide.proofs.order.join_row.Given as goal

abbrev pub invariant-loop-c : goal.invariant-loop-c
invariant-loop-c l = AreJoined l.p l.t l.a l.c 0 l.initial.sums l.sums
