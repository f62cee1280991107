use Rattle.std.proofs.Common.{◌≡◌, ◌+◌, ◌-◌, ◌*◌, ◌≤◌, min}
use Rattle.cg_table.specs.Live.{live_rows}
use Rattle.cg_table.specs.Table.{start}
use Rattle.cg_table.proofs.JoinLemmas.{AreJoined}
use Rattle.cg_table.proofs.join.join_row.Given as goal

abbrev pub invariant-loop-c : goal.invariant-loop-c
invariant-loop-c g l = record {
  sums : AreJoined l.p l.t l.a l.c l.base l.initial.sums l.sums;
  place : l.begin ≡ start l.t.cells (min l.c (live_rows l.t));
  ticks : 2 * l.steps + (l.cells - l.c) * (l.cells - l.c + 1) ≤ 2 * l.initial.steps + (l.cells - l.a) * (l.cells - l.a + 1);
}
