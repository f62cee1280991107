use Rattle.std.proofs.Common.{◌≡◌, ◌+◌}
use Rattle.cg_table.specs.Table.{start}
use Rattle.cg_context.specs.Columns.{AreColumns}
use Rattle.cg_context.proofs.MemberLemmas.{member-term}
use Rattle.cg_context.proofs.member.filled_member.Given as goal

abbrev pub invariant-loop-a : goal.invariant-loop-a
invariant-loop-a g l = record {
  sums : AreColumns (member-term l.p l.v) l.p.cells 1 l.a l.sums.items;
  ticks : l.steps ≡ l.initial.steps + start l.p.cells l.a;
}
