use Rattle.std.proofs.Common.{◌≡◌, ◌+◌, ◌-◌}
use Rattle.cg_table.specs.Sums.{sum_of}
use Rattle.cg_table.specs.Table.{entry}
use Rattle.cg_context.proofs.ColumnLemmas.{AreColumnsTo}
use Rattle.cg_context.proofs.MemberLemmas.{member-term}
use Rattle.cg_context.proofs.member.add_member.Given as goal

abbrev pub invariant-loop-y : goal.invariant-loop-y
invariant-loop-y g l = record {
  sums : AreColumnsTo (member-term l.p l.v) l.p.cells 1 l.a l.y l.sums;
  reached : l.reached ≡ sum_of (entry l.p l.a) l.a (l.y - l.a);
  ticks : l.steps ≡ l.initial.steps + (l.y - l.a);
}
