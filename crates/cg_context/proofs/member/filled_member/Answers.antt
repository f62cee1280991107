use Rattle.std.proofs.Common.{◌≡◌, ◌+◌, ◌*◌, ◌^◌, ◌∙◌, arith}
use Rattle.std.proofs.lemmas.Result.{IfOk-weaker}
use Rattle.cg_table.specs.Table.{entry, table_loss, table_reach}
use Rattle.cg_context.specs.Formulas.{at_member_entry, row_by}
use Rattle.cg_context.proofs.CallLemmas.{at_member-within}
use Rattle.cg_context.proofs.MemberLemmas.{member-whole}
use Rattle.cg_context.proofs.RowLemmas.{row-near}
use Rattle.cg_context.proofs.TermLemmas.{entries-within}
use Rattle.cg_context.proofs.member.filled_member.Goals as goal

pub row_of-requires : goal.row_of-requires
row_of-requires g c =
    let p = c.args.p.now in
    let v = c.args.v.now in
    let h = c.live.ensures.table in
    let h' = c.live-2.ensures.table in
    row-near c.loop-a.sums.items p.cells (at_member_entry (entry p) (entry v)) (table_loss p + table_loss v + 6 * p.cells + 3) (table_reach p * 2 ^ 31 + table_reach v * 2 ^ 31 + 2 * p.cells + 63)
    (λ y less. at_member-within (entry p) (entry v) (table_loss p) (table_reach p * 2 ^ 31) (table_loss v) (table_reach v * 2 ^ 31) p.cells y (entries-within p h) (entries-within v h') less)
    (omega (arith, h.few, c.requires.reach))
    (member-whole p v c.live.result c.live-2.result c.loop-a.a c.loop-a.sums.items h h' c.requires.cells (omega arith) c.live.ensures.dead c.live-2.ensures.dead c.loop-a.invariant.sums)

pub returns-clause-value : goal.returns-clause-value
returns-clause-value g c =
    let p = c.args.p.now in
    let v = c.args.v.now in
    IfOk-weaker _ (λ r. r ≡ c.loop-a.sums.items) (λ r. r ≡ row_by p.cells (at_member_entry (entry p) (entry v)))
    (λ r is. is ∙ member-whole p v c.live.result c.live-2.result c.loop-a.a c.loop-a.sums.items c.live.ensures.table c.live-2.ensures.table c.requires.cells (omega arith) c.live.ensures.dead c.live-2.ensures.dead c.loop-a.invariant.sums)
    c.row_of.ensures
