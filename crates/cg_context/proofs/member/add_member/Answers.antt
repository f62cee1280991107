use Rattle.std.proofs.Common.{◌+◌, ◌-◌, ◌*◌, ◌^◌, ◌∙◌, arith, ap₂}
use Rattle.std.proofs.lemmas.List.{get_or_default}
use Rattle.cg_enc.specs.Enclosure.{exact_zero}
use Rattle.cg_enc.specs.Rounding.{plus, times}
use Rattle.cg_table.specs.Table.{entry, table_loss, table_reach}
use Rattle.cg_table.proofs.WithinLemmas.{sum-near, sum_of-more, cumulated_at}
use Rattle.cg_context.proofs.ColumnLemmas.{columns-more, columns-near}
use Rattle.cg_context.proofs.MemberLemmas.{member-term, member_terms-within, member_term-near}
use Rattle.cg_context.proofs.member.add_member.Goals as goal

pub plus-reached-requires-clause-left : goal.plus-reached-requires-clause-left
plus-reached-requires-clause-left g c =
    sum-near c.args.p.now c.args.a c.args.a (c.loop-y.y - c.args.a) c.loop-y.reached c.get.ensures.table (omega (arith, c.requires.reach)) (omega arith) c.loop-y.invariant.reached

pub times-requires-clause-left : goal.times-requires-clause-left
times-requires-clause-left g c =
    let p = c.args.p.now in
    let reached = c.plus-reached.ensures.value ∙ sum_of-more (entry p c.args.a) c.args.a c.loop-y.y c.loop-y.reached c.get.result (omega arith) c.loop-y.invariant.reached c.get.ensures.value in
    sum-near p c.args.a c.args.a (c.loop-y.y + 1 - c.args.a) c.plus-reached.result c.get.ensures.table (omega (arith, c.requires.reach)) (omega arith) reached

pub plus-requires-clause-left : goal.plus-requires-clause-left
plus-requires-clause-left g c =
    let p = c.args.p.now in
    let v = c.args.v.now in
    columns-near (member-term p v) p.cells 1 (table_loss p + 3 * p.cells + table_loss v + 3) (table_reach p * 2 ^ 31 + p.cells + table_reach v * 2 ^ 31 + 63) c.args.a c.loop-y.y c.loop-y.y c.loop-y.sums _ c.loop-y.invariant.sums
    (member_terms-within p v c.get.ensures.table c.get-in-loop-y.ensures.table) (omega arith) (omega (arith, c.get.ensures.table.few, c.requires.reach)) (omega arith) (omega arith)
    (get_or_default c.loop-y.sums c.loop-y.y c.index-sums-y.result exact_zero (omega (arith, c.loop-y.invariant.sums.width)))

pub plus-requires-clause-right : goal.plus-requires-clause-right
plus-requires-clause-right g c =
    let p = c.args.p.now in
    let reached = c.plus-reached.ensures.value ∙ sum_of-more (entry p c.args.a) c.args.a c.loop-y.y c.loop-y.reached c.get.result (omega arith) c.loop-y.invariant.reached c.get.ensures.value in
    member_term-near p c.args.v.now c.args.a c.loop-y.y c.times.result c.get.ensures.table c.get-in-loop-y.ensures.table c.requires.reach (omega arith) (omega arith)
    (c.times.ensures.value ∙ ap₂ times (cumulated_at (entry p) c.args.a c.loop-y.y c.plus-reached.result (omega arith) reached) c.get-in-loop-y.ensures.value)

pub loop-y-preserved : goal.loop-y-preserved
loop-y-preserved g c =
    let p = c.args.p.now in
    let v = c.args.v.now in
    let reached = c.plus-reached.ensures.value ∙ sum_of-more (entry p c.args.a) c.args.a c.loop-y.y c.loop-y.reached c.get.result (omega arith) c.loop-y.invariant.reached c.get.ensures.value in
    record {
      sums = columns-more (member-term p v) p.cells 1 c.args.a c.loop-y.y c.loop-y.sums c.plus.result (omega arith) (omega arith) c.loop-y.invariant.sums
          (c.plus.ensures.value
          ∙ ap₂ plus (get_or_default c.loop-y.sums c.loop-y.y c.index-sums-y.result exact_zero (omega (arith, c.loop-y.invariant.sums.width)))
          (c.times.ensures.value ∙ ap₂ times (cumulated_at (entry p) c.args.a c.loop-y.y c.plus-reached.result (omega arith) reached) c.get-in-loop-y.ensures.value));
      reached = reached;
      ticks = omega (arith, c.loop-y.invariant.ticks);
    }
