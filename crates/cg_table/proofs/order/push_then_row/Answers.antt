use Rattle.std.proofs.Common.{◌≡◌, ◌+◌, ◌-◌, ◌∙◌, arith, refl}
use Rattle.cg_table.specs.Formulas.{then_row_entry}
use Rattle.cg_table.specs.Table.{entry, row_entry}
use Rattle.cg_table.proofs.PlaceLemmas.{row_more}
use Rattle.cg_table.proofs.WithinLemmas.{sum-near, sum_of-more, cumulated_at}
use Rattle.cg_table.proofs.order.push_then_row.Goals as goal

pub plus-sum-requires-clause-left : goal.plus-sum-requires-clause-left
plus-sum-requires-clause-left g c = sum-near c.args.p.now c.args.a c.args.a (c.loop-b.b - c.args.a) c.loop-b.sum c.get.ensures.table (omega (arith, c.requires.reach)) (omega arith) c.loop-b.invariant.sum

pub times-requires-clause-left : goal.times-requires-clause-left
times-requires-clause-left g c =
    let next = c.plus-sum.ensures.value ∙ sum_of-more (entry c.args.p.now c.args.a) c.args.a c.loop-b.b c.loop-b.sum c.get.result (omega arith) c.loop-b.invariant.sum c.get.ensures.value in
    sum-near c.args.p.now c.args.a c.args.a (c.loop-b.b + 1 - c.args.a) c.plus-sum.result c.get.ensures.table (omega (arith, c.requires.reach)) (omega arith) next

pub loop-b-preserved : goal.loop-b-preserved
loop-b-preserved g c =
    let next = c.plus-sum.ensures.value ∙ sum_of-more (entry c.args.p.now c.args.a) c.args.a c.loop-b.b c.loop-b.sum c.get.result (omega arith) c.loop-b.invariant.sum c.get.ensures.value in
    let product : c.times.result ≡ then_row_entry (entry c.args.p.now) (row_entry c.args.w.now) c.args.a c.loop-b.b =
    c.times.ensures.value ∙ rw (cumulated_at (entry c.args.p.now) c.args.a c.loop-b.b c.plus-sum.result (omega arith) next, c.get-in-loop-b.ensures.entry) refl in
    record {
      front = c.in_ok-push.ensures.items ∙ row_more c.args.entries.now.items c.loop-b.entries.items (then_row_entry (entry c.args.p.now) (row_entry c.args.w.now) c.args.a) c.times.result c.args.a c.loop-b.b (omega arith) product c.loop-b.invariant.front;
      sum = next;
      ticks = omega arith;
    }
