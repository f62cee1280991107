use Rattle.std.proofs.Common.{◌≡◌, ◌+◌, ◌-◌, ◌∙◌, arith, refl}
use Rattle.cg_table.specs.Formulas.{spanned_entry}
use Rattle.cg_table.specs.Table.{entry}
use Rattle.cg_table.proofs.FormulaLemmas.{read_power, powers_count, power-near}
use Rattle.cg_table.proofs.PlaceLemmas.{row_more}
use Rattle.cg_table.proofs.WithinLemmas.{sum-near, sum_of-more, cumulated_at}
use Rattle.cg_table.proofs.span.push_spanned.Goals as goal

pub plus-sum-requires-clause-left : goal.plus-sum-requires-clause-left
plus-sum-requires-clause-left g c = sum-near c.args.m.now c.args.a c.args.a (c.loop-b.b - c.args.a) c.loop-b.sum c.get.ensures.table c.requires.reach (omega arith) c.loop-b.invariant.sum

pub bounds-powers-b : goal.bounds-powers-b
bounds-powers-b g c = omega (arith, powers_count c.args.powers.now c.args.n c.args.m.now.cells c.requires.powers)

pub times-requires-clause-left : goal.times-requires-clause-left
times-requires-clause-left g c =
    let next = c.plus-sum.ensures.value ∙ sum_of-more (entry c.args.m.now c.args.a) c.args.a c.loop-b.b c.loop-b.sum c.get.result (omega arith) c.loop-b.invariant.sum c.get.ensures.value in
    sum-near c.args.m.now c.args.a c.args.a (c.loop-b.b + 1 - c.args.a) c.plus-sum.result c.get.ensures.table c.requires.reach (omega arith) next

pub times-requires-clause-right : goal.times-requires-clause-right
times-requires-clause-right g c =
    let made = read_power c.args.powers.now c.args.n c.args.m.now.cells (c.loop-b.b - c.args.a) c.index-powers-b.result c.requires.powers (omega arith) c.index-powers-b.is in
    power-near (c.loop-b.b - c.args.a + 1) c.args.n c.index-powers-b.result (omega arith) (omega (arith, c.get.ensures.table.few)) (omega arith) made

pub loop-b-preserved : goal.loop-b-preserved
loop-b-preserved g c =
    let next = c.plus-sum.ensures.value ∙ sum_of-more (entry c.args.m.now c.args.a) c.args.a c.loop-b.b c.loop-b.sum c.get.result (omega arith) c.loop-b.invariant.sum c.get.ensures.value in
    let made = read_power c.args.powers.now c.args.n c.args.m.now.cells (c.loop-b.b - c.args.a) c.index-powers-b.result c.requires.powers (omega arith) c.index-powers-b.is in
    let product : c.times.result ≡ spanned_entry (entry c.args.m.now) c.args.n c.args.a c.loop-b.b =
    c.times.ensures.value ∙ rw (cumulated_at (entry c.args.m.now) c.args.a c.loop-b.b c.plus-sum.result (omega arith) next, made) refl in
    record {
      front = c.in_ok-push.ensures.items ∙ row_more c.args.entries.now.items c.loop-b.entries.items (spanned_entry (entry c.args.m.now) c.args.n c.args.a) c.times.result c.args.a c.loop-b.b (omega arith) product c.loop-b.invariant.front;
      sum = next;
      ticks = omega arith;
    }
