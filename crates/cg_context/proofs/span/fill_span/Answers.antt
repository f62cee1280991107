use Rattle.std.proofs.Common.{◌+◌, ◌-◌, ◌∙◌, arith}
use Rattle.cg_table.specs.Table.{entry}
use Rattle.cg_table.proofs.FormulaLemmas.{powers_count, power-near, read_power}
use Rattle.cg_context.specs.Formulas.{into_span_entry}
use Rattle.cg_context.proofs.CountdownLemmas.{countdown-sum, countdown-fallen}
use Rattle.cg_context.proofs.SpanLemmas.{span-term, span_term-near, span_sum-near, span_at}
use Rattle.cg_context.proofs.span.fill_span.Goals as goal

pub bounds-powers-b : goal.bounds-powers-b
bounds-powers-b g c = omega (arith, powers_count c.args.powers.now c.args.n c.args.x.now.cells c.requires.powers, c.cells-cells.ensures.value)

pub times-requires-clause-right : goal.times-requires-clause-right
times-requires-clause-right g c =
    let at = c.cells-cells.result - 1 - c.loop-i.i - c.args.a in
    let made = read_power c.args.powers.now c.args.n c.args.x.now.cells at c.index-powers-b.result c.requires.powers (omega (arith, c.cells-cells.ensures.value)) c.index-powers-b.is in
    power-near (at + 1) c.args.n c.index-powers-b.result (omega arith) (omega (arith, c.cells-cells.ensures.table.few, c.cells-cells.ensures.value)) (omega (arith, c.ranges.n.fits)) made

pub plus-sum-requires-clause-left : goal.plus-sum-requires-clause-left
plus-sum-requires-clause-left g c =
    span_sum-near c.args.x.now c.args.n c.args.a (c.args.x.now.cells - c.loop-i.i) c.loop-i.sum c.cells-cells.ensures.table c.requires.reach (omega (arith, c.ranges.n.fits)) c.loop-i.invariant.sum

pub plus-sum-requires-clause-right : goal.plus-sum-requires-clause-right
plus-sum-requires-clause-right g c =
    let term = span_at c.args.x.now c.args.n c.args.a c.cells-cells.result c.loop-i.i c.args.powers.now c.get.result c.index-powers-b.result c.times.result c.cells-cells.ensures.value (omega arith) c.requires.powers
    c.get.ensures.value c.index-powers-b.is c.times.ensures.value in
    span_term-near c.args.x.now c.args.n c.args.a (c.args.x.now.cells - 1 - c.loop-i.i) c.times.result c.cells-cells.ensures.table c.requires.reach (omega (arith, c.ranges.n.fits)) (omega (arith, c.requires.row)) term

pub loop-i-preserved : goal.loop-i-preserved
loop-i-preserved g c =
    let term = span_at c.args.x.now c.args.n c.args.a c.cells-cells.result c.loop-i.i c.args.powers.now c.get.result c.index-powers-b.result c.times.result c.cells-cells.ensures.value (omega arith) c.requires.powers
    c.get.ensures.value c.index-powers-b.is c.times.ensures.value in
    let x = c.args.x.now in
    let size = c.cells-cells.ensures.value in
    let f = into_span_entry x.cells (entry x) c.args.n c.args.a in
    let next = c.plus-sum.ensures.value ∙ countdown-sum x.cells c.loop-i.i (span-term x c.args.n c.args.a) c.loop-i.sum c.times.result (omega (arith, size)) c.loop-i.invariant.sum term in
    record {
      done = countdown-fallen f x.cells c.args.a c.args.base c.loop-i.i (c.args.base + (c.cells-cells.result - 1 - c.loop-i.i - c.args.a)) c.args.sums.now c.loop-i.sums c.plus-sum.result (omega (arith, size))
          (omega (arith, size)) (omega (arith, size, c.loop-i.invariant.done.width, c.requires.width)) next c.loop-i.invariant.done;
      sum = next;
      ticks = omega (arith, c.loop-i.invariant.ticks, c.tick.ensures);
    }
