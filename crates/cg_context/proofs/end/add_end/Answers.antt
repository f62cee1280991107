use Rattle.std.proofs.Common.{◌+◌, ◌*◌, ◌^◌, ◌∙◌, arith, ap₂}
use Rattle.std.proofs.lemmas.List.{get_or_default}
use Rattle.cg_enc.specs.Enclosure.{exact_zero}
use Rattle.cg_enc.specs.Rounding.{plus, times}
use Rattle.cg_table.specs.Table.{entry, table_loss, table_reach}
use Rattle.cg_context.proofs.ColumnLemmas.{columns-more, columns-near}
use Rattle.cg_context.proofs.TermLemmas.{product-within, within-near}
use Rattle.cg_context.proofs.end.add_end.Goals as goal

pub plus-requires-clause-left : goal.plus-requires-clause-left
plus-requires-clause-left g c =
    let x = c.args.x.now in
    let k = c.args.k.now in
    let v = c.get.ensures.table in
    columns-near (λ b y. times (entry x b y) (entry k b y)) x.cells 1 (table_loss x + table_loss k + 3) (table_reach x * 2 ^ 31 + table_reach k * 2 ^ 31 + 63) c.args.a c.loop-y.y c.loop-y.y c.loop-y.sums _ c.loop-y.invariant.sums
    (λ a i counts less. product-within x k a i a i v c.get-in-loop-y.ensures.table) (omega arith) (omega (arith, v.few, c.requires.reach)) (omega arith) (omega arith)
    (get_or_default c.loop-y.sums c.loop-y.y c.index-sums-y.result exact_zero (omega (arith, c.loop-y.invariant.sums.width)))

pub plus-requires-clause-right : goal.plus-requires-clause-right
plus-requires-clause-right g c =
    let x = c.args.x.now in
    let k = c.args.k.now in
    within-near c.times.result (times (entry x c.args.a c.loop-y.y) (entry k c.args.a c.loop-y.y)) (table_loss x + table_loss k + 3) (table_reach x * 2 ^ 31 + table_reach k * 2 ^ 31 + 63) (2 ^ 60)
    (product-within x k c.args.a c.loop-y.y c.args.a c.loop-y.y c.get.ensures.table c.get-in-loop-y.ensures.table) (omega (arith, c.requires.reach))
    (c.times.ensures.value ∙ ap₂ times c.get.ensures.value c.get-in-loop-y.ensures.value)

pub loop-y-preserved : goal.loop-y-preserved
loop-y-preserved g c =
    let x = c.args.x.now in
    let k = c.args.k.now in
    record {
      sums = columns-more (λ b y. times (entry x b y) (entry k b y)) x.cells 1 c.args.a c.loop-y.y c.loop-y.sums c.plus.result (omega arith) (omega arith) c.loop-y.invariant.sums
          (c.plus.ensures.value
          ∙ ap₂ plus (get_or_default c.loop-y.sums c.loop-y.y c.index-sums-y.result exact_zero (omega (arith, c.loop-y.invariant.sums.width)))
          (c.times.ensures.value ∙ ap₂ times c.get.ensures.value c.get-in-loop-y.ensures.value));
      ticks = omega (arith, c.loop-y.invariant.ticks);
    }
