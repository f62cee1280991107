use Rattle.std.proofs.Common.{◌-◌, ◌*◌, ◌^◌, ◌∙◌, arith, ap₂}
use Rattle.std.proofs.lemmas.List.{get_or_default}
use Rattle.cg_enc.specs.Enclosure.{exact_zero}
use Rattle.cg_enc.specs.Rounding.{plus}
use Rattle.cg_table.specs.Table.{entry, table_loss, table_reach}
use Rattle.cg_table.proofs.WithinLemmas.{entry-within}
use Rattle.cg_context.proofs.ColumnLemmas.{columns-more, columns-near}
use Rattle.cg_context.proofs.cells.add_entries.Goals as goal

pub plus-requires-clause-left : goal.plus-requires-clause-left
plus-requires-clause-left c =
    let x = c.args.x.now in
    let v = c.cells-y-end.ensures.table in
    columns-near (entry x) x.cells (1 - c.args.passed) (table_loss x) (table_reach x * 2 ^ 31) c.args.a c.loop-y.y c.loop-y.y c.loop-y.sums _ c.loop-y.invariant
    (λ a i counts less. entry-within x a i v) (omega arith) (omega (arith, v.few, c.requires.reach)) (omega arith) (omega arith)
    (get_or_default c.loop-y.sums c.loop-y.y c.index-sums-y.result exact_zero (omega (arith, c.loop-y.invariant.width)))

pub loop-y-preserved : goal.loop-y-preserved
loop-y-preserved c =
    let x = c.args.x.now in
    columns-more (entry x) x.cells (1 - c.args.passed) c.args.a c.loop-y.y c.loop-y.sums c.plus.result (omega arith) (omega arith) c.loop-y.invariant
    (c.plus.ensures.value
    ∙ ap₂ plus (get_or_default c.loop-y.sums c.loop-y.y c.index-sums-y.result exact_zero (omega (arith, c.loop-y.invariant.width))) c.get.ensures.value)
