use Rattle.std.proofs.Common.{ℕ, length, ap, ap₂, ◌∙◌, arith}
use Rattle.cg_enc.specs.Rounding.{times}
use Rattle.cg_table.specs.Table.{row_entry}
use Rattle.cg_message.specs.Pass.{pass_of}
use Rattle.cg_message.proofs.DownLemmas.{cells_more, part-near}
use Rattle.cg_message.proofs.down.weighed.Goals as goal

pub push-requires : goal.push-requires
push-requires c =
    let light = c.requires.ready.light in
    part-near c.args.row.now ((pass_of c.args.pass.now).rows c.args.number) c.loop-cell.cell c.get.result c.get-in-loop-cell.result c.times-part.result c.len-cell-end.ensures.entries (light.entries c.args.number) c.requires.near
    (light.reach c.args.number) c.get.ensures.entry (c.get-in-loop-cell.ensures.entry ∙ ap (λ w. row_entry w c.loop-cell.cell) c.row-weights.ensures) c.times-part.ensures.value

pub loop-cell-preserved : goal.loop-cell-preserved
loop-cell-preserved c =
    let f = λ (cell : ℕ). times (row_entry c.args.row.now cell) (row_entry ((pass_of c.args.pass.now).rows c.args.number) cell) in
    let weight = c.get-in-loop-cell.ensures.entry ∙ ap (λ w. row_entry w c.loop-cell.cell) c.row-weights.ensures in
    c.in_ok-push.ensures.ok
    ∙ cells_more f c.loop-cell.cell c.loop-cell.parts c.times-part.result (c.times-part.ensures.value ∙ ap₂ (λ a b. times a b) c.get.ensures.entry weight) c.loop-cell.invariant

pub get-requires-in-loop-cell : goal.get-requires-in-loop-cell
get-requires-in-loop-cell c =
    omega (arith, ap length c.row-weights.ensures, c.requires.ready.light.each c.args.number, c.len-cell-end.ensures.cells, c.requires.cells)
