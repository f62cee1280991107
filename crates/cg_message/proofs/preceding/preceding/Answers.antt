use Rattle.std.proofs.Common.{length, sym, ap, ◌∙◌, arith}
use Rattle.cg_table.specs.Losses.{greatest_reach}
use Rattle.cg_recipe.specs.Bounds.{nodes_in}
use Rattle.cg_message.specs.Element.{element_in}
use Rattle.cg_message.specs.Pass.{pass_of}
use Rattle.cg_message.specs.Placed.{bare}
use Rattle.cg_message.proofs.ElementLemmas.{event-is}
use Rattle.cg_message.proofs.PassLemmas.{group-table}
use Rattle.cg_message.proofs.RoomLemmas.{ready_pass, own_beside}
use Rattle.cg_message.proofs.preceding.preceding.Goals as goal

pub back_row-requires-clause-cells : goal.back_row-requires-clause-cells
back_row-requires-clause-cells g c = c.requires.room.each ∙ sym (c.requires.ready.light.each c.in-Event.number) ∙ ap length (sym c.row.ensures)

pub back_row-requires-clause-reach : goal.back_row-requires-clause-reach
back_row-requires-clause-reach g c =
    let is = ap (λ e. nodes_in (bare e)) (event-is c.args.e.now c.in-Event.number c.in-Event.place c.in-Event.is) in
    omega (arith, is, c.requires.room.near, c.requires.ready.light.reach c.in-Event.number, ap greatest_reach c.row.ensures)

pub back-requires-clause-cells : goal.back-requires-clause-cells
back-requires-clause-cells g c =
    let e = c.args.e.now in
    let table = c.table.ensures (element_in e) (group-table e c.in-Group.field-0 c.in-Group.place c.in-Group.field-2 c.in-Group.is c.requires.held) in
    (own_beside (pass_of c.args.pass.now) (element_in e) c.args.v.now c.table.result.now (ready_pass c.args.pass.now c.requires.ready) c.requires.small c.requires.room table).cells

pub back-requires-clause-reach : goal.back-requires-clause-reach
back-requires-clause-reach g c =
    let e = c.args.e.now in
    let table = c.table.ensures (element_in e) (group-table e c.in-Group.field-0 c.in-Group.place c.in-Group.field-2 c.in-Group.is c.requires.held) in
    (own_beside (pass_of c.args.pass.now) (element_in e) c.args.v.now c.table.result.now (ready_pass c.args.pass.now c.requires.ready) c.requires.small c.requires.room table).near

pub back-requires-in-Span-clause-cells : goal.back-requires-in-Span-clause-cells
back-requires-in-Span-clause-cells g c =
    (own_beside (pass_of c.args.pass.now) (element_in c.args.e.now) c.args.v.now c.in_ok-table-in-Span.table (ready_pass c.args.pass.now c.requires.ready) c.requires.small c.requires.room c.in_ok-table-in-Span.ensures.value).cells

pub back-requires-in-Span-clause-reach : goal.back-requires-in-Span-clause-reach
back-requires-in-Span-clause-reach g c =
    (own_beside (pass_of c.args.pass.now) (element_in c.args.e.now) c.args.v.now c.in_ok-table-in-Span.table (ready_pass c.args.pass.now c.requires.ready) c.requires.small c.requires.room c.in_ok-table-in-Span.ensures.value).near
