use Rattle.cg_message.specs.Element.{element_in}
use Rattle.cg_message.specs.Pass.{pass_of}
use Rattle.cg_message.proofs.PassLemmas.{group-table}
use Rattle.cg_message.proofs.RoomLemmas.{ready_pass, own_beside}
use Rattle.cg_message.proofs.tables.with_beside.Goals as goal

pub beside-requires-clause-cells : goal.beside-requires-clause-cells
beside-requires-clause-cells g c =
    let e = c.args.e.now in
    let table = c.table.ensures (element_in e) (group-table e c.in-Group.field-0 c.in-Group.place c.in-Group.field-2 c.in-Group.is c.requires.held) in
    (own_beside (pass_of c.args.pass.now) (element_in e) c.args.others.now c.table.result.now (ready_pass c.args.pass.now c.requires.ready) c.requires.small c.requires.room table).cells

pub beside-requires-clause-reach : goal.beside-requires-clause-reach
beside-requires-clause-reach g c =
    let e = c.args.e.now in
    let table = c.table.ensures (element_in e) (group-table e c.in-Group.field-0 c.in-Group.place c.in-Group.field-2 c.in-Group.is c.requires.held) in
    (own_beside (pass_of c.args.pass.now) (element_in e) c.args.others.now c.table.result.now (ready_pass c.args.pass.now c.requires.ready) c.requires.small c.requires.room table).near

pub beside-requires-in-Event-clause-cells : goal.beside-requires-in-Event-clause-cells
beside-requires-in-Event-clause-cells g c =
    (own_beside (pass_of c.args.pass.now) (element_in c.args.e.now) c.args.others.now c.in_ok-table-in-Event.table (ready_pass c.args.pass.now c.requires.ready) c.requires.small c.requires.room c.in_ok-table-in-Event.ensures.value).cells

pub beside-requires-in-Event-clause-reach : goal.beside-requires-in-Event-clause-reach
beside-requires-in-Event-clause-reach g c =
    (own_beside (pass_of c.args.pass.now) (element_in c.args.e.now) c.args.others.now c.in_ok-table-in-Event.table (ready_pass c.args.pass.now c.requires.ready) c.requires.small c.requires.room c.in_ok-table-in-Event.ensures.value).near
