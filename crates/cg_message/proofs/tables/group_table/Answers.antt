use Rattle.std.proofs.Common.{ap, ◌∙◌, arith}
use Rattle.cg_table.specs.Formulas.{identity_of}
use Rattle.cg_model.specs.Group.{kind_in}
use Rattle.cg_message.specs.Element.{all_in}
use Rattle.cg_message.specs.Pass.{pass_of}
use Rattle.cg_message.specs.Placed.{bare}
use Rattle.cg_message.proofs.ElementLemmas.{group-is}
use Rattle.cg_message.proofs.RoomLemmas.{ready_pass, group_small, side_by_side_near}
use Rattle.cg_message.proofs.tables.group_table.Goals as goal

pub after_group-requires : goal.after_group-requires
after_group-requires g c =
    let items = c.items-items.result.now in
    let is = ap bare (group-is c.args.e.now c.in-Group.kind c.in-Group.field-1 c.in-Group.elements items c.in-Group.is c.items-items.ensures.elements) in
    let small = group_small (kind_in c.in-Group.kind) (all_in items) is c.requires.small in
    let near = side_by_side_near (pass_of c.args.pass.now) (all_in items) c.in_ok-nothing-in-Group.nothing _ (ready_pass c.args.pass.now c.requires.ready) small
    (c.in_ok-nothing-in-Group.ensures.value ∙ ap identity_of c.cells.ensures) c.in_ok-side_by_side-in-After.ensures.value in
    omega (arith, near.reached, small.events, small.groups)

pub before_group-requires : goal.before_group-requires
before_group-requires g c =
    let items = c.items-items.result.now in
    let is = ap bare (group-is c.args.e.now c.in-Group.kind c.in-Group.field-1 c.in-Group.elements items c.in-Group.is c.items-items.ensures.elements) in
    let small = group_small (kind_in c.in-Group.kind) (all_in items) is c.requires.small in
    let near = side_by_side_near (pass_of c.args.pass.now) (all_in items) c.in_ok-nothing-in-Group.nothing _ (ready_pass c.args.pass.now c.requires.ready) small
    (c.in_ok-nothing-in-Group.ensures.value ∙ ap identity_of c.cells.ensures) c.in_ok-side_by_side-in-Before.ensures.value in
    omega (arith, near.reached, small.events, small.groups)
