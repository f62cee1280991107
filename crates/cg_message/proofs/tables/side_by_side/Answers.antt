use Rattle.std.proofs.Common.{◌≡◌, ◌+◌, ◌*◌, drop, sym, ap, ◌∙◌, subst, arith}
use Rattle.cg_part.specs.Elements.{more}
use Rattle.cg_recipe.specs.Recipe.{side_by_side}
use Rattle.cg_message.specs.Element.{all_in, all_placed, element_in, placed_in}
use Rattle.cg_message.specs.Pass.{AreHeld, AreSmall, HasRoom, nodes_among, pass_of}
use Rattle.cg_message.specs.Placed as placed
use Rattle.cg_message.specs.Ticks.{side_by_side_ticks}
use Rattle.cg_message.proofs.ElementLemmas.{all_in-next, all_placed-next}
use Rattle.cg_message.proofs.RoomLemmas.{ready_pass, first_small, later_small, room_less, beside_room}
use Rattle.cg_message.proofs.tables.side_by_side.Goals as goal

pub with_beside-requires-clause-small : goal.with_beside-requires-clause-small
with_beside-requires-clause-small g c =
    let here = all_in-next c.args.items.now c.loop-e.e-index c.e-item.result c.loop-e-test.true c.e-item.is in
    first_small (subst AreSmall here c.loop-e.invariant.small)

pub with_beside-requires-clause-held : goal.with_beside-requires-clause-held
with_beside-requires-clause-held g c =
    let here = all_placed-next c.args.items.now c.loop-e.e-index c.e-item.result c.loop-e-test.true c.e-item.is in
    (subst (AreHeld c.args.pass.now) here c.loop-e.invariant.held).0

pub with_beside-requires-clause-room : goal.with_beside-requires-clause-room
with_beside-requires-clause-room g c =
    let here = all_in-next c.args.items.now c.loop-e.e-index c.e-item.result c.loop-e-test.true c.e-item.is in
    room_less (omega (arith, ap nodes_among here)) c.loop-e.invariant.room

pub loop-e-preserved : goal.loop-e-preserved
loop-e-preserved g c =
    let pass = pass_of c.args.pass.now in
    let cells = c.args.pass.now.grid.cells in
    let items = c.args.items.now in
    let place = c.loop-e.e-index in
    let e = element_in c.e-item.result in
    let later = all_in (drop (place + 1) items) in
    let others = c.loop-e.table in
    let here : all_in (drop place items) ≡ more e later = all_in-next items place c.e-item.result c.loop-e-test.true c.e-item.is in
    let there : all_placed (drop place items) ≡ placed.more (placed_in c.e-item.result) (all_placed (drop (place + 1) items)) =
    all_placed-next items place c.e-item.result c.loop-e-test.true c.e-item.is in
    let small = subst AreSmall here c.loop-e.invariant.small in
    let room = subst (λ es. HasRoom cells (8 * nodes_among es) others) here c.loop-e.invariant.room in
    record {
      value = rw c.in_ok-table.ensures.value (ap (side_by_side pass others) (sym here) ∙ c.loop-e.invariant.value);
      ticks = omega (arith, c.loop-e.invariant.ticks, c.with_beside.ensures.ticks, ap (side_by_side_ticks cells) here);
      small = later_small small;
      held = (subst (AreHeld c.args.pass.now) there c.loop-e.invariant.held).1;
      room = subst (HasRoom cells (8 * nodes_among later)) (sym c.in_ok-table.ensures.value)
          (beside_room pass (8 * nodes_among later) others e (ready_pass c.args.pass.now c.requires.ready) (first_small small) (room_less (omega arith) room));
    }
