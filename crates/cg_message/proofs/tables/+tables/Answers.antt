use Rattle.std.proofs.Common.{◌≡◌, ◌+◌, ◌*◌, length, drop, sym, ap, ◌∙◌, subst, arith}
use Rattle.cg_table.specs.Formulas.{identity_of}
use Rattle.cg_table.specs.Losses.{greatest_reach}
use Rattle.cg_part.specs.Elements.{more, open_in}
use Rattle.cg_recipe.specs.Recipe.{in_order}
use Rattle.cg_recipe.specs.Bounds.{nodes_in}
use Rattle.cg_message.specs.Ticks.{ticks_of, in_order_ticks}
use Rattle.cg_message.specs.Placed as placed
use Rattle.cg_message.specs.Placed.{bare}
use Rattle.cg_message.specs.Element.{all_in, all_placed, element_in, placed_in}
use Rattle.cg_message.specs.Pass.{AreHeld, AreSmall, HasRoom, nodes_among, pass_of}
use Rattle.cg_message.proofs.ElementLemmas.{all_in-next, all_placed-next, event-is, span-is}
use Rattle.cg_message.proofs.PassLemmas.{group-table}
use Rattle.cg_message.proofs.TickLemmas.{halved}
use Rattle.cg_message.proofs.RoomLemmas.{ready_pass, first_small, later_small, span_small, room_less, own_beside, followed_room, in_order_near}
use Rattle.cg_message.proofs.tables.+tables.Goals as goal

pub followed-then_row-requires-clause-cells : goal.followed-then_row-requires-clause-cells
followed-then_row-requires-clause-cells g t c =
    c.requires.room.each ∙ sym (c.requires.ready.light.each c.in-Event.number) ∙ ap length (sym c.row.ensures)

pub followed-then_row-requires-clause-reach : goal.followed-then_row-requires-clause-reach
followed-then_row-requires-clause-reach g t c =
    let is = ap (λ e. nodes_in (bare e)) (event-is c.args.e.now c.in-Event.number c.in-Event.place c.in-Event.is) in
    omega (arith, is, c.requires.room.near, c.requires.ready.light.reach c.in-Event.number, ap greatest_reach c.row.ensures)

pub followed-then-requires-clause-cells : goal.followed-then-requires-clause-cells
followed-then-requires-clause-cells g t c =
    let e = c.args.e.now in
    let table = c.table.ensures (element_in e) (group-table e c.in-Group.field-0 c.in-Group.place c.in-Group.field-2 c.in-Group.is c.requires.held) in
    (own_beside (pass_of c.args.pass.now) (element_in e) c.args.before.now c.table.result.now (ready_pass c.args.pass.now c.requires.ready) c.requires.small c.requires.room table).cells

pub followed-then-requires-clause-reach : goal.followed-then-requires-clause-reach
followed-then-requires-clause-reach g t c =
    let e = c.args.e.now in
    let table = c.table.ensures (element_in e) (group-table e c.in-Group.field-0 c.in-Group.place c.in-Group.field-2 c.in-Group.is c.requires.held) in
    (own_beside (pass_of c.args.pass.now) (element_in e) c.args.before.now c.table.result.now (ready_pass c.args.pass.now c.requires.ready) c.requires.small c.requires.room table).near

pub followed-then-requires-in-Span-clause-cells : goal.followed-then-requires-in-Span-clause-cells
followed-then-requires-in-Span-clause-cells g t c =
    (own_beside (pass_of c.args.pass.now) (element_in c.args.e.now) c.args.before.now c.in_ok-table-in-Span.table (ready_pass c.args.pass.now c.requires.ready) c.requires.small c.requires.room c.in_ok-table-in-Span.ensures.value).cells

pub followed-then-requires-in-Span-clause-reach : goal.followed-then-requires-in-Span-clause-reach
followed-then-requires-in-Span-clause-reach g t c =
    (own_beside (pass_of c.args.pass.now) (element_in c.args.e.now) c.args.before.now c.in_ok-table-in-Span.table (ready_pass c.args.pass.now c.requires.ready) c.requires.small c.requires.room c.in_ok-table-in-Span.ensures.value).near

pub in_order-loop-e-preserved : goal.in_order-loop-e-preserved
in_order-loop-e-preserved g t c =
    let pass = pass_of c.args.pass.now in
    let cells = c.args.pass.now.grid.cells in
    let items = c.args.items.now in
    let place = c.loop-e.e-index in
    let e = element_in c.e-item.result in
    let later = all_in (drop (place + 1) items) in
    let before = c.loop-e.table in
    let here : all_in (drop place items) ≡ more e later = all_in-next items place c.e-item.result c.loop-e-test.true c.e-item.is in
    let there : all_placed (drop place items) ≡ placed.more (placed_in c.e-item.result) (all_placed (drop (place + 1) items)) =
    all_placed-next items place c.e-item.result c.loop-e-test.true c.e-item.is in
    let small = subst AreSmall here c.loop-e.invariant.small in
    let room = subst (λ es. HasRoom cells (8 * nodes_among es) before) here c.loop-e.invariant.room in
    record {
      value = rw c.in_ok-table.ensures.value (ap (in_order pass before) (sym here) ∙ c.loop-e.invariant.value);
      ticks = omega (arith, c.loop-e.invariant.ticks, c.followed.ensures.ticks, ap (in_order_ticks cells) here);
      small = later_small small;
      held = (subst (AreHeld c.args.pass.now) there c.loop-e.invariant.held).1;
      room = subst (HasRoom cells (8 * nodes_among later)) (sym c.in_ok-table.ensures.value)
          (followed_room pass (8 * nodes_among later) before e (ready_pass c.args.pass.now c.requires.ready) (first_small small) (room_less (omega arith) room));
    }

pub table_of-spanned-requires : goal.table_of-spanned-requires
table_of-spanned-requires g t c =
    let items = c.items-items.result.now in
    let is = ap bare (span-is c.args.e.now c.in-Span.elements c.in-Span.field-1 items c.in-Span.is c.items-items.ensures.elements) in
    let small = span_small (all_in items) c.in-Span.field-1 is c.requires.small in
    let near = in_order_near (pass_of c.args.pass.now) (all_in items) c.in_ok-nothing-in-Span.nothing _ (ready_pass c.args.pass.now c.requires.ready) small
    (c.in_ok-nothing-in-Span.ensures.value ∙ ap identity_of c.cells.ensures) c.in_ok-segment-in-Span.ensures.value in
    omega (arith, near.reached, small.events, small.groups)

pub table_of-returns-in_ok-segment-in-Span-clause-ticks : goal.table_of-returns-in_ok-segment-in-Span-clause-ticks
table_of-returns-in_ok-segment-in-Span-clause-ticks g t c =
    let cells = c.args.pass.now.grid.cells in
    let items = c.items-items.result.now in
    let is = ap bare (span-is c.args.e.now c.in-Span.elements c.in-Span.field-1 items c.in-Span.is c.items-items.ensures.elements) in
    let small = span_small (all_in items) c.in-Span.field-1 is c.requires.small in
    let near = in_order_near (pass_of c.args.pass.now) (all_in items) c.in_ok-nothing-in-Span.nothing _ (ready_pass c.args.pass.now c.requires.ready) small
    (c.in_ok-nothing-in-Span.ensures.value ∙ ap identity_of c.cells.ensures) c.in_ok-segment-in-Span.ensures.value in
    let at_most = rw (near.each, c.open_in.ensures) at c.spanned.ensures.at_most in
    omega (arith, halved _ _ (cells * (cells + 1)) (cells * open_in (all_in items)) at_most, c.in_order.ensures.ticks, ap (ticks_of cells) is)
