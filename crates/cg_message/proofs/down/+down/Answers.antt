use Rattle.std.proofs.Common.{◌≡◌, ℕ, ◌*◌, ◌<◌, ◌≤◌, length, ◌||◌, refl, sym, subst, ap, ◌∙◌, arith}
use Rattle.std.proofs.Math.Bool.{or-false}
use Rattle.std.proofs.lemmas.Bool.{ne_eqb}
use Rattle.std.proofs.lemmas.Result.{IfOk-weaker}
use Rattle.cg_enc.specs.Enclosure.{exact_zero}
use Rattle.cg_model.specs.Group.{kind_in}
use Rattle.cg_table.specs.Table.{Table, entry}
use Rattle.cg_table.specs.Formulas.{identity_of}
use Rattle.cg_table.specs.Live.{identity_rows_of}
use Rattle.cg_context.specs.Formulas.{row_by, at_leaf_entry, at_member_entry, into_sequence_of}
use Rattle.cg_part.specs.Elements as part
use Rattle.cg_part.specs.Elements.{has, has_among, more, open_in}
use Rattle.cg_recipe.specs.Bounds.{nodes_in}
use Rattle.cg_recipe.specs.Recipe.{in_order, part_at, part_in_item, part_beside}
use Rattle.cg_message.specs.Ticks.{part_in_order_ticks, part_beside_ticks}
use Rattle.cg_message.specs.Element.{all_in, all_placed, element_in, placed_in}
use Rattle.cg_message.specs.Pass.{IsOnWay, nodes_among, pass_of}
use Rattle.cg_message.specs.Placed.{bare}
use Rattle.cg_message.proofs.AroundLemmas.{small_around, ticks-in_order, ticks-beside}
use Rattle.cg_message.proofs.DownLemmas.{length-row_by, weighed-row, order-row, beside-row, end-row, inside-row}
use Rattle.cg_message.proofs.ElementLemmas.{placed_in-Span, event-is, group-is, span-is, around-bare, no_event}
use Rattle.cg_message.proofs.WayLemmas.{way_around}
use Rattle.cg_message.proofs.ReachLemmas.{rows-bounded, item_room, sequence_room, phase_room, after_room, before_room, span_room}
use Rattle.cg_message.proofs.RoomLemmas.{ready_pass, group_small, span_small, own_beside, bounded_room, room_less}
use Rattle.cg_message.proofs.down.+down.Goals as goal

pub parts_at-weighed-requires-clause-cells : goal.parts_at-weighed-requires-clause-cells
parts_at-weighed-requires-clause-cells g t c = ap length c.in_ok-at_leaf-in-Event.ensures.value ∙ length-row_by c.args.x.cells (at_leaf_entry (entry c.args.x)) ∙ c.requires.room.each

pub parts_at-parts_beside-requires-in-After : goal.parts_at-parts_beside-requires-in-After
parts_at-parts_beside-requires-in-After g t c κs within =
    let items = c.items-items.result.now in
    let there = group-is c.args.e.now c.in-Group.kind c.in-Group.field-1 c.in-Group.elements items c.in-Group.is c.items-items.ensures.elements in
    let is = ap bare there in
    let fit = group_small (kind_in c.in-Group.kind) (all_in items) is c.requires.small in
    let has_it = sym (ap (has c.args.event) is) ∙ c.requires.has in
    let room = after_room c.args.pass.now.grid.cells (nodes_among (all_in items)) c.args.x c.in_ok-within_after-in-After.field-0 c.requires.ready.few (room_less (omega (arith, ap nodes_in is)) c.requires.room) c.in_ok-within_after-in-After.ensures in
    let way = subst (IsOnWay c.args.pass.now c.args.event) there c.requires.way in
    (omega (arith, c.decreases, ap nodes_in is), (within, (c.requires.ready, (fit, (way, (has_it, room))))))

pub parts_at-parts_beside-requires-in-Before : goal.parts_at-parts_beside-requires-in-Before
parts_at-parts_beside-requires-in-Before g t c κs within =
    let items = c.items-items.result.now in
    let there = group-is c.args.e.now c.in-Group.kind c.in-Group.field-1 c.in-Group.elements items c.in-Group.is c.items-items.ensures.elements in
    let is = ap bare there in
    let fit = group_small (kind_in c.in-Group.kind) (all_in items) is c.requires.small in
    let has_it = sym (ap (has c.args.event) is) ∙ c.requires.has in
    let room = before_room c.args.pass.now.grid.cells (nodes_among (all_in items)) c.args.x c.in_ok-within_before-in-Before.field-0 c.requires.ready.few (room_less (omega (arith, ap nodes_in is)) c.requires.room) c.in_ok-within_before-in-Before.ensures in
    let way = subst (IsOnWay c.args.pass.now c.args.event) there c.requires.way in
    (omega (arith, c.decreases, ap nodes_in is), (within, (c.requires.ready, (fit, (way, (has_it, room))))))

pub parts_at-at_end-requires-clause-cells : goal.parts_at-at_end-requires-clause-cells
parts_at-at_end-requires-clause-cells g t c =
    (own_beside (pass_of c.args.pass.now) (element_in c.args.e.now) c.args.x c.in_ok-span-in-Span.span (ready_pass c.args.pass.now c.requires.ready) c.requires.small c.requires.room c.in_ok-span-in-Span.ensures.value).cells

pub parts_at-at_end-requires-clause-reach : goal.parts_at-at_end-requires-clause-reach
parts_at-at_end-requires-clause-reach g t c =
    (own_beside (pass_of c.args.pass.now) (element_in c.args.e.now) c.args.x c.in_ok-span-in-Span.span (ready_pass c.args.pass.now c.requires.ready) c.requires.small c.requires.room c.in_ok-span-in-Span.ensures.value).near

pub parts_at-returns-then-event-closing-clause-value : goal.parts_at-returns-then-event-closing-clause-value
parts_at-returns-then-event-closing-clause-value g t c =
    let is = ap bare (ap placed_in c.in-Span.is ∙ placed_in-Span c.in-Span.elements c.in-Span.closing) in
    IfOk-weaker c.at_end.result _ _
    (λ r by_table. by_table ∙ end-row (pass_of c.args.pass.now) c.args.event c.in-Span.closing _ (element_in c.args.e.now) c.args.x c.in_ok-span-in-Span.span is c.if-event-closing.true c.requires.room.each c.in_ok-span-in-Span.ensures.value)
    c.at_end.ensures.value

pub parts_at-parts_in_order-requires-in-Span : goal.parts_at-parts_in_order-requires-in-Span
parts_at-parts_in_order-requires-in-Span g t c κs within =
    let items = c.items-items-in-Span.result.now in
    let there = span-is c.args.e.now c.in-Span.elements c.in-Span.closing items c.in-Span.is c.items-items-in-Span.ensures.elements in
    let is = ap bare there in
    let fit = span_small (all_in items) c.in-Span.closing is c.requires.small in
    let elsewhere = ne_eqb c.args.event c.in-Span.closing c.if-event-closing.false in
    let has_it = sym (or-false (has_among c.args.event (all_in items))) ∙ ap (λ b. has_among c.args.event (all_in items) || b) (sym elsewhere) ∙ sym (ap (has c.args.event) is) ∙ c.requires.has in
    let room = span_room c.args.pass.now.grid.cells (nodes_among (all_in items)) (all_in items) c.args.x c.in_ok-inner-in-Span.inner c.requires.ready.few fit.events (room_less (omega (arith, ap nodes_in is)) c.requires.room) c.in_ok-inner-in-Span.ensures.value in
    let way = (subst (IsOnWay c.args.pass.now c.args.event) there c.requires.way).1 c.if-event-closing.false in
    (omega (arith, c.decreases, ap nodes_in is), (within, (c.requires.ready, (fit, (way, (has_it, room))))))

pub parts_at-returns-in_ok-at_leaf-in-Event-clause-value : goal.parts_at-returns-in_ok-at_leaf-in-Event-clause-value
parts_at-returns-in_ok-at_leaf-in-Event-clause-value g t c =
    let pass = pass_of c.args.pass.now in
    let is = ap bare (event-is c.args.e.now c.in-Event.number c.in-Event.place c.in-Event.is) in
    IfOk-weaker c.weighed-in-Event.result _ _
    (λ r by_row. by_row
    ∙ weighed-row c.args.x.cells pass.cells (at_leaf_entry (entry c.args.x)) c.in_ok-at_leaf-in-Event.field-0 (pass.rows c.in-Event.number) c.requires.room.each c.in_ok-at_leaf-in-Event.ensures.value
    ∙ ap (λ e. row_by pass.cells (λ cell. part_at pass c.args.event cell e c.args.x)) (sym is))
    c.weighed-in-Event.ensures

pub parts_at-returns-in_ok-within_after-in-After-clause-value : goal.parts_at-returns-in_ok-within_after-in-After-clause-value
parts_at-returns-in_ok-within_after-in-After-clause-value g t c =
    let pass = pass_of c.args.pass.now in
    let items = c.items-items.result.now in
    let is = ap bare (group-is c.args.e.now c.in-Group.kind c.in-Group.field-1 c.in-Group.elements items c.in-Group.is c.items-items.ensures.elements) ∙ ap (λ kind. part.Group (kind_in kind) (all_in items)) c.in-After.is in
    let inner = ap (λ (y : Table). row_by pass.cells (λ cell. part_beside pass c.args.event cell (identity_of pass.cells) (all_in items) y)) c.in_ok-within_after-in-After.ensures in
    IfOk-weaker c.parts_beside-in-After.result _ _ (λ r by_members. by_members ∙ inner ∙ ap (λ e. row_by pass.cells (λ cell. part_at pass c.args.event cell e c.args.x)) (sym is)) c.parts_beside-in-After.ensures.value

pub parts_at-returns-in_ok-within_before-in-Before-clause-value : goal.parts_at-returns-in_ok-within_before-in-Before-clause-value
parts_at-returns-in_ok-within_before-in-Before-clause-value g t c =
    let pass = pass_of c.args.pass.now in
    let items = c.items-items.result.now in
    let is = ap bare (group-is c.args.e.now c.in-Group.kind c.in-Group.field-1 c.in-Group.elements items c.in-Group.is c.items-items.ensures.elements) ∙ ap (λ kind. part.Group (kind_in kind) (all_in items)) c.in-Before.is in
    let inner = ap (λ (y : Table). row_by pass.cells (λ cell. part_beside pass c.args.event cell (identity_of pass.cells) (all_in items) y)) c.in_ok-within_before-in-Before.ensures in
    IfOk-weaker c.parts_beside-in-Before.result _ _ (λ r by_members. by_members ∙ inner ∙ ap (λ e. row_by pass.cells (λ cell. part_at pass c.args.event cell e c.args.x)) (sym is)) c.parts_beside-in-Before.ensures.value

pub parts_at-returns-in_ok-inner-in-Span-clause-value : goal.parts_at-returns-in_ok-inner-in-Span-clause-value
parts_at-returns-in_ok-inner-in-Span-clause-value g t c =
    let items = c.items-items-in-Span.result.now in
    let there = span-is c.args.e.now c.in-Span.elements c.in-Span.closing items c.in-Span.is c.items-items-in-Span.ensures.elements in
    let is = ap bare there in
    IfOk-weaker c.parts_in_order-in-Span.result _ _
    (λ r by_items. by_items ∙ inside-row (pass_of c.args.pass.now) c.args.event c.in-Span.closing (all_in items) (element_in c.args.e.now) c.args.x c.in_ok-inner-in-Span.inner is c.if-event-closing.false c.in_ok-inner-in-Span.ensures.value)
    c.parts_in_order-in-Span.ensures.value

pub parts_beside-beside_others-requires-clause-earlier : goal.parts_beside-beside_others-requires-clause-earlier
parts_beside-beside_others-requires-clause-earlier g t c = (small_around (around-bare (all_placed c.args.items.now) (all_placed c.around.result.0.now) (all_placed c.around.result.2.now) (placed_in c.around.result.1.now) c.around.ensures.all) c.requires.small).before

pub parts_beside-beside_others-requires-clause-later : goal.parts_beside-beside_others-requires-clause-later
parts_beside-beside_others-requires-clause-later g t c = (small_around (around-bare (all_placed c.args.items.now) (all_placed c.around.result.0.now) (all_placed c.around.result.2.now) (placed_in c.around.result.1.now) c.around.ensures.all) c.requires.small).behind

pub parts_beside-beside_others-requires-clause-room : goal.parts_beside-beside_others-requires-clause-room
parts_beside-beside_others-requires-clause-room g t c =
    let fit = small_around (around-bare (all_placed c.args.items.now) (all_placed c.around.result.0.now) (all_placed c.around.result.2.now) (placed_in c.around.result.1.now) c.around.ensures.all) c.requires.small in
    room_less (omega (arith, fit.nodes)) c.requires.room

pub parts_beside-returns-in_err-inner-clause-ticks : goal.parts_beside-returns-in_err-inner-clause-ticks
parts_beside-returns-in_err-inner-clause-ticks g t c =
    let cells = c.args.pass.now.grid.cells in
    let ticks = ap (part_beside_ticks cells c.args.event) (around-bare (all_placed c.args.items.now) (all_placed c.around.result.0.now) (all_placed c.around.result.2.now) (placed_in c.around.result.1.now) c.around.ensures.all)
    ∙ ticks-beside cells c.args.event (all_in c.around.result.0.now) (all_in c.around.result.2.now) (element_in c.around.result.1.now) c.around.ensures.before c.around.ensures.own in
    omega (arith, ticks, c.beside_others.ensures.ticks)

pub parts_beside-parts_at-requires : goal.parts_beside-parts_at-requires
parts_beside-parts_at-requires g t c κs within =
    let around = way_around c.around.ensures.all c.requires.way c.around.ensures.before c.around.ensures.own in
    let fit = small_around (around-bare (all_placed c.args.items.now) (all_placed c.around.result.0.now) (all_placed c.around.result.2.now) (placed_in c.around.result.1.now) c.around.ensures.all) c.requires.small in
    let room = phase_room (pass_of c.args.pass.now) (all_in c.args.items.now) (all_in c.around.result.0.now) (element_in c.around.result.1.now) (all_in c.around.result.2.now) c.args.x c.in_ok-inner.inner
    (ready_pass c.args.pass.now c.requires.ready) fit c.requires.room c.in_ok-inner.ensures.value in
    (omega (arith, c.decreases, fit.nodes), (within, (c.requires.ready, (fit.own, (around.own, (c.around.ensures.own, room))))))

pub parts_beside-returns-clause-value : goal.parts_beside-returns-clause-value
parts_beside-returns-clause-value g t c =
    IfOk-weaker c.parts_at.result _ _
    (λ r by_member. by_member
    ∙ beside-row (pass_of c.args.pass.now) c.args.event (all_in c.args.items.now) (all_in c.around.result.0.now) (all_in c.around.result.2.now) (element_in c.around.result.1.now) c.args.x c.in_ok-inner.inner
    (around-bare (all_placed c.args.items.now) (all_placed c.around.result.0.now) (all_placed c.around.result.2.now) (placed_in c.around.result.1.now) c.around.ensures.all) c.around.ensures.before c.around.ensures.own c.in_ok-inner.ensures.value)
    c.parts_at.ensures.value

pub parts_beside-returns-clause-ticks : goal.parts_beside-returns-clause-ticks
parts_beside-returns-clause-ticks g t c =
    let cells = c.args.pass.now.grid.cells in
    let ticks = ap (part_beside_ticks cells c.args.event) (around-bare (all_placed c.args.items.now) (all_placed c.around.result.0.now) (all_placed c.around.result.2.now) (placed_in c.around.result.1.now) c.around.ensures.all)
    ∙ ticks-beside cells c.args.event (all_in c.around.result.0.now) (all_in c.around.result.2.now) (element_in c.around.result.1.now) c.around.ensures.before c.around.ensures.own in
    omega (arith, ticks, c.beside_others.ensures.ticks, c.parts_at.ensures.ticks)

pub parts_in_item-weighed-requires-clause-cells : goal.parts_in_item-weighed-requires-clause-cells
parts_in_item-weighed-requires-clause-cells g t c =
    ap length c.in_ok-at_member-in-Event.ensures.value ∙ length-row_by c.args.before.cells (at_member_entry (entry c.args.before) (entry c.args.v)) ∙ c.requires.room.first.each

pub parts_in_item-parts_at-requires : goal.parts_in_item-parts_at-requires
parts_in_item-parts_at-requires g t c κs within =
    let room = sequence_room c.args.pass.now.grid.cells (8 * nodes_in (element_in c.args.e.now)) c.args.before c.args.v c.in_ok-inner-in-Group.inner c.requires.ready.few c.requires.room c.in_ok-inner-in-Group.ensures.value in
    (omega (arith, c.decreases), (within, (c.requires.ready, (c.requires.small, (c.requires.way, (c.requires.has, room))))))

pub parts_in_item-returns-in_ok-at_member-in-Event-clause-value : goal.parts_in_item-returns-in_ok-at_member-in-Event-clause-value
parts_in_item-returns-in_ok-at_member-in-Event-clause-value g t c =
    let pass = pass_of c.args.pass.now in
    let is = ap bare (event-is c.args.e.now c.in-Event.number c.in-Event.place c.in-Event.is) in
    IfOk-weaker c.weighed-in-Event.result _ _
    (λ r by_row. by_row
    ∙ weighed-row c.args.before.cells pass.cells (at_member_entry (entry c.args.before) (entry c.args.v)) c.in_ok-at_member-in-Event.field-0 (pass.rows c.in-Event.number) c.requires.room.first.each
    c.in_ok-at_member-in-Event.ensures.value
    ∙ ap (λ e. row_by pass.cells (λ cell. part_in_item pass cell c.args.before c.args.v e (part_at pass c.args.event cell e (into_sequence_of c.args.before c.args.v)))) (sym is))
    c.weighed-in-Event.ensures

pub parts_in_item-returns-in_ok-inner-in-Group-clause-value : goal.parts_in_item-returns-in_ok-inner-in-Group-clause-value
parts_in_item-returns-in_ok-inner-in-Group-clause-value g t c =
    let pass = pass_of c.args.pass.now in
    let whole = no_event
    (λ p. row_by pass.cells (λ cell. part_at pass c.args.event cell (bare p) (into_sequence_of c.args.before c.args.v))
    ≡ row_by pass.cells (λ cell. part_in_item pass cell c.args.before c.args.v (bare p) (part_at pass c.args.event cell (bare p) (into_sequence_of c.args.before c.args.v))))
    c.args.e.now c.in-Group.is (λ kind place es. refl) (λ es closing. refl) in
    let inner = ap (λ (y : Table). row_by pass.cells (λ cell. part_at pass c.args.event cell (element_in c.args.e.now) y)) c.in_ok-inner-in-Group.ensures.value in
    IfOk-weaker c.parts_at.result _ _ (λ r by_item. by_item ∙ inner ∙ whole) c.parts_at.ensures.value

pub parts_in_order-in_order-requires-clause-small : goal.parts_in_order-in_order-requires-clause-small
parts_in_order-in_order-requires-clause-small g t c = (small_around (around-bare (all_placed c.args.items.now) (all_placed c.around.result.0.now) (all_placed c.around.result.2.now) (placed_in c.around.result.1.now) c.around.ensures.all) c.requires.small).before

pub parts_in_order-in_order-requires-clause-room : goal.parts_in_order-in_order-requires-clause-room
parts_in_order-in_order-requires-clause-room g t c =
    let fit = small_around (around-bare (all_placed c.args.items.now) (all_placed c.around.result.0.now) (all_placed c.around.result.2.now) (placed_in c.around.result.1.now) c.around.ensures.all) c.requires.small in
    let nothing = c.in_ok-nothing.ensures.value ∙ ap (λ cells. identity_rows_of cells c.live.result) c.cells.ensures in
    rw nothing (bounded_room (omega (arith, fit.before.events, fit.before.groups)) (rows-bounded c.args.pass.now.grid.cells c.live.result c.requires.ready.few))

pub parts_in_order-returns-in_err-before-clause-ticks : goal.parts_in_order-returns-in_err-before-clause-ticks
parts_in_order-returns-in_err-before-clause-ticks g t c =
    let cells = c.args.pass.now.grid.cells in
    let ticks = ap (part_in_order_ticks cells c.args.event) (around-bare (all_placed c.args.items.now) (all_placed c.around.result.0.now) (all_placed c.around.result.2.now) (placed_in c.around.result.1.now) c.around.ensures.all)
    ∙ ticks-in_order cells c.args.event (all_in c.around.result.0.now) (all_in c.around.result.2.now) (element_in c.around.result.1.now) c.around.ensures.before c.around.ensures.own in
    omega (arith, ticks, c.in_order.ensures.ticks)

pub parts_in_order-preceding_all-requires-clause-small : goal.parts_in_order-preceding_all-requires-clause-small
parts_in_order-preceding_all-requires-clause-small g t c = (small_around (around-bare (all_placed c.args.items.now) (all_placed c.around.result.0.now) (all_placed c.around.result.2.now) (placed_in c.around.result.1.now) c.around.ensures.all) c.requires.small).behind

pub parts_in_order-preceding_all-requires-clause-room : goal.parts_in_order-preceding_all-requires-clause-room
parts_in_order-preceding_all-requires-clause-room g t c =
    let fit = small_around (around-bare (all_placed c.args.items.now) (all_placed c.around.result.0.now) (all_placed c.around.result.2.now) (placed_in c.around.result.1.now) c.around.ensures.all) c.requires.small in
    room_less (omega (arith, fit.nodes)) c.requires.room

pub parts_in_order-returns-in_err-v-clause-ticks : goal.parts_in_order-returns-in_err-v-clause-ticks
parts_in_order-returns-in_err-v-clause-ticks g t c =
    let cells = c.args.pass.now.grid.cells in
    let ticks = ap (part_in_order_ticks cells c.args.event) (around-bare (all_placed c.args.items.now) (all_placed c.around.result.0.now) (all_placed c.around.result.2.now) (placed_in c.around.result.1.now) c.around.ensures.all)
    ∙ ticks-in_order cells c.args.event (all_in c.around.result.0.now) (all_in c.around.result.2.now) (element_in c.around.result.1.now) c.around.ensures.before c.around.ensures.own in
    omega (arith, ticks, c.in_order.ensures.ticks, c.preceding_all.ensures.ticks)

pub parts_in_order-parts_in_item-requires : goal.parts_in_order-parts_in_item-requires
parts_in_order-parts_in_item-requires g t c κs within =
    let around = way_around c.around.ensures.all c.requires.way c.around.ensures.before c.around.ensures.own in
    let pass = pass_of c.args.pass.now in
    let nothing = c.in_ok-nothing.ensures.value ∙ ap (λ cells. identity_rows_of cells c.live.result) c.cells.ensures in
    let before = c.in_ok-before.ensures.value ∙ ap (λ (t : Table). in_order pass t (all_in c.around.result.0.now)) nothing in
    let fit = small_around (around-bare (all_placed c.args.items.now) (all_placed c.around.result.0.now) (all_placed c.around.result.2.now) (placed_in c.around.result.1.now) c.around.ensures.all) c.requires.small in
    let room = item_room pass c.live.result (all_in c.args.items.now) (all_in c.around.result.0.now) (element_in c.around.result.1.now) (all_in c.around.result.2.now) c.args.x c.in_ok-before.before c.in_ok-v.v
    (ready_pass c.args.pass.now c.requires.ready) fit c.requires.room before c.in_ok-v.ensures.value in
    (omega (arith, c.decreases, fit.nodes), (within, (c.requires.ready, (fit.own, (around.own, (c.around.ensures.own, room))))))

pub parts_in_order-returns-clause-value : goal.parts_in_order-returns-clause-value
parts_in_order-returns-clause-value g t c =
    let pass = pass_of c.args.pass.now in
    let nothing = c.in_ok-nothing.ensures.value ∙ ap (λ cells. identity_rows_of cells c.live.result) c.cells.ensures in
    let before = c.in_ok-before.ensures.value ∙ ap (λ (t : Table). in_order pass t (all_in c.around.result.0.now)) nothing in
    let dead : (a b : ℕ) → c.live.result ≤ a → a ≤ b → b < pass.cells → entry c.args.x a b ≡ exact_zero =
    λ a b low le less. c.live.ensures.dead a b low le (omega (arith, less, c.requires.room.each)) in
    IfOk-weaker c.parts_in_item.result _ _
    (λ r by_item. by_item
    ∙ order-row pass c.args.event c.live.result (all_in c.args.items.now) (all_in c.around.result.0.now) (all_in c.around.result.2.now) (element_in c.around.result.1.now) c.args.x c.in_ok-before.before c.in_ok-v.v
    (around-bare (all_placed c.args.items.now) (all_placed c.around.result.0.now) (all_placed c.around.result.2.now) (placed_in c.around.result.1.now) c.around.ensures.all) c.around.ensures.before c.around.ensures.own c.requires.room.each dead before c.in_ok-v.ensures.value)
    c.parts_in_item.ensures.value

pub parts_in_order-returns-clause-ticks : goal.parts_in_order-returns-clause-ticks
parts_in_order-returns-clause-ticks g t c =
    let cells = c.args.pass.now.grid.cells in
    let ticks = ap (part_in_order_ticks cells c.args.event) (around-bare (all_placed c.args.items.now) (all_placed c.around.result.0.now) (all_placed c.around.result.2.now) (placed_in c.around.result.1.now) c.around.ensures.all)
    ∙ ticks-in_order cells c.args.event (all_in c.around.result.0.now) (all_in c.around.result.2.now) (element_in c.around.result.1.now) c.around.ensures.before c.around.ensures.own in
    omega (arith, ticks, c.in_order.ensures.ticks, c.preceding_all.ensures.ticks, c.parts_in_item.ensures.ticks)

pub parts_beside-beside_others-requires-clause-earlier_held : goal.parts_beside-beside_others-requires-clause-earlier_held
parts_beside-beside_others-requires-clause-earlier_held g t c = (way_around c.around.ensures.all c.requires.way c.around.ensures.before c.around.ensures.own).before

pub parts_beside-beside_others-requires-clause-later_held : goal.parts_beside-beside_others-requires-clause-later_held
parts_beside-beside_others-requires-clause-later_held g t c = (way_around c.around.ensures.all c.requires.way c.around.ensures.before c.around.ensures.own).behind

pub parts_in_order-in_order-requires-clause-held : goal.parts_in_order-in_order-requires-clause-held
parts_in_order-in_order-requires-clause-held g t c = (way_around c.around.ensures.all c.requires.way c.around.ensures.before c.around.ensures.own).before

pub parts_in_order-preceding_all-requires-clause-held : goal.parts_in_order-preceding_all-requires-clause-held
parts_in_order-preceding_all-requires-clause-held g t c = (way_around c.around.ensures.all c.requires.way c.around.ensures.before c.around.ensures.own).behind
