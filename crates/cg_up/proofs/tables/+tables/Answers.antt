use Rattle.std.proofs.Common.{◌≡◌, ◌+◌, ◌*◌, length, drop, sym, ap, ◌∙◌, subst, arith}
use Rattle.cg_table.specs.Formulas.{identity_of, beside_of}
use Rattle.cg_model.specs.Group.{kind_in}
use Rattle.cg_part.specs.Elements.{Group, Span, more, open_in}
use Rattle.cg_recipe.specs.Recipe.{table_of, in_order, side_by_side}
use Rattle.cg_recipe.specs.Ticks.{ticks_of, in_order_ticks, side_by_side_ticks}
use Rattle.cg_up.specs.Element.{all_in, element_in}
use Rattle.cg_up.specs.Pass.{AreFit, HasRoom, nodes_among, pass_of}
use Rattle.cg_up.proofs.ElementLemmas.{all_in-next, element_in-Group, element_in-Span}
use Rattle.cg_up.proofs.TickLemmas.{halved}
use Rattle.cg_up.proofs.RoomLemmas.{ready_pass, first_fit, later_fit, group_fit, span_fit, room_less, own_beside, followed_room, beside_room, in_order_near, side_by_side_near}
use Rattle.cg_up.proofs.tables.+tables.Goals as goal

pub followed-then-requires-clause-cells : goal.followed-then-requires-clause-cells
followed-then-requires-clause-cells g t c =
    (own_beside (pass_of c.args.pass.now) _ (element_in c.args.e.now) c.args.before.now c.in_ok-table-in-Group.table (ready_pass c.args.pass.now c.requires.ready) c.requires.fit c.requires.room c.in_ok-table-in-Group.ensures.value).cells

pub followed-then-requires-clause-reach : goal.followed-then-requires-clause-reach
followed-then-requires-clause-reach g t c =
    (own_beside (pass_of c.args.pass.now) _ (element_in c.args.e.now) c.args.before.now c.in_ok-table-in-Group.table (ready_pass c.args.pass.now c.requires.ready) c.requires.fit c.requires.room c.in_ok-table-in-Group.ensures.value).near

pub in_order-loop-e-preserved : goal.in_order-loop-e-preserved
in_order-loop-e-preserved g t c =
    let pass = pass_of c.args.pass.now in
    let cells = c.args.pass.now.cells in
    let items = c.args.items.now in
    let place = c.loop-e.e-index in
    let e = element_in c.e-item.result in
    let later = all_in (drop (place + 1) items) in
    let before = c.loop-e.table in
    let here : all_in (drop place items) ≡ more e later = all_in-next items place c.e-item.result c.loop-e-test.true c.e-item.is in
    let fit = subst (AreFit (length c.args.pass.now.rows.now)) here c.loop-e.invariant.fit in
    let room = subst (λ es. HasRoom cells (8 * nodes_among es) before) here c.loop-e.invariant.room in
    record {
      value = rw c.in_ok-table.ensures.value (ap (in_order pass before) (sym here) ∙ c.loop-e.invariant.value);
      ticks = omega (arith, c.loop-e.invariant.ticks, c.followed.ensures.ticks, ap (in_order_ticks cells) here);
      fit = later_fit fit;
      room = subst (HasRoom cells (8 * nodes_among later)) (sym c.in_ok-table.ensures.value)
          (followed_room pass _ (8 * nodes_among later) before e (ready_pass c.args.pass.now c.requires.ready) (first_fit fit) (room_less (omega arith) room));
    }

pub side_by_side-beside-requires-clause-cells : goal.side_by_side-beside-requires-clause-cells
side_by_side-beside-requires-clause-cells g t c =
    let e = element_in c.e-item.result in
    let here = all_in-next c.args.items.now c.loop-e.e-index c.e-item.result c.loop-e-test.true c.e-item.is in
    let fit = subst (AreFit (length c.args.pass.now.rows.now)) here c.loop-e.invariant.fit in
    let room = room_less (omega (arith, ap nodes_among here)) c.loop-e.invariant.room in
    (own_beside (pass_of c.args.pass.now) _ e c.loop-e.table c.in_ok-table_of.field-0 (ready_pass c.args.pass.now c.requires.ready) (first_fit fit) room c.in_ok-table_of.ensures.value).cells

pub side_by_side-beside-requires-clause-reach : goal.side_by_side-beside-requires-clause-reach
side_by_side-beside-requires-clause-reach g t c =
    let e = element_in c.e-item.result in
    let here = all_in-next c.args.items.now c.loop-e.e-index c.e-item.result c.loop-e-test.true c.e-item.is in
    let fit = subst (AreFit (length c.args.pass.now.rows.now)) here c.loop-e.invariant.fit in
    let room = room_less (omega (arith, ap nodes_among here)) c.loop-e.invariant.room in
    (own_beside (pass_of c.args.pass.now) _ e c.loop-e.table c.in_ok-table_of.field-0 (ready_pass c.args.pass.now c.requires.ready) (first_fit fit) room c.in_ok-table_of.ensures.value).near

pub side_by_side-loop-e-preserved : goal.side_by_side-loop-e-preserved
side_by_side-loop-e-preserved g t c =
    let pass = pass_of c.args.pass.now in
    let cells = c.args.pass.now.cells in
    let items = c.args.items.now in
    let place = c.loop-e.e-index in
    let e = element_in c.e-item.result in
    let later = all_in (drop (place + 1) items) in
    let others = c.loop-e.table in
    let here : all_in (drop place items) ≡ more e later = all_in-next items place c.e-item.result c.loop-e-test.true c.e-item.is in
    let fit = subst (AreFit (length c.args.pass.now.rows.now)) here c.loop-e.invariant.fit in
    let room = subst (λ es. HasRoom cells (8 * nodes_among es) others) here c.loop-e.invariant.room in
    let with : c.in_ok-table.table ≡ beside_of others (table_of pass e) = c.in_ok-table.ensures.value ∙ ap (beside_of others) c.in_ok-table_of.ensures.value in
    let at_most = rw c.loop-e.invariant.room.each at c.beside-in-loop-e.ensures.at_most in
    record {
      value = rw with (ap (side_by_side pass others) (sym here) ∙ c.loop-e.invariant.value);
      ticks = omega (arith, c.loop-e.invariant.ticks, c.table_of.ensures.ticks, at_most, ap (side_by_side_ticks cells) here);
      fit = later_fit fit;
      room = subst (HasRoom cells (8 * nodes_among later)) (sym with)
          (beside_room pass _ (8 * nodes_among later) others e (ready_pass c.args.pass.now c.requires.ready) (first_fit fit) (room_less (omega arith) room));
    }

pub table_of-after_group-requires : goal.table_of-after_group-requires
table_of-after_group-requires g t c =
    let kind = kind_in c.in-Group.kind in
    let items = c.items-items.result.now in
    let is = ap element_in c.in-Group.is ∙ element_in-Group c.in-Group.kind c.in-Group.elements ∙ ap (Group kind) c.items-items.ensures.elements in
    let fit = group_fit kind (all_in items) is c.requires.fit in
    let near = side_by_side_near (pass_of c.args.pass.now) _ (all_in items) c.in_ok-nothing-in-Group.nothing _ (ready_pass c.args.pass.now c.requires.ready) fit
    (c.in_ok-nothing-in-Group.ensures.value ∙ ap identity_of c.cells.ensures) c.in_ok-side_by_side-in-After.ensures.value in
    omega (arith, near.reached, fit.events, fit.groups)

pub table_of-before_group-requires : goal.table_of-before_group-requires
table_of-before_group-requires g t c =
    let kind = kind_in c.in-Group.kind in
    let items = c.items-items.result.now in
    let is = ap element_in c.in-Group.is ∙ element_in-Group c.in-Group.kind c.in-Group.elements ∙ ap (Group kind) c.items-items.ensures.elements in
    let fit = group_fit kind (all_in items) is c.requires.fit in
    let near = side_by_side_near (pass_of c.args.pass.now) _ (all_in items) c.in_ok-nothing-in-Group.nothing _ (ready_pass c.args.pass.now c.requires.ready) fit
    (c.in_ok-nothing-in-Group.ensures.value ∙ ap identity_of c.cells.ensures) c.in_ok-side_by_side-in-Before.ensures.value in
    omega (arith, near.reached, fit.events, fit.groups)

pub table_of-spanned-requires : goal.table_of-spanned-requires
table_of-spanned-requires g t c =
    let items = c.items-items-in-Span.result.now in
    let is = ap element_in c.in-Span.is ∙ element_in-Span c.in-Span.elements c.in-Span.field-1 ∙ ap (λ es. Span es c.in-Span.field-1) c.items-items-in-Span.ensures.elements in
    let fit = span_fit (all_in items) c.in-Span.field-1 is c.requires.fit in
    let near = in_order_near (pass_of c.args.pass.now) _ (all_in items) c.in_ok-nothing-in-Span.nothing _ (ready_pass c.args.pass.now c.requires.ready) fit
    (c.in_ok-nothing-in-Span.ensures.value ∙ ap identity_of c.cells-in-Span.ensures) c.in_ok-segment-in-Span.ensures.value in
    omega (arith, near.reached, fit.events, fit.groups)

pub table_of-returns-in_ok-segment-in-Span-clause-ticks : goal.table_of-returns-in_ok-segment-in-Span-clause-ticks
table_of-returns-in_ok-segment-in-Span-clause-ticks g t c =
    let cells = c.args.pass.now.cells in
    let items = c.items-items-in-Span.result.now in
    let is = ap element_in c.in-Span.is ∙ element_in-Span c.in-Span.elements c.in-Span.field-1 ∙ ap (λ es. Span es c.in-Span.field-1) c.items-items-in-Span.ensures.elements in
    let fit = span_fit (all_in items) c.in-Span.field-1 is c.requires.fit in
    let near = in_order_near (pass_of c.args.pass.now) _ (all_in items) c.in_ok-nothing-in-Span.nothing _ (ready_pass c.args.pass.now c.requires.ready) fit
    (c.in_ok-nothing-in-Span.ensures.value ∙ ap identity_of c.cells-in-Span.ensures) c.in_ok-segment-in-Span.ensures.value in
    let at_most = rw (near.each, c.open_in.ensures) at c.spanned.ensures.at_most in
    omega (arith, halved _ _ (cells * (cells + 1)) (cells * open_in (all_in items)) at_most, c.in_order-in-Span.ensures.ticks, ap (ticks_of cells) is)
