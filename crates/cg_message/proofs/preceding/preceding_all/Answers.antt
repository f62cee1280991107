use Rattle.std.proofs.Common.{◌≡◌, ◌+◌, ◌-◌, ◌*◌, ◌<◌, ℕ, List, length, take, drop, get_or, ap, ◌∙◌, subst, arith}
use Rattle.cg_part.specs.Elements.{more}
use Rattle.cg_message.specs.Ticks.{in_order_ticks}
use Rattle.cg_recipe.specs.Bounds.{nodes_in}
use Rattle.cg_message.specs.declared.element.Element.{Element}
use Rattle.cg_message.specs.Element.{all_in, all_placed, element_in}
use Rattle.cg_message.specs.Pass.{AreHeld, AreSmall, nodes_among, pass_of}
use Rattle.cg_message.proofs.AroundLemmas.{last_small}
use Rattle.cg_message.proofs.ElementLemmas.{all_in-next, all_placed-next, all_placed-split}
use Rattle.cg_message.proofs.WayLemmas.{held_joined}
use Rattle.cg_message.proofs.RoomLemmas.{ready_pass, first_small, later_small, room_less, preceding_all_room}
use Rattle.cg_message.proofs.preceding.preceding_all.Goals as goal

-- the item at hand and those behind it
all_from : (items : List Element) (behind : ℕ) (e : Element) → behind < length items → e ≡ get_or items (length items - 1 - behind) e →
    all_in (drop (length items - 1 - behind) items) ≡ more (element_in e) (all_in (drop (length items - behind) items))
all_from items behind e less is =
    let next : length items - 1 - behind + 1 ≡ length items - behind = omega arith in
    all_in-next items (length items - 1 - behind) e (omega arith) is ∙ ap (λ i. more (element_in e) (all_in (drop i items))) next

pub preceding-requires-clause-small : goal.preceding-requires-clause-small
preceding-requires-clause-small g c =
    let items = c.args.items.now in
    let here = all_from items c.loop-behind.behind c.index-items-items.result c.loop-behind-test.true c.index-items-items.is in
    let last = last_small c.args.pass.now.grid.cells items (length items - 1 - c.loop-behind.behind) c.requires.small in
    first_small (subst AreSmall here last.small)

pub preceding-requires-clause-room : goal.preceding-requires-clause-room
preceding-requires-clause-room g c =
    let items = c.args.items.now in
    let here = all_from items c.loop-behind.behind c.index-items-items.result c.loop-behind-test.true c.index-items-items.is in
    let last = last_small c.args.pass.now.grid.cells items (length items - 1 - c.loop-behind.behind) c.requires.small in
    let small = subst AreSmall here last.small in
    preceding_all_room (pass_of c.args.pass.now) (8 * nodes_in (element_in c.index-items-items.result)) _ c.args.x c.loop-behind.v (ready_pass c.args.pass.now c.requires.ready) (later_small small)
    (room_less (omega (arith, last.nodes, ap nodes_among here)) c.requires.room) c.loop-behind.invariant.value

pub returns-in_err-v-clause-ticks : goal.returns-in_err-v-clause-ticks
returns-in_err-v-clause-ticks g c =
    let items = c.args.items.now in
    let cells = c.args.pass.now.grid.cells in
    let here = all_from items c.loop-behind.behind c.index-items-items.result c.loop-behind-test.true c.index-items-items.is in
    let last = last_small cells items (length items - 1 - c.loop-behind.behind) c.requires.small in
    omega (arith, c.preceding.ensures.ticks, c.loop-behind.invariant.ticks, last.ticks, ap (in_order_ticks cells) here)

pub preceding-requires-clause-held : goal.preceding-requires-clause-held
preceding-requires-clause-held g c =
    let items = c.args.items.now in
    let place = length items - 1 - c.loop-behind.behind in
    let last = held_joined c.args.pass.now (all_placed (take place items)) (all_placed (drop place items)) (subst (AreHeld c.args.pass.now) (all_placed-split items place) c.requires.held) in
    let here = all_placed-next items place c.index-items-items.result (omega arith) c.index-items-items.is in
    (subst (AreHeld c.args.pass.now) here last).0
