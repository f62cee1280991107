use Rattle.std.proofs.Common.{◌≡◌, ◌+◌, ◌-◌, ◌*◌, ◌<◌, ℕ, List, length, drop, get_or, ap, ◌∙◌, subst, arith}
use Rattle.cg_part.specs.Elements.{more}
use Rattle.cg_recipe.specs.Ticks.{in_order_ticks}
use Rattle.cg_recipe.specs.Bounds.{nodes_in}
use Rattle.cg_up.specs.declared.element.Element.{Element}
use Rattle.cg_up.specs.Element.{all_in, element_in}
use Rattle.cg_up.specs.Pass.{AreFit, nodes_among, pass_of}
use Rattle.cg_up.proofs.AroundLemmas.{last_fit}
use Rattle.cg_up.proofs.ElementLemmas.{all_in-next}
use Rattle.cg_up.proofs.RoomLemmas.{ready_pass, first_fit, later_fit, room_less, preceding_all_room}
use Rattle.cg_up.proofs.preceding.preceding_all.Goals as goal

-- the item at hand and those behind it
all_from : (items : List Element) (behind : ℕ) (e : Element) → behind < length items → e ≡ get_or items (length items - 1 - behind) e →
    all_in (drop (length items - 1 - behind) items) ≡ more (element_in e) (all_in (drop (length items - behind) items))
all_from items behind e less is =
    let next : length items - 1 - behind + 1 ≡ length items - behind = omega arith in
    all_in-next items (length items - 1 - behind) e (omega arith) is ∙ ap (λ i. more (element_in e) (all_in (drop i items))) next

pub preceding-requires-clause-fit : goal.preceding-requires-clause-fit
preceding-requires-clause-fit g c =
    let items = c.args.items.now in
    let here = all_from items c.loop-behind.behind c.index-items-items.result c.loop-behind-test.true c.index-items-items.is in
    let last = last_fit c.args.pass.now.cells items (length items - 1 - c.loop-behind.behind) c.requires.fit in
    first_fit (subst (AreFit (length c.args.pass.now.rows.now)) here last.fit)

pub preceding-requires-clause-room : goal.preceding-requires-clause-room
preceding-requires-clause-room g c =
    let items = c.args.items.now in
    let here = all_from items c.loop-behind.behind c.index-items-items.result c.loop-behind-test.true c.index-items-items.is in
    let last = last_fit c.args.pass.now.cells items (length items - 1 - c.loop-behind.behind) c.requires.fit in
    let fit = subst (AreFit (length c.args.pass.now.rows.now)) here last.fit in
    preceding_all_room (pass_of c.args.pass.now) _ (8 * nodes_in (element_in c.index-items-items.result)) _ c.args.x c.loop-behind.v (ready_pass c.args.pass.now c.requires.ready) (later_fit fit)
    (room_less (omega (arith, last.nodes, ap nodes_among here)) c.requires.room) c.loop-behind.invariant.value

pub returns-in_err-v-clause-ticks : goal.returns-in_err-v-clause-ticks
returns-in_err-v-clause-ticks g c =
    let items = c.args.items.now in
    let cells = c.args.pass.now.cells in
    let here = all_from items c.loop-behind.behind c.index-items-items.result c.loop-behind-test.true c.index-items-items.is in
    let last = last_fit cells items (length items - 1 - c.loop-behind.behind) c.requires.fit in
    omega (arith, c.preceding.ensures.ticks, c.loop-behind.invariant.ticks, last.ticks, ap (in_order_ticks cells) here)
