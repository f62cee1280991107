use Rattle.std.proofs.Common.{◌≡◌, ℕ, List, ◌++◌, refl, map, sym, ap, ap₂, ◌∙◌, subst, arith}
use Rattle.std.proofs.lemmas.Result.{IfOk-weaker}
use Rattle.cg_context.specs.Formulas.{root_context}
use Rattle.cg_meaning.specs.Scene.{scene_of}
use Rattle.cg_meaning.specs.Tree.{Phase, Trees, datings_of_all, root_of}
use Rattle.cg_model.specs.Dating.{dating_of}
use Rattle.cg_model.specs.declared.dating.Dating as code
use Rattle.cg_part.specs.Elements as part
use Rattle.cg_part.specs.Elements.{has_among}
use Rattle.cg_message.specs.Curve.{rows_at}
use Rattle.cg_message.specs.Element.{all_in, all_placed}
use Rattle.cg_message.specs.Parts.{Shelf, AreWayGot}
use Rattle.cg_message.specs.Pass.{AreSmall, AreOnWay, pass_of, datings_in}
use Rattle.cg_message.specs.Placed.{bare_all, members_of}
use Rattle.cg_message.specs.Ticks.{part_beside_ticks}
use Rattle.cg_message.specs.Value.{pass_in}
use Rattle.cg_message.proofs.HeldLemmas.{bare-members}
use Rattle.cg_message.proofs.MakeLemmas.{begins, pass-is, root-small, members-small, members-have, root-room, sums-are, sums-finished}
use Rattle.cg_message.proofs.WayLemmas.{members-way}
use Rattle.cg_message.proofs.make.sums_at.Goals as goal

pub parts_beside-requires-clause-small : goal.parts_beside-requires-clause-small
parts_beside-requires-clause-small g c =
    let top = c.args.m.now.top in
    let placed : all_placed c.items.result.now ≡ members_of 0 0 top = sym c.items.ensures.elements ∙ c.in_ok-members.ensures ∙ ap (members_of 0 0) c.top-2.ensures.top in
    let bare : all_in c.items.result.now ≡ part.members_of 0 top = ap bare_all placed ∙ bare-members 0 0 top in
    subst AreSmall (sym bare) (members-small top c.top.ensures.limits)

pub parts_beside-requires-clause-way : goal.parts_beside-requires-clause-way
parts_beside-requires-clause-way g c =
    let pass = c.new-pass.result in
    let top = c.args.m.now.top in
    let placed : all_placed c.items.result.now ≡ members_of 0 0 top = sym c.items.ensures.elements ∙ c.in_ok-members.ensures ∙ ap (members_of 0 0) c.top-2.ensures.top in
    let pushed = c.in_ok-push_all.ensures
    ∙ ap₂ (λ (front : List code.Dating) (ts : Trees). map dating_of front ++ datings_of_all ts) c.new-datings.ensures.items c.top.ensures.top in
    let datings : datings_in pass ≡ datings_of_all top = c.new-pass.ensures.datings ∙ ap (map dating_of) c.deref-2.ensures.value ∙ pushed in
    let got = subst (λ (s : Shelf). AreWayGot s c.args.event 0 0 top) (sym c.new-pass.ensures.shelf) c.requires.parts in
    subst (AreOnWay pass c.args.event) (sym placed)
    (members-way pass c.args.event 0 0 top (record { limits = c.top.ensures.limits; ranged = c.top.ensures.ranged; datings = begins pass (datings_of_all top) datings }) got)

pub parts_beside-requires-clause-has : goal.parts_beside-requires-clause-has
parts_beside-requires-clause-has g c =
    let top = c.args.m.now.top in
    let placed : all_placed c.items.result.now ≡ members_of 0 0 top = sym c.items.ensures.elements ∙ c.in_ok-members.ensures ∙ ap (members_of 0 0) c.top-2.ensures.top in
    let bare : all_in c.items.result.now ≡ part.members_of 0 top = ap bare_all placed ∙ bare-members 0 0 top in
    ap (has_among c.args.event) bare ∙ members-have c.args.event top c.requires.event

pub parts_beside-requires-clause-room : goal.parts_beside-requires-clause-room
parts_beside-requires-clause-room g c =
    let pass = c.new-pass.result in
    let x = c.in_ok-x.ensures.value ∙ ap root_context (c.cells.ensures.cells ∙ sym (ap (λ (s : Shelf). s.grid.cells) c.new-pass.ensures.shelf)) in
    root-room pass.grid.cells (all_in c.items.result.now) c.in_ok-x.x c.new-pass.ensures.ready.few (parts_beside-requires-clause-small g c) x

pub returns-clause-value : goal.returns-clause-value
returns-clause-value g c =
    let pass = c.new-pass.result in
    let top = c.args.m.now.top in
    let scene = scene_of c.args.g.now (rows_at c.args.curves.now c.args.curve) in
    let placed : all_placed c.items.result.now ≡ members_of 0 0 top = sym c.items.ensures.elements ∙ c.in_ok-members.ensures ∙ ap (members_of 0 0) c.top-2.ensures.top in
    let bare : all_in c.items.result.now ≡ part.members_of 0 top = ap bare_all placed ∙ bare-members 0 0 top in
    let pushed = c.in_ok-push_all.ensures
    ∙ ap₂ (λ (front : List code.Dating) (ts : Trees). map dating_of front ++ datings_of_all ts) c.new-datings.ensures.items c.top.ensures.top in
    let datings : datings_in pass ≡ datings_of_all top = c.new-pass.ensures.datings ∙ ap (map dating_of) c.deref-2.ensures.value ∙ pushed in
    let x = c.in_ok-x.ensures.value ∙ ap root_context (c.cells.ensures.cells ∙ sym (ap (λ (s : Shelf). s.grid.cells) c.new-pass.ensures.shelf)) in
    let is = sums-are (pass_of pass) (pass_in scene (root_of c.args.m.now)) c.args.event (all_in c.items.result.now) (part.members_of 0 top) c.in_ok-x.x
    (pass-is pass scene (root_of c.args.m.now) c.new-pass.ensures.scene datings) bare x in
    IfOk-weaker c.parts_beside.result _ _ (λ r by_members. by_members ∙ is) c.parts_beside.ensures.value

pub returns-clause-finished : goal.returns-clause-finished
returns-clause-finished g c =
    let pass = c.new-pass.result in
    let top = c.args.m.now.top in
    let placed : all_placed c.items.result.now ≡ members_of 0 0 top = sym c.items.ensures.elements ∙ c.in_ok-members.ensures ∙ ap (members_of 0 0) c.top-2.ensures.top in
    let bare : all_in c.items.result.now ≡ part.members_of 0 top = ap bare_all placed ∙ bare-members 0 0 top in
    let x = c.in_ok-x.ensures.value ∙ ap root_context (c.cells.ensures.cells ∙ sym (ap (λ (s : Shelf). s.grid.cells) c.new-pass.ensures.shelf)) in
    let is = sums-are (pass_of pass) (pass_of pass) c.args.event (all_in c.items.result.now) (part.members_of 0 top) c.in_ok-x.x refl bare x in
    IfOk-weaker c.parts_beside.result _ _
    (λ r by_members. sums-finished pass c.args.event (part.Group Phase (part.members_of 0 top)) r c.new-pass.ensures.ready (root-small top c.top.ensures.limits) (by_members ∙ is))
    c.parts_beside.ensures.value

pub returns-clause-ticks : goal.returns-clause-ticks
returns-clause-ticks g c =
    let top = c.args.m.now.top in
    let placed : all_placed c.items.result.now ≡ members_of 0 0 top = sym c.items.ensures.elements ∙ c.in_ok-members.ensures ∙ ap (members_of 0 0) c.top-2.ensures.top in
    let bare : all_in c.items.result.now ≡ part.members_of 0 top = ap bare_all placed ∙ bare-members 0 0 top in
    let cells = ap (λ (s : Shelf). s.grid.cells) c.new-pass.ensures.shelf in
    omega (arith, c.parts_beside.ensures.ticks, ap₂ (λ (n : ℕ) (es : part.Elements). part_beside_ticks n c.args.event es) cells bare)
