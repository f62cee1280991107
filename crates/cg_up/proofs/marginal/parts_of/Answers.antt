use Rattle.std.proofs.Common.{length, sym, ap, subst, ◌∙◌, arith}
use Rattle.cg_model.specs.Node.{trees_of}
use Rattle.cg_part.specs.Elements.{has}
use Rattle.cg_context.specs.Formulas.{root_context}
use Rattle.cg_recipe.specs.Bounds.{nodes_in}
use Rattle.cg_recipe.proofs.BoundsContexts.{root-bounded}
use Rattle.cg_up.specs.Pass.{IsFit}
use Rattle.cg_up.proofs.RoomLemmas.{bounded_room}
use Rattle.cg_up.proofs.RootLemmas.{root_fit, root_has, whole-is}
use Rattle.cg_up.proofs.marginal.parts_of.Goals as goal

pub parts_at-requires-clause-fit : goal.parts_at-requires-clause-fit
parts_at-requires-clause-fit g c =
    let ts = trees_of c.args.top.now in
    let rows = length c.args.pass.now.rows.now in
    subst (IsFit rows) (sym (whole-is c.in_ok-members_of.field-0 ts c.in_ok-members_of.ensures)) (root_fit rows ts c.requires.limits c.requires.rows)

pub parts_at-requires-clause-has : goal.parts_at-requires-clause-has
parts_at-requires-clause-has g c =
    let ts = trees_of c.args.top.now in
    ap (has c.args.event) (whole-is c.in_ok-members_of.field-0 ts c.in_ok-members_of.ensures) ∙ root_has c.args.event ts c.requires.event

pub parts_at-requires-clause-room : goal.parts_at-requires-clause-room
parts_at-requires-clause-room g c =
    let ts = trees_of c.args.top.now in
    let cells = c.args.pass.now.cells in
    let fit = root_fit (length c.args.pass.now.rows.now) ts c.requires.limits c.requires.rows in
    let nodes = ap nodes_in (whole-is c.in_ok-members_of.field-0 ts c.in_ok-members_of.ensures) in
    let is = c.in_ok-x.ensures.value ∙ ap root_context c.cells.ensures in
    rw is (bounded_room (omega (arith, nodes, fit.events, fit.groups)) (root-bounded cells c.requires.ready.few))
