use Rattle.std.proofs.Common.{List, [], sym, ap, ◌∙◌, subst, arith}
use Rattle.std.specs.Arc.{arc_value}
use Rattle.std.proofs.lemmas.Result.{IfOk-weaker}
use Rattle.std.proofs.lemmas.Option.{get_or_from_slice_get}
use Rattle.cg_curve.specs.Curves.{NamedCurve}
use Rattle.cg_meaning.specs.Cover.{AreCovered}
use Rattle.cg_meaning.specs.Curve.{Curve}
use Rattle.cg_meaning.specs.Scene.{scene_of}
use Rattle.cg_meaning.specs.Tree.{Tree, Boundary, nodes_of_all}
use Rattle.cg_model.specs.Event.{is_event}
use Rattle.cg_model.specs.Node.{tree_of}
use Rattle.cg_like.specs.Likelihood.{IsScene}
use Rattle.cg_part.specs.Elements.{element_of}
use Rattle.cg_recipe.specs.Recipe.{table_of}
use Rattle.cg_code.specs.Content as content
use Rattle.cg_code.specs.Content.{IsNode}
use Rattle.cg_code.specs.Laws.{IsEvaluation}
use Rattle.cg_message.specs.Curve.{rows_at}
use Rattle.cg_message.specs.Parts.{MembersAreGot, node_at}
use Rattle.cg_message.specs.Ticks.{table_ticks}
use Rattle.cg_message.specs.Value.{Table, pass_in, Seen, HasValue, value_of}
use Rattle.cg_message.proofs.NameLemmas.{has-value}
use Rattle.cg_message.proofs.make.make_table.Goals as goal

pub node_table-requires-clause-place : goal.node_table-requires-clause-place
node_table-requires-clause-place g c = omega (arith, c.requires.place, c.size.ensures.nodes, c.size.ensures.few)

pub node_table-requires-clause-group : goal.node_table-requires-clause-group
node_table-requires-clause-group g c =
    let same = get_or_from_slice_get (nodes_of_all c.args.m.now.top) c.args.place (tree_of c.node-node.result.now) (Boundary []) c.node-node.ensures.node in
    ap is_event (sym same) ∙ c.requires.group

pub node_table-requires-clause-covered : goal.node_table-requires-clause-covered
node_table-requires-clause-covered g c =
    let same = get_or_from_slice_get (nodes_of_all c.args.m.now.top) c.args.place (tree_of c.node-node.result.now) (Boundary []) c.node-node.ensures.node in
    subst (λ (cs : List NamedCurve). AreCovered (tree_of c.node-node.result.now) (scene_of c.args.g.now (rows_at cs c.args.curve))) (sym c.deref.ensures)
    (subst (λ (t : Tree). AreCovered t (scene_of c.args.g.now (rows_at (arc_value c.args.curves.now) c.args.curve))) same c.requires.covered)

pub node_table-requires-clause-parts : goal.node_table-requires-clause-parts
node_table-requires-clause-parts g c =
    let same = get_or_from_slice_get (nodes_of_all c.args.m.now.top) c.args.place (tree_of c.node-node.result.now) (Boundary []) c.node-node.ensures.node in
    subst (λ (cs : List NamedCurve). MembersAreGot (record { parts = c.args.parts.now; grid = c.args.g.now; curves = cs; curve = c.args.curve }) c.args.place (tree_of c.node-node.result.now)) (sym c.deref.ensures)
    (subst (MembersAreGot (record { parts = c.args.parts.now; grid = c.args.g.now; curves = arc_value c.args.curves.now; curve = c.args.curve }) c.args.place) same c.requires.parts)

pub returns-in_err-table-clause-ticks : goal.returns-in_err-table-clause-ticks
returns-in_err-table-clause-ticks g c =
    let same = get_or_from_slice_get (nodes_of_all c.args.m.now.top) c.args.place (tree_of c.node-node.result.now) (Boundary []) c.node-node.ensures.node in
    omega (arith, c.node_table.ensures.ticks, ap (λ (t : Tree). table_ticks c.args.g.now.cells (element_of 0 t)) same)

pub returns-clause-ticks : goal.returns-clause-ticks
returns-clause-ticks g c =
    let same = get_or_from_slice_get (nodes_of_all c.args.m.now.top) c.args.place (tree_of c.node-node.result.now) (Boundary []) c.node-node.ensures.node in
    omega (arith, c.node_table.ensures.ticks, ap (λ (t : Tree). table_ticks c.args.g.now.cells (element_of 0 t)) same)

pub new-requires : goal.new-requires
new-requires g c =
    let top = c.args.m.now.top in
    let curves = arc_value c.args.curves.now in
    let same = get_or_from_slice_get (nodes_of_all top) c.args.place (tree_of c.node-node.result.now) (Boundary []) c.node-node.ensures.node in
    let scene = scene_of c.args.g.now (rows_at curves c.args.curve) in
    let served = c.curve_of.ensures ∙ ap (λ (cs : List NamedCurve). rows_at cs c.args.curve) c.deref-2.ensures in
    let read = subst (λ (curve : Curve). IsScene (scene_of c.args.g.now curve)) served c.are_read.ensures in
    let node : IsNode (tree_of c.node-node.result.now) = record { limits = c.node-node.ensures.limits; ranged = c.node-node.ensures.ranged } in
    let table = c.in_ok-table.ensures.value
    ∙ ap (λ (cs : List NamedCurve). table_of (pass_in (scene_of c.args.g.now (rows_at cs c.args.curve)) (tree_of c.node-node.result.now)) (element_of 0 (tree_of c.node-node.result.now))) c.deref.ensures
    ∙ ap (λ (t : Tree). table_of (pass_in scene t) (element_of 0 t)) (sym same) in
    record {
      content = content.Table (node_at top c.args.place);
      grid = c.args.g.now;
      curve = c.args.curve;
      is = record { content_is = subst IsNode (sym same) node; grid_is = read.grid; curve_is = c.ranges.curve.fits };
      code_is = c.requires.code;
      value_is = ap Table table;
    }

pub returns-clause-value : goal.returns-clause-value
returns-clause-value g c =
    let served = c.curve_of.ensures ∙ ap (λ (cs : List NamedCurve). rows_at cs c.args.curve) c.deref-2.ensures in
    let read = subst (λ (curve : Curve). IsScene (scene_of c.args.g.now curve)) served c.are_read.ensures in
    let same = get_or_from_slice_get (nodes_of_all c.args.m.now.top) c.args.place (tree_of c.node-node.result.now) (Boundary []) c.node-node.ensures.node in
    let node : IsNode (tree_of c.node-node.result.now) = record { limits = c.node-node.ensures.limits; ranged = c.node-node.ensures.ranged } in
    let evaluation : IsEvaluation (content.Table (node_at c.args.m.now.top c.args.place)) c.args.g.now c.args.curve =
    record { content_is = subst IsNode (sym same) node; grid_is = read.grid; curve_is = c.ranges.curve.fits } in
    IfOk-weaker c.new.result _ _
    (λ t is. subst (λ (seen : Seen). HasValue seen (value_of (scene_of c.args.g.now (rows_at (arc_value c.args.curves.now) c.args.curve)) (content.Table (node_at c.args.m.now.top c.args.place)))) (sym is)
    (has-value _ (content.Table (node_at c.args.m.now.top c.args.place)) c.args.g.now c.args.curve evaluation c.requires.code))
    c.new.ensures
