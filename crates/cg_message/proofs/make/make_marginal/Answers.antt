use Rattle.std.proofs.Common.{List, sym, ap, ◌∙◌, subst}
use Rattle.std.specs.Arc.{arc_value}
use Rattle.std.proofs.lemmas.Result.{IfOk-weaker}
use Rattle.cg_curve.specs.Curves.{NamedCurve}
use Rattle.cg_meaning.specs.Curve.{Curve}
use Rattle.cg_meaning.specs.Scene.{scene_of}
use Rattle.cg_meaning.specs.Tree.{root_of}
use Rattle.cg_like.specs.Likelihood.{IsScene}
use Rattle.cg_part.specs.Elements.{element_of}
use Rattle.cg_recipe.specs.Recipe.{parts_of}
use Rattle.cg_code.specs.Content as content
use Rattle.cg_code.specs.Laws.{IsEvaluation}
use Rattle.cg_message.specs.Curve.{rows_at}
use Rattle.cg_message.specs.Value.{Marginal, pass_in, Seen, HasValue, value_of}
use Rattle.cg_message.proofs.MakeLemmas.{recipe-is}
use Rattle.cg_message.proofs.NameLemmas.{has-value}
use Rattle.cg_message.proofs.make.make_marginal.Goals as goal

pub new-requires : goal.new-requires
new-requires g c =
    let tree = root_of c.args.m.now in
    let scene = scene_of c.args.g.now (rows_at (arc_value c.args.curves.now) c.args.curve) in
    let served = c.curve_of.ensures ∙ ap (λ (cs : List NamedCurve). rows_at cs c.args.curve) c.deref.ensures in
    let read = subst (λ (curve : Curve). IsScene (scene_of c.args.g.now curve)) served c.are_read.ensures in
    let sums = c.in_ok-sums.ensures.value
    ∙ ap (λ (cs : List NamedCurve). parts_of (pass_in (scene_of c.args.g.now (rows_at cs c.args.curve)) tree) c.args.event (element_of 0 tree)) c.deref-2.ensures in
    let pairs = c.in_ok-marginal.ensures.value ∙ recipe-is scene tree c.args.event c.in_ok-sums.sums sums in
    record {
      content = content.Marginal c.args.m.now.top c.args.event;
      grid = c.args.g.now;
      curve = c.args.curve;
      is = record {
        content_is = record { limits = c.sums_at.ensures.model.limits; ranged = c.sums_at.ensures.model.ranged; counted = c.requires.event };
        grid_is = read.grid;
        curve_is = c.ranges.curve.fits;
      };
      code_is = c.requires.code;
      value_is = ap Marginal pairs;
    }

pub returns-clause-holds : goal.returns-clause-holds
returns-clause-holds g c =
    let scene = scene_of c.args.g.now (rows_at (arc_value c.args.curves.now) c.args.curve) in
    let served = c.curve_of.ensures ∙ ap (λ (cs : List NamedCurve). rows_at cs c.args.curve) c.deref.ensures in
    let read = subst (λ (curve : Curve). IsScene (scene_of c.args.g.now curve)) served c.are_read.ensures in
    let right = c.recipes_are_right.ensures c.args.m.now scene c.args.event c.sums_at.ensures.model read c.requires.covered c.requires.event in
    IfOk-weaker c.new.result _ _ (λ t is. right.holds) c.new.ensures

pub returns-clause-narrow : goal.returns-clause-narrow
returns-clause-narrow g c =
    let scene = scene_of c.args.g.now (rows_at (arc_value c.args.curves.now) c.args.curve) in
    let served = c.curve_of.ensures ∙ ap (λ (cs : List NamedCurve). rows_at cs c.args.curve) c.deref.ensures in
    let read = subst (λ (curve : Curve). IsScene (scene_of c.args.g.now curve)) served c.are_read.ensures in
    let right = c.recipes_are_right.ensures c.args.m.now scene c.args.event c.sums_at.ensures.model read c.requires.covered c.requires.event in
    IfOk-weaker c.new.result _ _ (λ t is. right.narrow) c.new.ensures

pub returns-clause-value : goal.returns-clause-value
returns-clause-value g c =
    let served = c.curve_of.ensures ∙ ap (λ (cs : List NamedCurve). rows_at cs c.args.curve) c.deref.ensures in
    let read = subst (λ (curve : Curve). IsScene (scene_of c.args.g.now curve)) served c.are_read.ensures in
    let evaluation : IsEvaluation (content.Marginal c.args.m.now.top c.args.event) c.args.g.now c.args.curve =
    record {
      content_is = record { limits = c.sums_at.ensures.model.limits; ranged = c.sums_at.ensures.model.ranged; counted = c.requires.event };
      grid_is = read.grid;
      curve_is = c.ranges.curve.fits;
    } in
    IfOk-weaker c.new.result _ _
    (λ t is. subst (λ (seen : Seen). HasValue seen (value_of (scene_of c.args.g.now (rows_at (arc_value c.args.curves.now) c.args.curve)) (content.Marginal c.args.m.now.top c.args.event))) (sym is)
    (has-value _ (content.Marginal c.args.m.now.top c.args.event) c.args.g.now c.args.curve evaluation c.requires.code))
    c.new.ensures
