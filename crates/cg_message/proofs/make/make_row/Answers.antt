use Rattle.std.proofs.Common.{List, sym, ap, ◌∙◌, subst}
use Rattle.std.specs.Arc.{arc_value}
use Rattle.std.proofs.lemmas.Result.{IfOk-weaker}
use Rattle.cg_curve.specs.Curves.{NamedCurve}
use Rattle.cg_meaning.specs.Cover.{IsCovered}
use Rattle.cg_meaning.specs.Curve.{Curve}
use Rattle.cg_meaning.specs.Scene.{scene_of}
use Rattle.cg_model.specs.Dating.{dating_of}
use Rattle.cg_like.specs.Likelihood.{IsScene, weights_of}
use Rattle.cg_code.specs.Content as content
use Rattle.cg_code.specs.Laws.{IsEvaluation}
use Rattle.cg_message.specs.Curve.{rows_at}
use Rattle.cg_message.specs.Value.{Row, Seen, HasValue, value_of}
use Rattle.cg_message.proofs.NameLemmas.{has-value}
use Rattle.cg_message.proofs.make.make_row.Goals as goal

pub weights-requires-clause-covered : goal.weights-requires-clause-covered
weights-requires-clause-covered c =
    let served = c.curve_of-served.ensures ∙ ap (λ (cs : List NamedCurve). rows_at cs c.args.curve) c.deref.ensures in
    subst (λ (curve : Curve). IsCovered (scene_of c.args.g.now curve) (dating_of c.args.d.now)) (sym served) c.requires.covered

pub new-requires : goal.new-requires
new-requires c =
    let served = c.curve_of-served.ensures ∙ ap (λ (cs : List NamedCurve). rows_at cs c.args.curve) c.deref.ensures in
    let read = subst (λ (curve : Curve). IsScene (scene_of c.args.g.now curve)) served c.are_read.ensures in
    record {
      content = content.Row (dating_of c.args.d.now);
      grid = c.args.g.now;
      curve = c.args.curve;
      is = record { content_is = c.requires.ranged; grid_is = read.grid; curve_is = c.ranges.curve.fits };
      code_is = c.requires.code;
      value_is = ap Row (c.in_ok-row.ensures.value ∙ ap (λ (curve : Curve). weights_of (scene_of c.args.g.now curve) (dating_of c.args.d.now)) served);
    }

pub returns-clause-value : goal.returns-clause-value
returns-clause-value c =
    let served = c.curve_of-served.ensures ∙ ap (λ (cs : List NamedCurve). rows_at cs c.args.curve) c.deref.ensures in
    let read = subst (λ (curve : Curve). IsScene (scene_of c.args.g.now curve)) served c.are_read.ensures in
    let evaluation : IsEvaluation (content.Row (dating_of c.args.d.now)) c.args.g.now c.args.curve =
    record { content_is = c.requires.ranged; grid_is = read.grid; curve_is = c.ranges.curve.fits } in
    IfOk-weaker c.new.result _ _
    (λ t is. subst (λ (seen : Seen). HasValue seen (value_of (scene_of c.args.g.now (rows_at (arc_value c.args.curves.now) c.args.curve)) (content.Row (dating_of c.args.d.now)))) (sym is)
    (has-value _ (content.Row (dating_of c.args.d.now)) c.args.g.now c.args.curve evaluation c.requires.code))
    c.new.ensures
