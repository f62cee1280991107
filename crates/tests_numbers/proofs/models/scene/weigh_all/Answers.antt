use Rattle.std.proofs.Common.{◌≤◌, length, subst, arith}
use Rattle.std.specs.List.{All}
use Rattle.std.proofs.lemmas.List.{take_all}
use Rattle.cg_meaning.specs.Tree.{datings_of, root_of}
use Rattle.cg_meaning.specs.Scene.{scene_of}
use Rattle.cg_meaning.specs.Cover.{IsCovered}
use Rattle.cg_model.specs.Dating.{dating_of}
use Rattle.cg_model.proofs.TreeLemmas.{length-datings_of_all}
use Rattle.cg_up.specs.Curve.{rows_at}
use Rattle.tests_numbers.proofs.CoverLemmas.{covered-next}
use Rattle.tests_numbers.proofs.models.scene.weigh_all.Goals as goal

pub loop-event-preserved : goal.loop-event-preserved
loop-event-preserved c =
    let curves = c.args.curves.now in
    let dating = dating_of c.dating.result.now in
    covered-next (scene_of c.args.grid.now (rows_at curves (length curves))) (datings_of (root_of c.args.model.now)) c.loop-event.event dating c.dating.ensures.dating
    (subst (λ curve. IsCovered (scene_of c.args.grid.now curve) dating) c.last-curve.ensures c.in_ok-covers.ensures.ok) c.loop-event.invariant

pub returns : goal.returns
returns c =
    let curves = c.args.curves.now in
    let datings = datings_of (root_of c.args.model.now) in
    let past : length datings ≤ c.loop-event.event = omega (arith, length-datings_of_all c.args.model.now.top, c.events-event-end.ensures.events, c.loop-event-test.false) in
    subst (All (λ dating. IsCovered (scene_of c.args.grid.now (rows_at curves (length curves))) dating)) (take_all c.loop-event.event datings past) c.loop-event.invariant
