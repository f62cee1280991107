use Rattle.std.proofs.Common.{rules, ◌≡◌, ◌≤◌, ◌+◌, ◌∙◌, drop, length, sym, ap, arith, Some}
use Rattle.cg_meaning.specs.Tree.{datings_of, root_of}
use Rattle.cg_meaning.specs.Curve.{Curve}
use Rattle.cg_meaning.specs.Scene.{scene_of}
use Rattle.cg_meaning.specs.Cover.{or_fault, cover_fault, first_fault}
use Rattle.cg_model.specs.Dating.{dating_of}
use Rattle.cg_model.proofs.TreeLemmas.{length-datings_of_all}
use Rattle.cg_like.specs.Cover.{fault_in}
use Rattle.cg_sharing.specs.Course.{scene_by}
use Rattle.cg_session.specs.Calibration.{calibration_of}
use Rattle.cg_session.proofs.CoverLemmas.{fault-at, fault-end}
use Rattle.cg_session.proofs.cover.weigh_all.Goals as goal

pub returns-in_err-covers-clause-fault : goal.returns-in_err-covers-clause-fault
returns-in_err-covers-clause-fault c =
    let scene = scene_by (calibration_of c.args.curves.now) c.args.model.now c.args.grid.now in
    let datings = datings_of (root_of c.args.model.now) in
    let dating = dating_of c.dating.result.now in
    let serves = c.curve_of-curve.ensures ∙ ap (λ name. calibration_of c.args.curves.now name) c.curve.ensures in
    let own = ap (λ (curve : Curve). cover_fault (scene_of c.args.grid.now curve) dating) (sym serves) ∙ c.in_err-covers.ensures.fault in
    let first : first_fault scene datings ≡ Some (fault_in c.in_err-covers.field-0.0) =
    sym c.loop-event.invariant ∙ fault-at scene datings c.loop-event.event dating c.dating.ensures.dating
    ∙ ap (λ fault. or_fault fault (first_fault scene (drop (c.loop-event.event + 1) datings))) own in
    search (rules, first)

pub loop-event-preserved : goal.loop-event-preserved
loop-event-preserved c =
    let scene = scene_by (calibration_of c.args.curves.now) c.args.model.now c.args.grid.now in
    let datings = datings_of (root_of c.args.model.now) in
    let dating = dating_of c.dating.result.now in
    let serves = c.curve_of-curve.ensures ∙ ap (λ name. calibration_of c.args.curves.now name) c.curve.ensures in
    let own = ap (λ (curve : Curve). cover_fault (scene_of c.args.grid.now curve) dating) (sym serves) ∙ c.in_ok-covers.ensures.ok in
    ap (λ fault. or_fault fault (first_fault scene (drop (c.loop-event.event + 1) datings))) (sym own)
    ∙ sym (fault-at scene datings c.loop-event.event dating c.dating.ensures.dating) ∙ c.loop-event.invariant

pub returns-clause-ok : goal.returns-clause-ok
returns-clause-ok c =
    let scene = scene_by (calibration_of c.args.curves.now) c.args.model.now c.args.grid.now in
    let datings = datings_of (root_of c.args.model.now) in
    let past : length datings ≤ c.loop-event.event = omega (arith, length-datings_of_all c.args.model.now.top, c.events-event-end.ensures.events, c.loop-event-test.false) in
    sym c.loop-event.invariant ∙ fault-end scene datings c.loop-event.event past
