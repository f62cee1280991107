use Rattle.std.proofs.Common.{◌≡◌, drop}
use Rattle.cg_meaning.specs.Tree.{datings_of, root_of}
use Rattle.cg_meaning.specs.Cover.{first_fault}
use Rattle.cg_sharing.specs.Course.{scene_by}
use Rattle.cg_session.specs.Calibration.{calibration_of}
use Rattle.cg_session.proofs.cover.weigh_all.Given as goal

-- the first fault is that of the events that are left
abbrev pub invariant-loop-event : goal.invariant-loop-event
invariant-loop-event l =
    let scene = scene_by (calibration_of l.curves) l.model l.grid in let datings = datings_of (root_of l.model) in
    first_fault scene (drop l.event datings) ≡ first_fault scene datings
