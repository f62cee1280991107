use Rattle.std.proofs.Common.{◌≡◌, ◌≤◌, ◌-◌, false, length}
use Rattle.cg_session.specs.Port.{Seen}
use Rattle.cg_session.specs.Calibration.{calibration_of}
use Rattle.cg_sharing.specs.Course.{Place}
use Rattle.cg_session.specs.declared.session.Progress.TheVariants.{Ended}
use Rattle.cg_session.specs.Session.{StandsAt, IsAt, IsSame}
use Rattle.cg_session.specs.Steps.{Counts}
use Rattle.cg_session.proofs.session.Session.prepare.Given as goal

-- the same session goes on in its course
abbrev pub invariant-loop-self : goal.invariant-loop-self
invariant-loop-self g l = record {
  same : IsSame l.initial.self l.self;
  within : l.self.done ≤ length l.self.script;
  forward : l.initial.self.done ≤ l.self.done;
  at : (seen : Seen) → l.initial.self.stopped ≡ false → IsAt (calibration_of l.curves) seen l.initial.self → IsAt (calibration_of l.curves) seen l.self;
  counts : (seen : Seen) (place : Place) → l.initial.self.stopped ≡ false → IsAt (calibration_of l.curves) seen l.initial.self → StandsAt (calibration_of l.curves) seen l.initial.self place →
      Counts (calibration_of l.curves) seen Ended l.initial.steps l.steps place l.self;
}

abbrev pub decreases-loop-self : goal.decreases-loop-self
decreases-loop-self g l = length l.initial.self.script - l.self.done
