use Rattle.std.proofs.Common.{◌≡◌, ◌≢◌, ℕ, map}
use Rattle.cg_sharing.specs.Interleaving.{World}
use Rattle.std.specs.Arc.{arc_value}
use Rattle.cg_session.specs.Calibration.{calibration_of}
use Rattle.cg_session.specs.Session.{script_of}
use Rattle.cg_interleaving.specs.Taking.{CanGoOn, AreIn, HasTurnedOften, HasEndAt, left_at}
use Rattle.cg_interleaving.proofs.sessions.Sessions.finish.Given as goal

-- the session has taken some turns, and no other has
abbrev pub invariant-loop-alloc : goal.invariant-loop-alloc
invariant-loop-alloc g l = record {
  can : CanGoOn (calibration_of (arc_value l.curves)) l.self;
  same : map script_of l.self.list.items ≡ map script_of l.initial.self.list.items;
  start : l.self.book.start ≡ l.initial.self.book.start;
  taken : (world : World) → AreIn (calibration_of (arc_value l.curves)) world l.initial.self → HasTurnedOften (calibration_of (arc_value l.curves)) l.place world l.self;
  others : (other : ℕ) → other ≢ l.place → HasEndAt (calibration_of (arc_value l.curves)) other l.initial.self → HasEndAt (calibration_of (arc_value l.curves)) other l.self;
}

abbrev pub decreases-loop-alloc : goal.decreases-loop-alloc
decreases-loop-alloc g l = left_at l.place l.self
