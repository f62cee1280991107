use Rattle.std.proofs.Common.{◌≡◌, ◌<◌, ℕ, map}
use Rattle.cg_sharing.specs.Interleaving.{World}
use Rattle.std.specs.Arc.{arc_value}
use Rattle.cg_session.specs.Calibration.{calibration_of}
use Rattle.cg_session.specs.Session.{script_of}
use Rattle.cg_interleaving.specs.Taking.{CanGoOn, AreIn, HaveRunOut, HasEndAt}
use Rattle.cg_interleaving.proofs.sessions.Sessions.finish_all.Given as goal

-- the sessions before this place have run to their ends
abbrev pub invariant-loop-place : goal.invariant-loop-place
invariant-loop-place g l = record {
  can : CanGoOn (calibration_of (arc_value l.curves)) l.self;
  same : map script_of l.self.list.items ≡ map script_of l.initial.self.list.items;
  start : l.self.book.start ≡ l.initial.self.book.start;
  taken : (world : World) → AreIn (calibration_of (arc_value l.curves)) world l.initial.self → HaveRunOut (calibration_of (arc_value l.curves)) l.place world l.self;
  over : (other : ℕ) → other < l.place → HasEndAt (calibration_of (arc_value l.curves)) other l.self;
}
