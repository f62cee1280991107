use Rattle.std.proofs.Common.{◌≡◌, map, take}
use Rattle.cg_sharing.specs.Interleaving.{World}
use Rattle.std.specs.Arc.{arc_value}
use Rattle.cg_session.specs.Calibration.{calibration_of}
use Rattle.cg_session.specs.Session.{script_of}
use Rattle.cg_interleaving.specs.Taking.{CanGoOn, AreIn, HaveTaken}
use Rattle.cg_interleaving.proofs.sessions.Sessions.take_turns.Given as goal

-- the turns so far are taken
abbrev pub invariant-loop-number : goal.invariant-loop-number
invariant-loop-number g l = record {
  can : CanGoOn (calibration_of (arc_value l.curves)) l.self;
  same : map script_of l.self.list.items ≡ map script_of l.initial.self.list.items;
  start : l.self.book.start ≡ l.initial.self.book.start;
  taken : (world : World) → AreIn (calibration_of (arc_value l.curves)) world l.initial.self → HaveTaken (calibration_of (arc_value l.curves)) (take l.number-index l.turns) world l.self;
}
