use Rattle.std.proofs.Common.{◌≤◌, ◌+◌, length, arith}
use Rattle.std.specs.Arc.{arc_value}
use Rattle.cg_session.specs.Calibration.{calibration_of}
use Rattle.cg_interleaving.proofs.FinishLemmas.{passed}
use Rattle.cg_interleaving.proofs.sessions.Sessions.turn.Goals.{else-number-ge1-via-then-number-ge1+else-number-len, else-number-ge1-via-else-number-ge1}
use Rattle.cg_interleaving.proofs.sessions.Sessions.turn.Goals as goal

pub returns-else-number-ge1-clause-taken : goal.returns-else-number-ge1-clause-taken
returns-else-number-ge1-clause-taken g c =
    let all = c.args.self.now in
    let past : 1 ≤ c.args.number → length all.list.items + 1 ≤ c.args.number =
    elim c.else-number-ge1.branch [
      | else-number-ge1-via-then-number-ge1+else-number-len w ↦ λ some. omega (arith, w.if-number-len.false, w.len.ensures, all.list.ok.0)
      | else-number-ge1-via-else-number-ge1 w ↦ λ some. absurd (omega (arith, some, w.if-number-ge1.false))
    ] in
    λ world here. passed (calibration_of (arc_value c.args.curves.now)) world all c.args.number past here
