use Rattle.std.proofs.Common.{◌-◌}
use Rattle.cg_curve.specs.Point.{IsBetween}
use Rattle.cg_curve.proofs.curve.older_rows.Given as goal

-- The rows before `low` are older than the year, and those from `high` on aren't.
abbrev pub invariant-loop-low : goal.invariant-loop-low
invariant-loop-low l = IsBetween l.rows l.year l.low l.high

abbrev pub decreases-loop-low : goal.decreases-loop-low
decreases-loop-low l = l.high - l.low
