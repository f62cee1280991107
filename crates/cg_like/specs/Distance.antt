-- What the code's distances mean, and what is known of the curve behind them.
use Rattle.std.specs.Prelude.{◌*◌, ◌^◌, ◌<◌, ◌≤◌, Option, Some, None}
use Rattle.cg_meaning.specs.Tree.{Dating, Free, Exact, Normal, Carbon}
use Rattle.cg_meaning.specs.Curve.{Curve}
use Rattle.cg_meaning.specs.Weights as meaning
use Rattle.cg_curve.specs.Rows.{IsCurve}
use Rattle.cg_like.specs.declared.distance.Distance.{Distance}

-- the same numbers
abbrev pub distance_in : Distance → meaning.Distance
distance_in distance = record { p = distance.p; q = distance.q; gap = distance.gap }

-- the curve of a radiocarbon date is one as it is read
abbrev pub IsKnown : Option Curve → Dating → Type 0
IsKnown None dating = Unit {0}
IsKnown (Some curve) Free = Unit {0}
IsKnown (Some curve) (Exact year) = Unit {0}
IsKnown (Some curve) (Normal year error) = Unit {0}
IsKnown (Some curve) (Carbon age error) = IsCurve curve

-- What holds of the distance of a dating that can be weighed: p and q are in the range of the exponential.
pub record IsMeasured (distance : meaning.Distance) : Type 0 where
  pub some : 1 ≤ distance.q
  pub fits : distance.q < 2 ^ 96
  pub reach : distance.p ≤ distance.q * 2 ^ 28
  pub gap_low : 1 ≤ distance.gap
  pub gap_high : distance.gap ≤ 1000
