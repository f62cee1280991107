-- The curve at a year, as it is answered.
use Rattle.std.specs.Prelude.{ℕ, ◌-◌, ◌<◌, ◌≤◌, List, length, ℤ, pos, negsuc, ◌*ℤ◌, ◌<ℤ◌, ◌≤ℤ◌, HoldsAt}
use Rattle.cg_meaning.specs.Curve.{Row, Point}
use Rattle.cg_curve.specs.declared.curve.At.{At}

-- the point that an answer stands for
abbrev pub point_of : At → Point
point_of at = record { age = at.age; sigma = at.sigma; gap = at.gap }

-- A gap of 1 to 1,000, an age within -10,000 to 70,000 times the gap, and a sigma within 0 to 10,000 times the gap.
pub record IsWithin (at : At) : Type 0 where
  pub gap_low : 1 ≤ at.gap
  pub gap_high : at.gap ≤ 1000
  pub age_low : (negsuc 9999999 *ℤ pos at.gap) ≤ℤ at.age
  pub age_high : at.age ≤ℤ (pos 70000000 *ℤ pos at.gap)
  pub sigma_low : pos 0 ≤ℤ at.sigma
  pub sigma_high : at.sigma ≤ℤ (pos 10000000 *ℤ pos at.gap)

-- The row before the lower place is older than the year, and the one at the higher place isn't.
pub record IsBetween (rows : List Row) (year : ℤ) (low high : ℕ) : Type 0 where
  pub ordered : low ≤ high
  pub within : high ≤ length rows
  pub older : 0 < low → HoldsAt (λ row. year <ℤ row.year) rows (low - 1)
  pub others : high < length rows → HoldsAt (λ row. row.year ≤ℤ year) rows high
