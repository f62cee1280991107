-- Bounds of a posterior in parts per million: chron's own.
use Rattle.std.specs.Prelude.{ℕ, ◌+◌, ◌≤◌, List, All}
use Rattle.std.specs.List.{sum_by}

-- a lower and an upper end for one cell, at most 3 apart
pub record IsPair (pair : ℕ × ℕ) : Type 0 where
  pub ordered : pair.0 ≤ pair.1
  pub whole : pair.1 ≤ 1000000
  pub close : pair.1 ≤ pair.0 + 3

-- a pair for each cell, with upper ends that together reach the whole
pub record ArePairs (pairs : List (ℕ × ℕ)) : Type 0 where
  pub each : All IsPair pairs
  pub reach : 1000000 ≤ sum_by (λ pair. pair.1) pairs
