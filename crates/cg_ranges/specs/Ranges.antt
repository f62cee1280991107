-- The ranges that cover a target: what their lower ends sum to, and each by its first and its last cell. chron's own.
use Rattle.std.specs.Prelude.{ℕ, List}
use Rattle.cg_ranges.specs.Cover.{lower_sum, cover}
use Rattle.cg_ranges.specs.Runs.{runs_of}

pub record Ranges : Type 0 where
  pub sum : ℕ
  pub runs : List (ℕ × ℕ)

-- those of these pairs
abbrev pub ranges_of : List (ℕ × ℕ) → ℕ → Ranges
ranges_of pairs target =
    record { sum = lower_sum pairs (cover pairs target); runs = runs_of (cover pairs target) }
