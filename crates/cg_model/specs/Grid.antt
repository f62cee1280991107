-- The limits of a grid.
use Rattle.std.specs.Prelude.{ℕ, ◌≤◌, ℤ, pos, ◌+ℤ◌, ◌-ℤ◌, ◌≤ℤ◌}

-- how many years there are from the older to the younger, both included
abbrev pub cells_from : ℤ → ℤ → ℤ
cells_from older younger = (older -ℤ younger) +ℤ pos 1

-- A grid of 1 to 512 years, all in 60,000 to -1,000 cal BP.
pub record IsGrid (oldest : ℤ) (cells : ℕ) : Type 0 where
  pub some : 1 ≤ cells
  pub few : cells ≤ 512
  pub old : oldest ≤ℤ pos 60000
  pub young : pos cells ≤ℤ (oldest +ℤ pos 1001)
