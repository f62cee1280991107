-- Runs of consecutive cells. chron's own.
use Rattle.std.specs.Prelude.{ℕ, ◌+◌, ◌<◌, ◌≤◌, nat_eq, Bool, false, List, [], ◌∷◌, length, if◌then◌else◌}
use Rattle.std.specs.List.{filter, range_with_len, slice_index_or}

-- a cell before these runs: it lengthens the first, or is one by itself
abbrev pub with_cell : ℕ → List (ℕ × ℕ) → List (ℕ × ℕ)
with_cell cell [] = (cell, cell) ∷ []
with_cell cell (run ∷ others) =
    if nat_eq run.0 (cell + 1) then (cell, run.1) ∷ others else (cell, cell) ∷ run ∷ others

-- the longest runs of cells that stand in their order, each by its first and its last cell
abbrev pub runs_of : List ℕ → List (ℕ × ℕ)
runs_of [] = []
runs_of (cell ∷ cells) = with_cell cell (runs_of cells)

-- one of so many cells
pub record IsRunOf (cells : ℕ) (run : ℕ × ℕ) : Type 0 where
  pub ordered : run.0 ≤ run.1
  pub within : run.1 < cells

-- the cells with a mark, the oldest first
abbrev pub marked : List Bool → List ℕ
marked marks = filter (λ cell. slice_index_or marks cell false) (range_with_len 0 (length marks))
