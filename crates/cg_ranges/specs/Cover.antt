-- The cells that cover most of a posterior, by the lower ends of their pairs. chron's own.
use Rattle.std.specs.Prelude.{ℕ, Bool, nat_lt, nat_eq, ◌&&◌, ◌||◌, List, length, filter, sum_by, slice_index_or}
use Rattle.std.specs.List.{range_with_len}

-- the lower end at a cell, in parts per million
abbrev pub lower_at : List (ℕ × ℕ) → ℕ → ℕ
lower_at pairs cell = (slice_index_or pairs cell (0, 0)).0

-- all cells, the oldest first
abbrev pub cells_of : List (ℕ × ℕ) → List ℕ
cells_of pairs = range_with_len 0 (length pairs)

-- what the lower ends at these cells sum to
abbrev pub lower_sum : List (ℕ × ℕ) → List ℕ → ℕ
lower_sum pairs cells = sum_by (lower_at pairs) cells

-- The first cell comes before the second: its lower end is greater, or it is as great and the cell is older.
abbrev pub comes_before : List (ℕ × ℕ) → ℕ → ℕ → Bool
comes_before pairs first second =
    nat_lt (lower_at pairs second) (lower_at pairs first)
    || (nat_eq (lower_at pairs first) (lower_at pairs second) && nat_lt first second)

-- the cells that come before this one
abbrev pub cells_before : List (ℕ × ℕ) → ℕ → List ℕ
cells_before pairs cell = filter (λ other. comes_before pairs other cell) (cells_of pairs)

-- a cell is taken where those before it don't cover the target
abbrev pub is_taken : List (ℕ × ℕ) → ℕ → ℕ → Bool
is_taken pairs target cell = nat_lt (lower_sum pairs (cells_before pairs cell)) target

-- the cells that cover the target, the oldest first
abbrev pub cover : List (ℕ × ℕ) → ℕ → List ℕ
cover pairs target = filter (is_taken pairs target) (cells_of pairs)
