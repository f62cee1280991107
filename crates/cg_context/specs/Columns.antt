-- The columns of a table: sums over its rows, one for each cell, and its entries column by column. chron's own.
use Rattle.std.specs.Prelude.{◌≡◌, ℕ, zero, suc, ◌+◌, ◌<◌, min, List, [], ◌++◌, map, length, slice_index_or}
use Rattle.std.specs.List.{range_with_len}
use Rattle.cg_enc.specs.Enclosure.{Enclosure, exact_zero}
use Rattle.cg_table.specs.Sums.{sum_of}

-- the sum at a cell over the first a rows, of those that count: up to its own with `own` 1, to the one before with 0
abbrev pub column : (ℕ → ℕ → Enclosure) → ℕ → ℕ → ℕ → Enclosure
column f own a i = sum_of (λ k. f k i) 0 (min a (i + own))

-- these are the sums at all cells
pub record AreColumns (f : ℕ → ℕ → Enclosure) (cells own a : ℕ) (sums : List Enclosure) : Type 0 where
  pub width : length sums ≡ cells
  pub each : (i : ℕ) → i < cells → slice_index_or sums i exact_zero ≡ column f own a i

-- the columns of a table before one, each from the oldest cell up to its own
abbrev pub by_columns : (ℕ → ℕ → Enclosure) → ℕ → List Enclosure
by_columns f zero = []
by_columns f (suc d) = by_columns f d ++ map (λ c. f c d) (range_with_len 0 (suc d))
