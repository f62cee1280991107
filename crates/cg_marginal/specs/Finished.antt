-- The posterior of an event from a row of enclosures, one for each cell: chron's own.
use Rattle.std.specs.Prelude.{◌≡◌, ℕ, ◌*◌, ◌<◌, ◌≤◌, nat_eq, if◌then◌else◌, List, length, map, slice_index_or, Option, Some, None}
use Rattle.std.specs.List.{list_all}
use Rattle.cg_enc.specs.Enclosure.{Enclosure}
use Rattle.cg_enc.specs.Rounding.{ppm_below, ppm_above}
use Rattle.cg_table.specs.Sums.{sum_of, total_of}
use Rattle.cg_table.specs.Table.{row_entry}

-- all entries together, from the first cell on
abbrev pub whole_of : List Enclosure → Enclosure
whole_of row = sum_of (row_entry row) 0 (length row)

-- what an entry is of the whole, in parts per million
abbrev pub ppm_pair : Enclosure → Enclosure → ℕ × ℕ
ppm_pair whole entry = (ppm_below entry whole, ppm_above entry whole)

-- a pair for each entry; none where all entries are zero
unfoldable pub finished : List Enclosure → Option (List (ℕ × ℕ))
finished row = if list_all (λ entry. nat_eq entry.hi 0) row then None else Some (map (ppm_pair (whole_of row)) row)

-- a pair for each cell, between whose ends stands what x(cell) is of the sum of all, in parts per million
pub record ArePartsOf (x : ℕ → ℕ) (cells : ℕ) (pairs : List (ℕ × ℕ)) : Type 0 where
  pub each : length pairs ≡ cells
  pub lower : (cell : ℕ) → cell < cells → (slice_index_or pairs cell (0, 0)).0 * total_of x 0 cells ≤ 1000000 * x cell
  pub upper : (cell : ℕ) → cell < cells → 1000000 * x cell ≤ (slice_index_or pairs cell (0, 0)).1 * total_of x 0 cells
