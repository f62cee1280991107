-- A calibration curve, and its straight line between two rows.
use Rattle.std.specs.Prelude.{ℕ, ◌&&◌, List, [], ◌∷◌, Option, Some, None, ℤ, ◌+ℤ◌, ◌-ℤ◌, ◌*ℤ◌, if◌then◌else◌, int_lt, unsigned_abs}
use Rattle.std.specs.Ordering.{int_eq}

-- A row: a year in cal BP, and there the radiocarbon age and its one sigma, in thousandths of a year.
pub record Row : Type 0 where
  pub year : ℤ
  pub age : ℤ
  pub sigma : ℤ

-- the rows of a curve, the oldest first
abbrev pub Curve : Type 0
Curve = List Row

-- A value of the curve: the age and its sigma as numerators over the gap, in thousandths of a year.
pub record Point : Type 0 where
  pub age : ℤ
  pub sigma : ℤ
  pub gap : ℕ

abbrev pub point_at_row : Row → Point
point_at_row row = record { age = row.age; sigma = row.sigma; gap = 1 }

-- on the straight line from the older row to the younger, at a year between them
abbrev pub point_between : Row → Row → ℤ → Point
point_between older younger year =
    let from_older = older.year -ℤ year in let to_younger = year -ℤ younger.year in
    record {
      age = (older.age *ℤ to_younger) +ℤ (younger.age *ℤ from_older);
      sigma = (older.sigma *ℤ to_younger) +ℤ (younger.sigma *ℤ from_older);
      gap = unsigned_abs (older.year -ℤ younger.year);
    }

-- the curve at a year; none outside its rows
abbrev pub point_at : Curve → ℤ → Option Point
point_at [] year = None
point_at (row ∷ []) year = if int_eq row.year year then Some (point_at_row row) else None
point_at (older ∷ younger ∷ rows) year =
    if int_eq older.year year then Some (point_at_row older)
    else (if int_lt younger.year year && int_lt year older.year then Some (point_between older younger year)
    else point_at (younger ∷ rows) year)
