-- Where a chronology is dated: a grid of calendar years, and a calibration curve.
use Rattle.std.specs.Prelude.{ℕ, Bool, true, List, [], ℤ, pos, ◌-ℤ◌}
use Rattle.std.specs.List.{list_all, zip}
use Rattle.std.specs.Ordering.{int_eq}
use Rattle.cg_meaning.specs.Tree.{Dating, Free, Exact, Normal, Carbon}
use Rattle.cg_meaning.specs.Curve.{Curve}

-- The oldest year, in cal BP, and how many cells there are: one for each year, the oldest first.
pub record Grid : Type 0 where
  pub oldest : ℤ
  pub cells : ℕ

pub record Scene : Type 0 where
  pub grid : Grid
  pub curve : Curve

-- a grid without a curve
abbrev pub scene_on : Grid → Scene
scene_on grid = record { grid = grid; curve = [] }

-- a grid, and a curve that serves all radiocarbon dates
abbrev pub scene_of : Grid → Curve → Scene
scene_of grid curve = record { grid = grid; curve = curve }

-- the year of a cell, in cal BP
abbrev pub year_of : Grid → ℕ → ℤ
year_of grid cell = grid.oldest -ℤ pos cell

-- an event of this dating may be at this cell: one of an exact year only there
abbrev pub admits : Grid → Dating → ℕ → Bool
admits grid Free cell = true
admits grid (Exact year) cell = int_eq (year_of grid cell) year
admits grid (Normal year error) cell = true
admits grid (Carbon age error) cell = true

abbrev pub is_dated : Grid → List Dating → List ℕ → Bool
is_dated grid datings cells = list_all (λ x. admits grid x.0 x.1) (zip datings cells)
