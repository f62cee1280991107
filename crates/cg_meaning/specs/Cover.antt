-- Where a dating can be weighed: the curve has a value at each year of the grid, and the dating is not too far from it.
-- The limit of 16,384 years is chron's own.
use Rattle.std.specs.Prelude.{◌≡◌, ℕ, zero, suc, ◌+◌, ◌*◌, Bool, nat_lt, List, [], ◌∷◌, Option, Some, None, ℤ, if◌then◌else◌}
use Rattle.std.specs.List.{All}
use Rattle.cg_meaning.specs.Tree.{Tree, Dating, Free, Exact, Normal, Carbon, datings_of}
use Rattle.cg_meaning.specs.Curve.{Curve}
use Rattle.cg_meaning.specs.Scene.{Scene, year_of}
use Rattle.cg_meaning.specs.Weights.{Distance, distance_of}

-- Why a dating can't be weighed on a grid: there is no curve; at this year the curve has no value; at this year it is too far.
pub data CoverFault : Type 0 where
  NoCurve : CoverFault
  Uncovered : ℤ → CoverFault
  Far : ℤ → CoverFault

-- more than 16,384 years: both numerators are thousandths of a year over the gap, and their squares are compared
abbrev pub is_far : Distance → Bool
is_far distance = nat_lt ((16384000 * distance.gap) * (16384000 * distance.gap)) distance.p

-- the fault at a year, where the dating is this far from it; without a value of the curve there is no distance
abbrev pub fault_at : ℤ → Option Distance → Option CoverFault
fault_at year None = Some (Uncovered year)
fault_at year (Some distance) = if is_far distance then Some (Far year) else None

-- the first fault, or the second where there is none
abbrev pub or_fault : Option CoverFault → Option CoverFault → Option CoverFault
or_fault (Some fault) other = Some fault
or_fault None other = other

-- the fault at the oldest year that has one, of so many cells from this one on
abbrev pub fault_from : Scene → Dating → ℕ → ℕ → Option CoverFault
fault_from scene dating cell zero = None
fault_from scene dating cell (suc left) =
    or_fault (fault_at (year_of scene.grid cell) (distance_of scene dating cell)) (fault_from scene dating (cell + 1) left)

-- without a curve that is the fault
abbrev pub on_curve : Curve → Option CoverFault → Option CoverFault
on_curve [] fault = Some NoCurve
on_curve (row ∷ rows) fault = fault

-- why a dating can't be weighed: only one with an error may be at fault
abbrev pub cover_fault : Scene → Dating → Option CoverFault
cover_fault scene Free = None
cover_fault scene (Exact year) = None
cover_fault scene (Normal year error) = fault_from scene (Normal year error) 0 scene.grid.cells
cover_fault scene (Carbon age error) = on_curve scene.curve (fault_from scene (Carbon age error) 0 scene.grid.cells)

-- the fault of the first of these datings that has one
abbrev pub first_fault : Scene → List Dating → Option CoverFault
first_fault scene [] = None
first_fault scene (dating ∷ datings) = or_fault (cover_fault scene dating) (first_fault scene datings)

abbrev pub IsCovered : Scene → Dating → Type 0
IsCovered scene dating = cover_fault scene dating ≡ None

-- each event of the tree can be weighed
abbrev pub AreCovered : Tree → Scene → Type 0
AreCovered tree scene = All (λ dating. IsCovered scene dating) (datings_of tree)
