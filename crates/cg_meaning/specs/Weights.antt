-- The weights that an event's own dating gives to the cells. The likelihood of a radiocarbon date is that of
-- Bronk Ramsey 1995: proportional to e^(-(r - c)^2 / (2 v)) / sqrt(v), for v the sum of both squared errors.
use Rattle.std.specs.Prelude.{◌≡◌, ℕ, ◌+◌, ◌-◌, ◌*◌, ◌^◌, ◌<◌, ◌≤◌, ◌==◌, cond, if◌then◌else◌, Option, Some, None, ℤ, pos, ◌-ℤ◌, ◌*ℤ◌, slice_get, unsigned_abs, option_map}
use Rattle.cg_meaning.specs.Tree.{Tree, Dating, Free, Exact, Normal, Carbon, datings_of}
use Rattle.cg_meaning.specs.Curve.{Point, point_at}
use Rattle.cg_meaning.specs.Scene.{Scene, year_of}
use Rattle.cg_meaning.specs.Taylor.{IsHalving, bound_top, bound_bottom}

-- How far a dating is from a cell: z = p / q, and the variance of both errors is q / gap ^ 2.
pub record Distance : Type 0 where
  pub p : ℕ
  pub q : ℕ
  pub gap : ℕ

abbrev pub square : ℤ → ℕ
square x = unsigned_abs x * unsigned_abs x

-- of a year with an error, from another year; a whole year has a thousand thousandths
abbrev pub from_year : ℤ → ℤ → ℤ → Distance
from_year year error at = record { p = square (pos 1000 *ℤ (at -ℤ year)); q = square error; gap = 1 }

-- of a radiocarbon age with an error, from a value of the curve
abbrev pub from_curve : ℤ → ℤ → Point → Distance
from_curve age error point = record {
  p = square ((age *ℤ pos point.gap) -ℤ point.age);
  q = square (error *ℤ pos point.gap) + square point.sigma;
  gap = point.gap;
}

-- how far an event's dating is from a cell; none for a dating without an error, and outside the curve
abbrev pub distance_of : Scene → Dating → ℕ → Option Distance
distance_of scene Free cell = None
distance_of scene (Exact year) cell = None
distance_of scene (Normal year error) cell = Some (from_year year error (year_of scene.grid cell))
distance_of scene (Carbon age error) cell = option_map (λ point. from_curve age error point) (point_at scene.curve (year_of scene.grid cell))

-- Of the multiplier m, the whole number w is a weight at this distance: (w / m) ^ 2 lies between the Taylor bounds of
-- e^-z, which are those of the last terms 17 and 16, times gap ^ 2 / q, but for one part in 2 ^ 64.
pub record IsWeight (m w : ℕ) (distance : Distance) : Type 0 where
  pub halvings : ℕ
  pub halved : IsHalving distance.p distance.q halvings
  pub lower : (2 ^ 64 - 1) * (m * m) * bound_top distance.p distance.q halvings 17 * (distance.gap * distance.gap)
      ≤ 2 ^ 64 * (w * w) * distance.q * bound_bottom distance.q halvings 17
  pub upper : 2 ^ 64 * (w * w) * distance.q * bound_bottom distance.q halvings 16
      ≤ (2 ^ 64 + 1) * (m * m) * bound_top distance.p distance.q halvings 16 * (distance.gap * distance.gap)

abbrev pub IsWeightAt : ℕ → ℕ → Option Distance → Type 0
IsWeightAt m w None = Unit {0}
IsWeightAt m w (Some distance) = IsWeight m w distance

-- one multiplier serves all cells
pub record AreWeights (scene : Scene) (dating : Dating) (weights : ℕ → ℕ) : Type 0 where
  pub multiplier : ℕ
  pub some : 0 < multiplier
  pub each : (cell : ℕ) → cell < scene.grid.cells → IsWeightAt multiplier (weights cell) (distance_of scene dating cell)

-- The weights of an event of this dating, one for each cell, are admitted: 1 at each cell where it has no error.
abbrev pub IsAdmitted : Scene → Dating → (ℕ → ℕ) → Type 0
IsAdmitted scene Free weights = (cell : ℕ) → cell < scene.grid.cells → weights cell ≡ 1
IsAdmitted scene (Exact year) weights = (cell : ℕ) → cell < scene.grid.cells → weights cell ≡ 1
IsAdmitted scene (Normal year error) weights = AreWeights scene (Normal year error) weights
IsAdmitted scene (Carbon age error) weights = AreWeights scene (Carbon age error) weights

-- A weight for each event, by its number, and each cell.
abbrev pub Weighting : Type 0
Weighting = ℕ → ℕ → ℕ

-- each event has the weight 1 at each cell
abbrev pub ones : Weighting
ones event cell = 1

-- the weights of one event are 0 but at one cell
abbrev pub held_at : ℕ → ℕ → Weighting → Weighting
held_at event cell weighting = λ e c. if (e == event) then cond (c == cell) (weighting e c) 0 else weighting e c

-- the weights of each event of the tree are admitted
abbrev pub AreAdmitted : Tree → Scene → Weighting → Type 0
AreAdmitted tree scene weighting =
    (event : ℕ) (dating : Dating) → slice_get (datings_of tree) event ≡ Some dating → IsAdmitted scene dating (weighting event)
