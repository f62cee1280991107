-- The weights that an event's own dating gives to the cells, as enclosures. The likelihood is that of Bronk Ramsey 1995;
-- its rounding is chron's own.
use Rattle.std.specs.Prelude.{◌≡◌, ℕ, ◌+◌, ◌*◌, ◌^◌, ◌<◌, ◌≤◌, IsFalse, cond, ◌⊎◌, List, [], length, map, Option, Some, None}
use Rattle.std.specs.List.{range_with_len}
use Rattle.cg_enc.specs.Enclosure.{Enclosure, exact_zero}
use Rattle.cg_enc.specs.Rounding.{of_whole, times, over, root, margin}
use Rattle.cg_exp.specs.Exponential.{exp_neg_of}
use Rattle.cg_table.specs.Row.{AreEntries}
use Rattle.cg_table.specs.Table.{row_entry, EnclosesRow}
use Rattle.cg_table.specs.Losses.{greatest_loss, greatest_reach}
use Rattle.cg_meaning.specs.Tree.{Dating, Free, Exact, Normal, Carbon}
use Rattle.cg_meaning.specs.Scene.{Scene, admits}
use Rattle.cg_meaning.specs.Weights.{Distance, distance_of, IsAdmitted}
use Rattle.cg_meaning.specs.Cover.{IsCovered}
use Rattle.cg_model.specs.Grid.{IsGrid}
use Rattle.cg_model.specs.Limits.{IsInRange}
use Rattle.cg_curve.specs.Rows.{IsCurve}
use Rattle.cg_meaning.specs.Curve.{Curve}

-- the root of e^-z gap^2 / q, wider by one unit at each end
unfoldable pub likelihood_of : Distance → Enclosure
likelihood_of distance =
    margin (root (over (times (exp_neg_of distance.p distance.q) (of_whole (distance.gap * distance.gap))) (of_whole distance.q)))

abbrev pub likelihood_or : Option Distance → Enclosure
likelihood_or None = exact_zero
likelihood_or (Some distance) = likelihood_of distance

-- the weight at a cell: 1 where nothing is known, and at an exact year, which is at no other cell
abbrev pub weight_at : Scene → Dating → ℕ → Enclosure
weight_at scene Free cell = of_whole 1
weight_at scene (Exact year) cell = cond (admits scene.grid (Exact year) cell) (of_whole 1) exact_zero
weight_at scene (Normal year error) cell = likelihood_or (distance_of scene (Normal year error) cell)
weight_at scene (Carbon age error) cell = likelihood_or (distance_of scene (Carbon age error) cell)

-- the row of weights
abbrev pub weights_of : Scene → Dating → List Enclosure
weights_of scene dating = map (weight_at scene dating) (range_with_len 0 scene.grid.cells)

-- The row encloses these weights at the cells that the dating admits, over one multiplier for all of them.
pub record EnclosesWeights (scene : Scene) (dating : Dating) (row : List Enclosure) (weights : ℕ → ℕ) : Type 0 where
  pub multiplier : ℕ
  pub some : 0 < multiplier
  pub encloses : EnclosesRow row (λ cell. cond (admits scene.grid dating cell) (weights cell) 0) multiplier

-- What holds of a row of weights: it encloses every admitted list, and loses and reaches little. Where the dating doesn't
-- admit a cell, its entry is zero.
pub record IsLikelihood (scene : Scene) (dating : Dating) (row : List Enclosure) : Type 0 where
  pub each : length row ≡ scene.grid.cells
  pub entries : AreEntries row
  pub zero : (cell : ℕ) → cell < scene.grid.cells → IsFalse (admits scene.grid dating cell) → row_entry row cell ≡ exact_zero
  pub encloses : (weights : ℕ → ℕ) → IsAdmitted scene dating weights → EnclosesWeights scene dating row weights
  pub loss : greatest_loss row ≤ 9 * 2 ^ 30 + 16
  pub reach : greatest_reach row ≤ 1

-- some list of weights is admitted
pub record HasWeights (scene : Scene) (dating : Dating) : Type 0 where
  pub weights : ℕ → ℕ
  pub admitted : IsAdmitted scene dating weights

-- no curve, or the rows of one
abbrev pub IsCurveOrNone : Curve → Type 0
IsCurveOrNone curve = (curve ≡ []) ⊎ IsCurve curve

-- A scene that sessions may have: 1 to 512 years within the range of years, and a curve as it is read, or none.
pub record IsScene (scene : Scene) : Type 0 where
  pub grid : IsGrid scene.grid.oldest scene.grid.cells
  pub curve : IsCurveOrNone scene.curve

-- the row of each dating that can be weighed there encloses all admitted weights, of which there are some
abbrev pub WeightsEnclose : Type 0
WeightsEnclose =
    (scene : Scene) (dating : Dating) → IsScene scene → IsInRange dating → IsCovered scene dating →
    IsLikelihood scene dating (weights_of scene dating) × HasWeights scene dating
