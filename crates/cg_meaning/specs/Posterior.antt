-- The posterior of an event, as a fraction of two sums over all allowed datings: after Bronk Ramsey 1995 and 2009, on a
-- grid and without a prior on the whole span.
use Rattle.std.specs.Prelude.{◌≡◌, ℕ, ◌*◌, ◌<◌, ◌≤◌, Bool, ◌&&◌, ◌==◌, cond, IsTrue, IsFalse, List, length, slice_index, slice_index_or, Option, Some, None}
use Rattle.std.specs.List.{All}
use Rattle.cg_meaning.specs.Tree.{Tree, count, datings_of, paths_of}
use Rattle.cg_meaning.specs.Order.{is_ordered}
use Rattle.cg_meaning.specs.Scene.{Scene, is_dated}
use Rattle.cg_meaning.specs.Weights.{Weighting, AreAdmitted}
use Rattle.cg_meaning.specs.Pairs.{boundary_pairs, pair_at, span_weight}
use Rattle.cg_meaning.specs.Sums.{sum_over, product_from, product_by}

-- a list of cells, one for each event, is an allowed dating
abbrev pub allows : Tree → Scene → List ℕ → Bool
allows tree scene cells = is_ordered (paths_of tree) cells && is_dated scene.grid (datings_of tree) cells

-- the product, over the events, of the weight at the event's cell and of its span weight
abbrev pub weight_of : Tree → Scene → Weighting → List ℕ → ℕ
weight_of tree scene weighting cells =
    product_from 0 weighting cells * product_by (λ pair. span_weight scene.grid.cells (pair_at cells pair)) (boundary_pairs tree)

-- the sum of the weights of all allowed datings
abbrev pub total : Tree → Scene → Weighting → ℕ
total tree scene weighting =
    sum_over scene.grid.cells (count tree) (λ cells. cond (allows tree scene cells) (weight_of tree scene weighting cells) 0)

-- the same for those with this event at this cell
abbrev pub total_at : Tree → Scene → Weighting → ℕ → ℕ → ℕ
total_at tree scene weighting event cell =
    sum_over scene.grid.cells (count tree)
    (λ cells. cond (allows tree scene cells && slice_index cells event == cell) (weight_of tree scene weighting cells) 0)

-- The pair encloses the event's posterior at the cell, in parts per million, under every admitted weighting.
pub record Holds (tree : Tree) (scene : Scene) (event cell : ℕ) (lo hi : ℕ) : Type 0 where
  pub lower : (weighting : Weighting) → AreAdmitted tree scene weighting →
      lo * total tree scene weighting ≤ 1000000 * total_at tree scene weighting event cell
  pub upper : (weighting : Weighting) → AreAdmitted tree scene weighting →
      1000000 * total_at tree scene weighting event cell ≤ hi * total tree scene weighting

-- a cell of the grid for each event
pub record IsPlaced (tree : Tree) (scene : Scene) (cells : List ℕ) : Type 0 where
  pub each : length cells ≡ count tree
  pub within : All (λ cell. cell < scene.grid.cells) cells

-- no dating is allowed
abbrev pub IsImpossible : Tree → Scene → Type 0
IsImpossible tree scene = (cells : List ℕ) → IsPlaced tree scene cells → IsFalse (allows tree scene cells)

-- an allowed dating
pub record IsDating (tree : Tree) (scene : Scene) (cells : List ℕ) : Type 0 where
  pub placed : IsPlaced tree scene cells
  pub allowed : IsTrue (allows tree scene cells)

-- Some dating is allowed, and the pairs hold for the event, one for each cell.
pub record AreHeld (tree : Tree) (scene : Scene) (event : ℕ) (pairs : List (ℕ × ℕ)) : Type 0 where
  pub dating : List ℕ
  pub possible : IsDating tree scene dating
  pub each : length pairs ≡ scene.grid.cells
  pub hold : (cell : ℕ) → cell < scene.grid.cells →
      Holds tree scene event cell (slice_index_or pairs cell (0, 0)).0 (slice_index_or pairs cell (0, 0)).1

-- a marginal of the event: none where no dating is allowed, else pairs that hold
abbrev pub IsMarginal : Tree → Scene → ℕ → Option (List (ℕ × ℕ)) → Type 0
IsMarginal tree scene event None = IsImpossible tree scene
IsMarginal tree scene event (Some pairs) = AreHeld tree scene event pairs
