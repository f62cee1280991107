-- What ranges are worth. chron's own.
use Rattle.std.specs.Prelude.{◌≢◌, ℕ, ◌*◌, ◌<◌, ◌≤◌, List, length, sum_by, AllPairs}
use Rattle.std.specs.List.{All}
use Rattle.cg_meaning.specs.Tree.{Tree}
use Rattle.cg_meaning.specs.Scene.{Scene}
use Rattle.cg_meaning.specs.Weights.{Weighting, AreAdmitted}
use Rattle.cg_meaning.specs.Posterior.{total, total_at, AreHeld}
use Rattle.cg_marginal.specs.Pairs.{ArePairs}
use Rattle.cg_ranges.specs.Cover.{lower_sum, cover}

-- at these cells the event has at least so many millionths of its posterior, under every admitted weighting
abbrev pub Covers : Tree → Scene → ℕ → ℕ → List ℕ → Type 0
Covers tree scene event target cells =
    (weighting : Weighting) → AreAdmitted tree scene weighting →
    target * total tree scene weighting ≤ 1000000 * sum_by (λ cell. total_at tree scene weighting event cell) cells

-- different cells of these pairs whose lower ends together reach the target
pub record IsCover (pairs : List (ℕ × ℕ)) (target : ℕ) (cells : List ℕ) : Type 0 where
  pub within : All (λ cell. cell < length pairs) cells
  pub distinct : AllPairs (λ a b. a ≢ b) cells
  pub enough : target ≤ lower_sum pairs cells

-- The chosen cells cover the target, no fewer cells do, and where the pairs hold for an event they have that part of
-- its posterior.
pub record IsLeastCover (pairs : List (ℕ × ℕ)) (target : ℕ) : Type 0 where
  pub covers : IsCover pairs target (cover pairs target)
  pub least : (cells : List ℕ) → IsCover pairs target cells → length (cover pairs target) ≤ length cells
  pub posterior : (tree : Tree) (scene : Scene) (event : ℕ) → AreHeld tree scene event pairs →
      Covers tree scene event target (cover pairs target)

-- So it is of the pairs of every marginal of at most 512 cells, and of every target up to 998,464.
abbrev pub RangesCover : Type 0
RangesCover =
    (pairs : List (ℕ × ℕ)) (target : ℕ) → ArePairs pairs → length pairs ≤ 512 → target ≤ 998464 →
    IsLeastCover pairs target
