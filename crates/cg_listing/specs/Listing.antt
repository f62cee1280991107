-- The listing of all datings of a small model: chron's own.
use Rattle.std.specs.Prelude.{ℕ, ◌*◌, ◌^◌, ◌<◌, ◌≤◌, ◌&&◌, ◌==◌, Bool, cond, List, length, slice_index, All, Option, Some, None}
use Rattle.cg_meaning.specs.Tree.{Tree}
use Rattle.cg_meaning.specs.Scene.{Scene}
use Rattle.cg_meaning.specs.Weights.{ones}
use Rattle.cg_meaning.specs.Pairs.{factorial}
use Rattle.cg_meaning.specs.Posterior.{allows, weight_of}

-- What the sum of the weights of all datings can't pass: there are cells ^ events of them, and each event has a span
-- weight of at most cells!
abbrev pub largest_sum : ℕ → ℕ → ℕ
largest_sum cells events = (cells * factorial cells) ^ events

-- a list of cells is an allowed dating, in which the one event, if one is given, is at its cell
abbrev pub is_listed : Tree → Scene → Option (ℕ × ℕ) → List ℕ → Bool
is_listed tree scene None cells = allows tree scene cells
is_listed tree scene (Some held) cells = allows tree scene cells && slice_index cells held.0 == held.1

-- what a list of cells adds to the sum
abbrev pub share_of : Tree → Scene → Option (ℕ × ℕ) → List ℕ → ℕ
share_of tree scene held cells = cond (is_listed tree scene held cells) (weight_of tree scene ones cells) 0

-- the first cells of a list with a cell for each event
pub record IsBegun (grid_cells events : ℕ) (cells : List ℕ) : Type 0 where
  pub few : length cells ≤ events
  pub within : All (λ cell. cell < grid_cells) cells
