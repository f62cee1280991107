-- What holds of every table. chron's own.
use Rattle.std.specs.Prelude.{◌≡◌, ℕ, ◌+◌, ◌*◌, ◌/◌, ◌^◌, ◌<◌, ◌≤◌, ◌&&◌, nat_le, nat_lt, List, Option, Some, None, slice_get}
use Rattle.cg_meaning.specs.Tree.{Tree, Dating, Free, count, datings_of}
use Rattle.cg_meaning.specs.Scene.{Scene}
use Rattle.cg_meaning.specs.Weights.{Weighting, IsAdmitted, held_at}
use Rattle.cg_meaning.specs.Sums.{product_by}
use Rattle.cg_meaning.specs.Pairs.{pairs_of, pair_at, span_weight, factorial}
use Rattle.cg_meaning.specs.Posterior.{total, total_at}
use Rattle.cg_part.specs.Elements.{element_of, has, open_events}
use Rattle.cg_part.specs.Part.{part}
use Rattle.cg_part.specs.Tables.{ExactTable, table_of, table_total, row_of, rows_of, spanned, span_item}

-- an element has the events of its node, and no other
abbrev pub ElementsHaveTheEvents : Type 0
ElementsHaveTheEvents =
    (number : ℕ) (tree : Tree) (event : ℕ) → has event (element_of number tree) ≡ (nat_le number event && nat_lt event (number + count tree))

-- these are the rows of a tree's events, which are numbered from `number`
abbrev pub AreRows : Scene → Weighting → ℕ → Tree → (ℕ → ℕ → ℕ) → Type 0
AreRows scene weighting number tree rows =
    (event : ℕ) (dating : Dating) → slice_get (datings_of tree) event ≡ Some dating →
    (cell : ℕ) → rows (number + event) cell ≡ row_of scene weighting (number + event) dating cell

-- each entry of a node's table is the node's part sum
abbrev pub PartSumsAreTables : Type 0
PartSumsAreTables =
    (scene : Scene) (weighting : Weighting) (number : ℕ) (tree : Tree) (rows : ℕ → ℕ → ℕ) → AreRows scene weighting number tree rows →
    (a b : ℕ) → a ≤ b → b < scene.grid.cells →
    part scene weighting number tree a b ≡ table_of scene.grid.cells rows (element_of number tree) a b

-- the total of the whole tree's table is the sum of the weights of all allowed datings
abbrev pub TotalsAreByTables : Type 0
TotalsAreByTables =
    (scene : Scene) (weighting : Weighting) (tree : Tree) → 0 < scene.grid.cells →
    table_total scene.grid.cells (table_of scene.grid.cells (rows_of scene weighting tree) (element_of 0 tree)) ≡ total tree scene weighting

-- held at a cell by its row, an event gives the sum over the datings with it there
abbrev pub PinnedTotals : Type 0
PinnedTotals =
    (scene : Scene) (weighting : Weighting) (tree : Tree) (event cell : ℕ) → event < count tree → 0 < scene.grid.cells →
    table_total scene.grid.cells (table_of scene.grid.cells (held_at event cell (rows_of scene weighting tree)) (element_of 0 tree))
    ≡ total_at tree scene weighting event cell

-- a pair from further out gives its weight to each open event, and nothing else
abbrev pub OpenEventsCarryThePair : Type 0
OpenEventsCarryThePair =
    (grid_cells : ℕ) (outer : Option (ℕ × ℕ)) (number : ℕ) (tree : Tree) (cells : List ℕ) →
    product_by (λ pair. span_weight grid_cells (pair_at cells pair)) (pairs_of outer number tree)
    ≡ product_by (λ pair. span_weight grid_cells (pair_at cells pair)) (pairs_of None number tree)
    * span_weight grid_cells (pair_at cells outer) ^ open_events (element_of number tree)

-- a Boundary has the weight 1, so that its item is the span's
abbrev pub ClosedSpans : Type 0
ClosedSpans =
    (scene : Scene) (weighting : Weighting) (event : ℕ) → IsAdmitted scene Free (weighting event) →
    (t : ExactTable) (opened a b : ℕ) → b < scene.grid.cells →
    span_item scene.grid.cells t opened (row_of scene weighting event Free) a b ≡ spanned scene.grid.cells t opened a b

-- each number of cells divides G!, so that no weight of a span is rounded
abbrev pub SpansAreExact : Type 0
SpansAreExact = (grid_cells span : ℕ) → 0 < span → span ≤ grid_cells → factorial grid_cells / span * span ≡ factorial grid_cells
