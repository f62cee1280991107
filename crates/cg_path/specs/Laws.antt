-- What holds of contexts in exact whole numbers. chron's own.
use Rattle.std.specs.Prelude.{◌≡◌, ℕ, ◌<◌, ◌≤◌, ◌==◌, cond}
use Rattle.cg_meaning.specs.Tree.{Tree, count}
use Rattle.cg_meaning.specs.Scene.{Scene}
use Rattle.cg_meaning.specs.Weights.{Weighting, held_at}
use Rattle.cg_meaning.specs.Posterior.{total_at}
use Rattle.cg_part.specs.Elements.{element_of}
use Rattle.cg_part.specs.Tables.{ExactTable, identity, row_table, then_table, beside, after_group, before_group, spanned, table_of, table_total, rows_of}
use Rattle.cg_path.specs.Contexts.{ExactContext, pair, dot, root, into_phase, into_after, into_before, back, back_row, into_sequence, at_member, into_span, at_leaf, at_end}
use Rattle.cg_path.specs.Path.{entry_at}

-- What each call gives is the coefficients of what it leads to.
pub record GiveCoefficients (grid_cells : ℕ) (x : ExactContext) : Type 0 where
  pub whole : (t : ExactTable) → table_total grid_cells t ≡ pair grid_cells root t
  pub phase : (q t : ExactTable) → pair grid_cells x (beside q t) ≡ pair grid_cells (into_phase grid_cells x q) t
  pub after : (t : ExactTable) → pair grid_cells x (after_group t) ≡ pair grid_cells (into_after grid_cells x) t
  pub before : (t : ExactTable) → pair grid_cells x (before_group grid_cells t) ≡ pair grid_cells (into_before x) t
  pub preceding : (p t : ExactTable) → pair grid_cells x (then_table p t) ≡ pair grid_cells (back grid_cells x t) p
  pub preceding_row : (p : ExactTable) (row : ℕ → ℕ) →
      pair grid_cells x (then_table p (row_table row)) ≡ pair grid_cells (back_row grid_cells x row) p
  pub sequence : (p t : ExactTable) → pair grid_cells x (then_table p t) ≡ pair grid_cells (into_sequence p x) t
  pub member : (p : ExactTable) (row : ℕ → ℕ) → pair grid_cells x (then_table p (row_table row)) ≡ dot grid_cells (at_member p x) row
  pub span : (m : ExactTable) (opened : ℕ) → pair grid_cells x (spanned grid_cells m opened) ≡ pair grid_cells (into_span grid_cells x opened) m
  pub leaf : (row : ℕ → ℕ) → pair grid_cells x (row_table row) ≡ dot grid_cells (at_leaf x) row
  -- a table of which only what reaches the cell is left
  pub end : (k : ExactTable) (y : ℕ) → y < grid_cells →
      pair grid_cells x (λ a b. cond (b == y) (k a b) 0) ≡ at_end x k y

abbrev pub CallsGiveCoefficients : Type 0
CallsGiveCoefficients = (grid_cells : ℕ) (x : ExactContext) → GiveCoefficients grid_cells x

-- Side by side the order does not count, entry by entry.
pub record IsInAnyOrder (a b : ℕ) : Type 0 where
  pub swapped : (s t : ExactTable) → beside s t a b ≡ beside t s a b
  pub regrouped : (s t u : ExactTable) → beside (beside s t) u a b ≡ beside s (beside t u) a b
  pub nothing : (t : ExactTable) → beside identity t a b ≡ t a b

abbrev pub OrderDoesNotCount : Type 0
OrderDoesNotCount = (a b : ℕ) → a ≤ b → IsInAnyOrder a b

-- the entry of an event is the total of the tree's table with the event's row zero but at the cell
abbrev pub EntriesAreHeldTotals : Type 0
EntriesAreHeldTotals =
    (grid_cells : ℕ) (rows : ℕ → ℕ → ℕ) (tree : Tree) (event cell : ℕ) → event < count tree → cell < grid_cells →
    entry_at grid_cells rows event cell (element_of 0 tree) root
    ≡ table_total grid_cells (table_of grid_cells (held_at event cell rows) (element_of 0 tree))

-- and so the sum of the weights of the allowed datings with the event there
abbrev pub EntriesAreTotals : Type 0
EntriesAreTotals =
    (scene : Scene) (weighting : Weighting) (tree : Tree) (event cell : ℕ) → event < count tree → cell < scene.grid.cells →
    entry_at scene.grid.cells (rows_of scene weighting tree) event cell (element_of 0 tree) root ≡ total_at tree scene weighting event cell
