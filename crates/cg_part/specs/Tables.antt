-- The table of an element, in exact whole numbers: an entry for each two cells a ≤ b, from those of its own elements. chron's
-- own.
use Rattle.std.specs.Prelude.{ℕ, suc, ◌+◌, ◌-◌, ◌*◌, ◌^◌, Some, ◌==◌, cond, nat_le, slice_index_or, if◌then◌else◌}
use Rattle.cg_meaning.specs.Tree.{Tree, Sequence, Phase, After, Before, Dating, Free, datings_of}
use Rattle.cg_meaning.specs.Scene.{Scene, admits}
use Rattle.cg_meaning.specs.Weights.{Weighting}
use Rattle.cg_meaning.specs.Pairs.{span_weight}
use Rattle.cg_meaning.specs.Sums.{sum_below}
use Rattle.cg_part.specs.Elements.{Element, Event, Group, Span, Elements, none, more, open_in}

-- the entries, for a ≤ b below the number of cells; what stands elsewhere does not count
abbrev pub ExactTable : Type 0
ExactTable = ℕ → ℕ → ℕ

-- f a + .. + f b
abbrev pub sum_from : ℕ → ℕ → (ℕ → ℕ) → ℕ
sum_from a b f = sum_below (suc b) (λ c. cond (nat_le a c) (f c) 0)

-- what begins at a and reaches b at the latest
abbrev pub cumulated : ExactTable → ExactTable
cumulated t a b = sum_from a b (λ c. t a c)

-- nothing reaches no further
abbrev pub identity : ExactTable
identity a b = cond (a == b) 1 0

-- one event, by its weight at each cell
abbrev pub row_table : (ℕ → ℕ) → ExactTable
row_table row a b = row b

-- one after the other
abbrev pub then_table : ExactTable → ExactTable → ExactTable
then_table s t a b = sum_from a b (λ c. s a c * t c b)

-- side by side: one of both reaches b, the other no further
abbrev pub beside : ExactTable → ExactTable → ExactTable
beside s t a b =
    if a == b then s a b * cumulated t a b else cumulated s a (b - 1) * t a b + s a b * cumulated t a b

-- an After group, by the Phase of its members: nothing before it bounds it
abbrev pub after_group : ExactTable → ExactTable
after_group t a b = if a == b then sum_from 0 a (λ c. t 0 c) else t 0 b

-- a Before group, by the Phase of its members: it bounds nothing behind it
abbrev pub before_group : ℕ → ExactTable → ExactTable
before_group grid_cells t a b = if a == b then sum_from a (grid_cells - 1) (λ c. t a c) else 0

-- Members between two Boundaries, at a and b, of which so many events have no pair of their own: all that reaches b at
-- the latest, and for each of these events the weight of the span.
abbrev pub spanned : ℕ → ExactTable → ℕ → ExactTable
spanned grid_cells t opened a b = cumulated t a b * span_weight grid_cells (Some (a, b)) ^ opened

-- with the Boundary that closes the span
abbrev pub span_item : ℕ → ExactTable → ℕ → (ℕ → ℕ) → ExactTable
span_item grid_cells t opened row a b = spanned grid_cells t opened a b * row b

-- an event's weight at each cell, 0 where its dating does not admit the cell
abbrev pub row_of : Scene → Weighting → ℕ → Dating → ℕ → ℕ
row_of scene weighting event dating cell = cond (admits scene.grid dating cell) (weighting event cell) 0

-- the row of each event of a tree, by its number
abbrev pub rows_of : Scene → Weighting → Tree → ℕ → ℕ → ℕ
rows_of scene weighting tree event = row_of scene weighting event (slice_index_or (datings_of tree) event Free)

-- The table of an element on a grid of so many cells, by the rows of its events.
abbrev mutual
  pub table_of : ℕ → (ℕ → ℕ → ℕ) → Element → ExactTable
  table_of grid_cells rows (Event number) = row_table (rows number)
  table_of grid_cells rows (Group Sequence es) = in_order grid_cells rows identity es
  table_of grid_cells rows (Group Phase es) = side_by_side grid_cells rows identity es
  table_of grid_cells rows (Group After es) = after_group (side_by_side grid_cells rows identity es)
  table_of grid_cells rows (Group Before es) = before_group grid_cells (side_by_side grid_cells rows identity es)
  table_of grid_cells rows (Span es closing) = span_item grid_cells (in_order grid_cells rows identity es) (open_in es) (rows closing)

  -- elements one after another, onto the table of what precedes them
  pub in_order : ℕ → (ℕ → ℕ → ℕ) → ExactTable → Elements → ExactTable
  in_order grid_cells rows before none = before
  in_order grid_cells rows before (more e es) = in_order grid_cells rows (then_table before (table_of grid_cells rows e)) es

  -- elements beside each other, and beside the table of the earlier ones
  pub side_by_side : ℕ → (ℕ → ℕ → ℕ) → ExactTable → Elements → ExactTable
  side_by_side grid_cells rows others none = others
  side_by_side grid_cells rows others (more e es) = side_by_side grid_cells rows (beside others (table_of grid_cells rows e)) es

-- the sum of all that begins at the oldest cell
abbrev pub table_total : ℕ → ExactTable → ℕ
table_total grid_cells t = sum_below grid_cells (λ b. t 0 b)
