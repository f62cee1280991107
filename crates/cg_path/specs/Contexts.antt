-- Contexts, in exact whole numbers: the coefficients with which the table of an element enters the total. After the passage of
-- messages on a tree. chron's own.
use Rattle.std.specs.Prelude.{ℕ, suc, ◌+◌, ◌*◌, ◌^◌, Some, ◌==◌, cond, nat_le, if◌then◌else◌}
use Rattle.cg_meaning.specs.Pairs.{span_weight}
use Rattle.cg_meaning.specs.Sums.{sum_below}
use Rattle.cg_part.specs.Tables.{ExactTable, sum_from, cumulated}

-- the entries, for a ≤ b below the number of cells, as of a table
abbrev pub ExactContext : Type 0
ExactContext = ℕ → ℕ → ℕ

-- f c + .. up to the youngest cell
abbrev pub sum_on : ℕ → ℕ → (ℕ → ℕ) → ℕ
sum_on grid_cells c f = sum_below grid_cells (λ d. cond (nat_le c d) (f d) 0)

-- each coefficient with its entry
abbrev pub pair : ℕ → ExactContext → ExactTable → ℕ
pair grid_cells x t = sum_below grid_cells (λ b. sum_from 0 b (λ a. x a b * t a b))

-- each coefficient of an event's cells with its weight
abbrev pub dot : ℕ → (ℕ → ℕ) → (ℕ → ℕ) → ℕ
dot grid_cells r row = sum_below grid_cells (λ y. r y * row y)

-- of the whole tree: what begins at the oldest cell counts once
abbrev pub root : ExactContext
root a b = if a == 0 then 1 else 0

-- of a member of a Phase, q being the table of the other members
abbrev pub into_phase : ℕ → ExactContext → ExactTable → ExactContext
into_phase grid_cells x q a d = x a d * cumulated q a d + sum_on grid_cells (suc d) (λ b. x a b * q a b)

-- of the Phase of an After group's members
abbrev pub into_after : ℕ → ExactContext → ExactContext
into_after grid_cells x a c = if a == 0 then sum_below c (λ d. x d c) + sum_on grid_cells c (λ d. x d d) else 0

-- of the Phase of a Before group's members
abbrev pub into_before : ExactContext → ExactContext
into_before x a b = x a a

-- of what precedes an item of a Sequence, by the item's table
abbrev pub back : ℕ → ExactContext → ExactTable → ExactContext
back grid_cells v t a c = sum_on grid_cells c (λ d. v a d * t c d)

-- by the row of an event
abbrev pub back_row : ℕ → ExactContext → (ℕ → ℕ) → ExactContext
back_row grid_cells v row a c = sum_on grid_cells c (λ d. v a d * row d)

-- of an item of a Sequence, p being the table of what precedes it
abbrev pub into_sequence : ExactTable → ExactContext → ExactContext
into_sequence p v c d = sum_from 0 c (λ a. p a c * v a d)

-- of an event's cells, where it is an item by itself
abbrev pub at_member : ExactTable → ExactContext → ℕ → ℕ
at_member p v y = sum_from 0 y (λ a. cumulated p a y * v a y)

-- of what stands between two Boundaries, of which so many events are open
abbrev pub into_span : ℕ → ExactContext → ℕ → ExactContext
into_span grid_cells x opened a c = sum_on grid_cells c (λ b. x a b * span_weight grid_cells (Some (a, b)) ^ opened)

-- of an event's cells
abbrev pub at_leaf : ExactContext → ℕ → ℕ
at_leaf x y = sum_from 0 y (λ a. x a y)

-- of the Boundary that closes a span, with the span's table
abbrev pub at_end : ExactContext → ExactTable → ℕ → ℕ
at_end x k y = sum_from 0 y (λ a. x a y * k a y)
