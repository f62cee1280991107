-- The way down from the root to an event, in exact whole numbers. chron's own.
use Rattle.std.specs.Prelude.{ℕ, ◌*◌, ◌==◌, if◌then◌else◌}
use Rattle.cg_meaning.specs.Tree.{Sequence, Phase, After, Before}
use Rattle.cg_part.specs.Elements.{Element, Event, Group, Span, Elements, none, more, open_in, has}
use Rattle.cg_part.specs.Tables.{ExactTable, identity, then_table, beside, table_of, side_by_side}
use Rattle.cg_path.specs.Contexts.{ExactContext, into_phase, into_after, into_before, back, into_sequence, into_span, at_leaf, at_end}

-- a context with the row of the Boundary that closes a span
abbrev pub weighed : ExactContext → (ℕ → ℕ) → ExactContext
weighed x row a b = x a b * row b

-- the context of what precedes these items, the last of a Sequence, by that of the Sequence
abbrev pub preceding_all : ℕ → (ℕ → ℕ → ℕ) → Elements → ExactContext → ExactContext
preceding_all grid_cells rows none x = x
preceding_all grid_cells rows (more e es) x = back grid_cells (preceding_all grid_cells rows es x) (table_of grid_cells rows e)

-- The entry of an event at a cell, by the context of an element that has the event.
abbrev mutual
  pub entry_at : ℕ → (ℕ → ℕ → ℕ) → ℕ → ℕ → Element → ExactContext → ℕ
  entry_at grid_cells rows event cell (Event number) x = at_leaf x cell * rows number cell
  entry_at grid_cells rows event cell (Group Sequence es) x = entry_in_order grid_cells rows event cell identity es x
  entry_at grid_cells rows event cell (Group Phase es) x = entry_beside grid_cells rows event cell identity es x
  entry_at grid_cells rows event cell (Group After es) x = entry_beside grid_cells rows event cell identity es (into_after grid_cells x)
  entry_at grid_cells rows event cell (Group Before es) x = entry_beside grid_cells rows event cell identity es (into_before x)
  entry_at grid_cells rows event cell (Span es closing) x =
      if event == closing
      then at_end x (table_of grid_cells rows (Span es closing)) cell
      else entry_in_order grid_cells rows event cell identity es (into_span grid_cells (weighed x (rows closing)) (open_in es))

  -- among items of a Sequence, with the table of those before them
  pub entry_in_order : ℕ → (ℕ → ℕ → ℕ) → ℕ → ℕ → ExactTable → Elements → ExactContext → ℕ
  entry_in_order grid_cells rows event cell before none x = 0
  entry_in_order grid_cells rows event cell before (more e es) x =
      if has event e
      then entry_at grid_cells rows event cell e (into_sequence before (preceding_all grid_cells rows es x))
      else entry_in_order grid_cells rows event cell (then_table before (table_of grid_cells rows e)) es x

  -- among members of a Phase, with the table of the others so far
  pub entry_beside : ℕ → (ℕ → ℕ → ℕ) → ℕ → ℕ → ExactTable → Elements → ExactContext → ℕ
  entry_beside grid_cells rows event cell others none x = 0
  entry_beside grid_cells rows event cell others (more e es) x =
      if has event e
      then entry_at grid_cells rows event cell e (into_phase grid_cells x (side_by_side grid_cells rows others es))
      else entry_beside grid_cells rows event cell (beside others (table_of grid_cells rows e)) es x
