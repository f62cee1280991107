-- The recipe of a marginal: the one value that the rounding rules give for a tree, a scene and an event, by plain recursion:
-- tables from the events up, and contexts from the root down to the event. Nothing is kept between two evaluations. chron's own.
use Rattle.std.specs.Prelude.{ℕ, ◌==◌, if◌then◌else◌, List, map, slice_index_or, Option}
use Rattle.std.specs.List.{range_with_len}
use Rattle.cg_enc.specs.Enclosure.{Enclosure, exact_zero}
use Rattle.cg_enc.specs.Rounding.{times}
use Rattle.cg_table.specs.Table.{Table, entry, row_entry}
use Rattle.cg_table.specs.Formulas.{identity_of, row_table, then_row_of, then_of, beside_of, after_of, before_of, spanned_of}
use Rattle.cg_context.specs.Formulas.{root_context, into_phase_of, into_after_of, into_before_of, back_of, back_row_of, into_sequence_of, into_span_of, at_member_entry, at_leaf_entry, at_end_entry}
use Rattle.cg_marginal.specs.Finished.{finished}
use Rattle.cg_meaning.specs.Tree.{Tree, Sequence, Phase, After, Before, Free, datings_of}
use Rattle.cg_meaning.specs.Scene.{Scene}
use Rattle.cg_part.specs.Elements.{Element, Event, Group, Span, Elements, none, more, element_of, open_in, has}
use Rattle.cg_like.specs.Likelihood.{weights_of}

-- a row of weights for each event, by its number
abbrev pub Rows : Type 0
Rows = ℕ → List Enclosure

-- How many cells there are, and the rows of weights.
pub record Pass : Type 0 where
  pub cells : ℕ
  pub rows : Rows

-- an element, which has this table, after what a table has
abbrev pub followed : Pass → Table → Element → Table → Table
followed pass before (Event number) t = then_row_of before (pass.rows number)
followed pass before (Group kind es) t = then_of before t
followed pass before (Span es closing) t = then_of before t

-- The table of an element.
abbrev mutual
  pub table_of : Pass → Element → Table
  table_of pass (Event number) = row_table (pass.rows number)
  table_of pass (Group Sequence es) = in_order pass (identity_of pass.cells) es
  table_of pass (Group Phase es) = side_by_side pass (identity_of pass.cells) es
  table_of pass (Group After es) = after_of (side_by_side pass (identity_of pass.cells) es)
  table_of pass (Group Before es) = before_of (side_by_side pass (identity_of pass.cells) es)
  table_of pass (Span es closing) = spanned_of (in_order pass (identity_of pass.cells) es) (open_in es)

  -- elements one after another, onto the table of what precedes them
  pub in_order : Pass → Table → Elements → Table
  in_order pass before none = before
  in_order pass before (more e es) = in_order pass (followed pass before e (table_of pass e)) es

  -- elements beside each other, and beside the table of the earlier ones
  pub side_by_side : Pass → Table → Elements → Table
  side_by_side pass others none = others
  side_by_side pass others (more e es) = side_by_side pass (beside_of others (table_of pass e)) es

-- the context of what precedes an element, by that of what the element ends
abbrev pub preceding : Pass → Table → Element → Table
preceding pass v (Event number) = back_row_of v (pass.rows number)
preceding pass v (Group kind es) = back_of v (table_of pass (Group kind es))
preceding pass v (Span es closing) = back_of v (table_of pass (Span es closing))

-- that of what precedes these items, the last of a Sequence, by that of the Sequence
abbrev pub preceding_all : Pass → Elements → Table → Table
preceding_all pass none x = x
preceding_all pass (more e es) x = preceding pass (preceding_all pass es x) e

-- the part of an item at a cell, by the table of what precedes it and the context of what it ends: an event's by these, and else
-- that of an event in the item
abbrev pub part_in_item : Pass → ℕ → Table → Table → Element → Enclosure → Enclosure
part_in_item pass cell before v (Event number) part = times (at_member_entry (entry before) (entry v) cell) (row_entry (pass.rows number) cell)
part_in_item pass cell before v (Group kind es) part = part
part_in_item pass cell before v (Span es closing) part = part

-- The part of an event at a cell: what the datings with it there have in all, by the context of an element that has the event.
abbrev mutual
  pub part_at : Pass → ℕ → ℕ → Element → Table → Enclosure
  part_at pass event cell (Event number) x = times (at_leaf_entry (entry x) cell) (row_entry (pass.rows number) cell)
  part_at pass event cell (Group Sequence es) x = part_in_order pass event cell (identity_of pass.cells) es x
  part_at pass event cell (Group Phase es) x = part_beside pass event cell (identity_of pass.cells) es x
  part_at pass event cell (Group After es) x = part_beside pass event cell (identity_of pass.cells) es (into_after_of x)
  part_at pass event cell (Group Before es) x = part_beside pass event cell (identity_of pass.cells) es (into_before_of x)
  part_at pass event cell (Span es closing) x =
      if event == closing
      then at_end_entry (entry x) (entry (table_of pass (Span es closing))) cell
      else part_in_order pass event cell (identity_of pass.cells) es (into_span_of x (open_in es))

  -- among items of a Sequence, with the table of those before them
  pub part_in_order : Pass → ℕ → ℕ → Table → Elements → Table → Enclosure
  part_in_order pass event cell before none x = exact_zero
  part_in_order pass event cell before (more e es) x =
      if has event e
      then part_in_item pass cell before (preceding_all pass es x) e
      (part_at pass event cell e (into_sequence_of before (preceding_all pass es x)))
      else part_in_order pass event cell (followed pass before e (table_of pass e)) es x

  -- among members of a Phase, with the table of the others so far
  pub part_beside : Pass → ℕ → ℕ → Table → Elements → Table → Enclosure
  part_beside pass event cell others none x = exact_zero
  part_beside pass event cell others (more e es) x =
      if has event e
      then part_at pass event cell e (into_phase_of x (side_by_side pass others es))
      else part_beside pass event cell (beside_of others (table_of pass e)) es x

-- the part of an event at each cell, from the root down
abbrev pub parts_of : Pass → ℕ → Element → List Enclosure
parts_of pass event root = map (λ cell. part_at pass event cell root (root_context pass.cells)) (range_with_len 0 pass.cells)

-- the rows of weights of a tree's events
abbrev pub rows_in : Scene → Tree → Rows
rows_in scene tree number = weights_of scene (slice_index_or (datings_of tree) number Free)

-- The marginal of an event: a pair for each cell, or none where all parts are zero.
unfoldable pub recipe : Tree → Scene → ℕ → Option (List (ℕ × ℕ))
recipe tree scene event =
    finished (parts_of (record { cells = scene.grid.cells; rows = rows_in scene tree }) event (element_of 0 tree))
