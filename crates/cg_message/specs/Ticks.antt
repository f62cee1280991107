-- How many products of two enclosures a message takes at most, on a grid of this many cells. The table of a group within is
-- taken from its message, and costs nothing. chron's own.
use Rattle.std.specs.Prelude.{ℕ, ◌+◌, ◌==◌, if◌then◌else◌}
use Rattle.cg_meaning.specs.Tree.{Sequence, Phase, After, Before}
use Rattle.cg_part.specs.Elements.{Element, Event, Group, Span, Elements, none, more, open_in, has}
use Rattle.cg_recipe.specs.Ticks.{row_ticks, beside_ticks, spanned_ticks, item_ticks}

-- the table of an element within a group: only that of a span is made, of its segment
abbrev mutual
  pub ticks_of : ℕ → Element → ℕ
  ticks_of cells (Event number) = 0
  ticks_of cells (Group kind es) = 0
  ticks_of cells (Span es closing) = in_order_ticks cells es + spanned_ticks cells (open_in es)

  -- elements one after another
  pub in_order_ticks : ℕ → Elements → ℕ
  in_order_ticks cells none = 0
  in_order_ticks cells (more e es) = ticks_of cells e + item_ticks cells e + in_order_ticks cells es

-- elements beside each other
abbrev pub side_by_side_ticks : ℕ → Elements → ℕ
side_by_side_ticks cells none = 0
side_by_side_ticks cells (more e es) = ticks_of cells e + beside_ticks cells + side_by_side_ticks cells es

-- the table of a group, by those of its members
abbrev pub table_ticks : ℕ → Element → ℕ
table_ticks cells (Event number) = 0
table_ticks cells (Group Sequence es) = in_order_ticks cells es
table_ticks cells (Group Phase es) = side_by_side_ticks cells es
table_ticks cells (Group After es) = side_by_side_ticks cells es
table_ticks cells (Group Before es) = side_by_side_ticks cells es
table_ticks cells (Span es closing) = 0

-- the part of an event in an element, by the element's context: the calls at each group on the way
abbrev mutual
  pub part_ticks : ℕ → ℕ → Element → ℕ
  part_ticks cells event (Event number) = 0
  part_ticks cells event (Group Sequence es) = part_in_order_ticks cells event es
  part_ticks cells event (Group Phase es) = part_beside_ticks cells event es
  part_ticks cells event (Group After es) = part_beside_ticks cells event es
  part_ticks cells event (Group Before es) = part_beside_ticks cells event es
  part_ticks cells event (Span es closing) =
      if event == closing
      then ticks_of cells (Span es closing) + row_ticks cells
      else spanned_ticks cells (open_in es) + part_in_order_ticks cells event es

  pub part_in_order_ticks : ℕ → ℕ → Elements → ℕ
  part_in_order_ticks cells event none = 0
  part_in_order_ticks cells event (more e es) =
      if has event e
      then part_ticks cells event e + item_ticks cells e + in_order_ticks cells es
      else ticks_of cells e + item_ticks cells e + part_in_order_ticks cells event es

  pub part_beside_ticks : ℕ → ℕ → Elements → ℕ
  part_beside_ticks cells event none = 0
  part_beside_ticks cells event (more e es) =
      if has event e
      then part_ticks cells event e + beside_ticks cells + side_by_side_ticks cells es
      else ticks_of cells e + beside_ticks cells + part_beside_ticks cells event es
