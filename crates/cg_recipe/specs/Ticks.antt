-- How many products of two enclosures the recipe makes at most, on a grid of this many cells. chron's own.
use Rattle.std.specs.Prelude.{ℕ, ◌+◌, ◌*◌, ◌/◌, ◌==◌, if◌then◌else◌}
use Rattle.cg_meaning.specs.Tree.{Sequence, Phase, After, Before}
use Rattle.cg_part.specs.Elements.{Element, Event, Group, Span, Elements, none, more, open_in, has}

-- an event after a table; a context back over an event, at one, and at the Boundary that closes a span
abbrev pub row_ticks : ℕ → ℕ
row_ticks cells = cells * (cells + 1) / 2

-- a table after another; a context back over a table, and into an item
abbrev pub then_ticks : ℕ → ℕ
then_ticks cells = cells * (cells + 1) * (cells + 2) / 6

-- a table beside another; a context into a member of a Phase
abbrev pub beside_ticks : ℕ → ℕ
beside_ticks cells = cells * (cells + 1)

-- what stands between two Boundaries, of which so many events are open; a context into it
abbrev pub spanned_ticks : ℕ → ℕ → ℕ
spanned_ticks cells opened = cells * (cells + 1) / 2 + cells * opened

-- an element after a table, or a context back over it or into it
abbrev pub item_ticks : ℕ → Element → ℕ
item_ticks cells (Event number) = row_ticks cells
item_ticks cells (Group kind es) = then_ticks cells
item_ticks cells (Span es closing) = then_ticks cells

-- the table of an element
abbrev mutual
  pub ticks_of : ℕ → Element → ℕ
  ticks_of cells (Event number) = 0
  ticks_of cells (Group Sequence es) = in_order_ticks cells es
  ticks_of cells (Group Phase es) = side_by_side_ticks cells es
  ticks_of cells (Group After es) = side_by_side_ticks cells es
  ticks_of cells (Group Before es) = side_by_side_ticks cells es
  ticks_of cells (Span es closing) = in_order_ticks cells es + spanned_ticks cells (open_in es)

  pub in_order_ticks : ℕ → Elements → ℕ
  in_order_ticks cells none = 0
  in_order_ticks cells (more e es) = ticks_of cells e + item_ticks cells e + in_order_ticks cells es

  pub side_by_side_ticks : ℕ → Elements → ℕ
  side_by_side_ticks cells none = 0
  side_by_side_ticks cells (more e es) = ticks_of cells e + beside_ticks cells + side_by_side_ticks cells es

-- the part of an event in an element, by the element's context: the tables of all that isn't on the way, and each call once
abbrev mutual
  pub part_ticks : ℕ → ℕ → Element → ℕ
  part_ticks cells event (Event number) = 0
  part_ticks cells event (Group Sequence es) = part_in_order_ticks cells event es
  part_ticks cells event (Group Phase es) = part_beside_ticks cells event es
  part_ticks cells event (Group After es) = part_beside_ticks cells event es
  part_ticks cells event (Group Before es) = part_beside_ticks cells event es
  part_ticks cells event (Span es closing) =
      if event == closing
      then ticks_of cells (Span es closing) + row_ticks cells
      else spanned_ticks cells (open_in es) + part_in_order_ticks cells event es

  pub part_in_order_ticks : ℕ → ℕ → Elements → ℕ
  part_in_order_ticks cells event none = 0
  part_in_order_ticks cells event (more e es) =
      if has event e
      then part_ticks cells event e + item_ticks cells e + in_order_ticks cells es
      else ticks_of cells e + item_ticks cells e + part_in_order_ticks cells event es

  pub part_beside_ticks : ℕ → ℕ → Elements → ℕ
  part_beside_ticks cells event none = 0
  part_beside_ticks cells event (more e es) =
      if has event e
      then part_ticks cells event e + beside_ticks cells + side_by_side_ticks cells es
      else ticks_of cells e + beside_ticks cells + part_beside_ticks cells event es
