-- The items of a Sequence as far as its members have been read.
use Rattle.std.specs.Prelude.{ℕ, Bool, true, if◌then◌else◌}
use Rattle.cg_meaning.specs.Tree.{Trees}
use Rattle.cg_message.specs.Placed.{Placed, Event, Span, Places}
use Rattle.cg_message.specs.Placed.{none, more, elements_with, joined, put_before, items_of, items_behind}
use Rattle.cg_message.specs.Element.{places_in}
use Rattle.cg_message.specs.declared.arranged.Arranged as code

-- The items up to the last Boundary, the elements behind it, or all where there was none, and whether there was one.
pub record Arranged : Type 0 where
  pub closed : Places
  pub segment : Places
  pub behind : Bool

-- what those of the code stand for
abbrev pub arranged_in : code.Arranged → Arranged
arranged_in s = record { closed = places_in s.closed; segment = places_in s.segment; behind = s.behind }

-- with an element that is no Boundary
abbrev pub with_element : Arranged → Placed → Arranged
with_element s e = record { closed = s.closed; segment = elements_with s.segment e; behind = s.behind }

-- with a Boundary, which closes the span where another was before
abbrev pub with_boundary : Arranged → ℕ → ℕ → Arranged
with_boundary s number place = record {
  closed =
      if s.behind
      then elements_with s.closed (Span s.segment number)
      else elements_with (joined s.closed s.segment) (Event number place);
  segment = none;
  behind = true;
}

-- all items, where no more members follow
abbrev pub all_items : Arranged → Places
all_items s = joined s.closed s.segment

-- elements before others, into the span that begins there
abbrev pub all_before : Places → Places → Places
all_before none es = es
all_before (more u us) es = put_before u (all_before us es)

-- all items, where these members follow
abbrev pub items_with : Arranged → ℕ → ℕ → Trees → Places
items_with s number place ts =
    joined s.closed
    (if s.behind then all_before s.segment (items_behind number place ts) else joined s.segment (items_of number place ts))
