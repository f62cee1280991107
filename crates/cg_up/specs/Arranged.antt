-- The items of a Sequence as far as its members have been read.
use Rattle.std.specs.Prelude.{ℕ, Bool, true, if◌then◌else◌}
use Rattle.cg_meaning.specs.Tree.{Trees}
use Rattle.cg_part.specs.Elements.{Element, Event, Span, Elements, none, more, put_before, items_of, items_behind}
use Rattle.cg_up.specs.Element.{elements_in, elements_with, joined}
use Rattle.cg_up.specs.declared.arranged.Arranged as code

-- The items up to the last Boundary, the elements behind it, or all where there was none, and whether there was one.
pub record Arranged : Type 0 where
  pub closed : Elements
  pub segment : Elements
  pub behind : Bool

-- what those of the code stand for
abbrev pub arranged_in : code.Arranged → Arranged
arranged_in s = record { closed = elements_in s.closed; segment = elements_in s.segment; behind = s.behind }

-- with an element that is no Boundary
abbrev pub with_element : Arranged → Element → Arranged
with_element s e = record { closed = s.closed; segment = elements_with s.segment e; behind = s.behind }

-- with a Boundary, which closes the span where another was before
abbrev pub with_boundary : Arranged → ℕ → Arranged
with_boundary s number = record {
  closed =
      if s.behind
      then elements_with s.closed (Span s.segment number)
      else elements_with (joined s.closed s.segment) (Event number);
  segment = none;
  behind = true;
}

-- all items, where no more members follow
abbrev pub all_items : Arranged → Elements
all_items s = joined s.closed s.segment

-- elements before others, into the span that begins there
abbrev pub all_before : Elements → Elements → Elements
all_before none es = es
all_before (more u us) es = put_before u (all_before us es)

-- all items, where these members follow
abbrev pub items_with : Arranged → ℕ → Trees → Elements
items_with s number ts =
    joined s.closed
    (if s.behind then all_before s.segment (items_behind number ts) else joined s.segment (items_of number ts))
