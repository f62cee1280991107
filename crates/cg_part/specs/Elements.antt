-- A tree as its tables see it: its events by their numbers, in groups, where what stands between two Boundaries is one. After
-- Bronk Ramsey 2009, each event there has the density of the span.
use Rattle.std.specs.Prelude.{ℕ, ◌+◌, Bool, false, ◌||◌, ◌==◌}
use Rattle.cg_meaning.specs.Tree as tree
use Rattle.cg_meaning.specs.Tree.{Tree, Trees, Kind, Sequence, Phase, After, Before, count}

-- An event, a group of elements, or a span: what stands between two Boundaries, and the number of the one that closes it.
mutual
  pub data Element : Type 0 where
    Event : ℕ → Element
    Group : Kind → Elements → Element
    Span : Elements → ℕ → Element

  pub data Elements : Type 0 where
    none : Elements
    more : Element → Elements → Elements

-- before the elements behind a Boundary: into the span that begins there, where another Boundary closes it
abbrev pub put_before : Element → Elements → Elements
put_before e none = more e none
put_before e (more (Event number) es) = more e (more (Event number) es)
put_before e (more (Group kind us) es) = more e (more (Group kind us) es)
put_before e (more (Span us closing) es) = more (Span (more e us) closing) es

-- The element of a node, whose events are numbered from `number`.
abbrev mutual
  pub element_of : ℕ → Tree → Element
  element_of number (tree.Leaf name dating) = Event number
  element_of number (tree.Boundary name) = Event number
  element_of number (tree.Group Sequence name ts) = Group Sequence (items_of number ts)
  element_of number (tree.Group Phase name ts) = Group Phase (members_of number ts)
  element_of number (tree.Group After name ts) = Group After (members_of number ts)
  element_of number (tree.Group Before name ts) = Group Before (members_of number ts)

  -- of members that bound each other in no way
  pub members_of : ℕ → Trees → Elements
  members_of number tree.none = none
  members_of number (tree.more t ts) = more (element_of number t) (members_of (number + count t) ts)

  -- of those of a Sequence, up to its first Boundary
  pub items_of : ℕ → Trees → Elements
  items_of number tree.none = none
  items_of number (tree.more (tree.Boundary name) ts) = more (Event number) (items_behind (number + 1) ts)
  items_of number (tree.more t ts) = more (element_of number t) (items_of (number + count t) ts)

  -- of those behind a Boundary
  pub items_behind : ℕ → Trees → Elements
  items_behind number tree.none = none
  items_behind number (tree.more (tree.Boundary name) ts) = more (Span none number) (items_behind (number + 1) ts)
  items_behind number (tree.more t ts) = put_before (element_of number t) (items_behind (number + count t) ts)

-- how many events have no pair of Boundaries within the element, and take one from further out
abbrev mutual
  pub open_events : Element → ℕ
  open_events (Event number) = 1
  open_events (Group Sequence es) = open_in es
  open_events (Group Phase es) = open_in es
  open_events (Group After es) = 0
  open_events (Group Before es) = 0
  -- the Boundary that closes it
  open_events (Span es closing) = 1

  pub open_in : Elements → ℕ
  open_in none = 0
  open_in (more e es) = open_events e + open_in es

-- whether an event is in it
abbrev mutual
  pub has : ℕ → Element → Bool
  has event (Event number) = event == number
  has event (Group kind es) = has_among event es
  has event (Span es closing) = has_among event es || event == closing

  pub has_among : ℕ → Elements → Bool
  has_among event none = false
  has_among event (more e es) = has event e || has_among event es
