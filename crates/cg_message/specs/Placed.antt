-- Elements with places: each event and each group of a node as an element, with its node's place in the text. chron's own.
use Rattle.std.specs.Prelude.{ℕ, ◌+◌, List, [], ◌∷◌}
use Rattle.cg_meaning.specs.Tree as tree
use Rattle.cg_meaning.specs.Tree.{Tree, Trees, Kind, Sequence, Phase, After, Before, count}
use Rattle.cg_part.specs.Elements as part
use Rattle.cg_message.specs.Parts.{size_of}

-- An event by its number and its place, a group by its place, or a span with the number of the event that closes it.
mutual
  pub data Placed : Type 0 where
    Event : ℕ → ℕ → Placed
    Group : Kind → ℕ → Places → Placed
    Span : Places → ℕ → Placed

  pub data Places : Type 0 where
    none : Places
    more : Placed → Places → Places

-- without places
abbrev mutual
  pub bare : Placed → part.Element
  bare (Event number place) = part.Event number
  bare (Group kind place es) = part.Group kind (bare_all es)
  bare (Span es closing) = part.Span (bare_all es) closing

  pub bare_all : Places → part.Elements
  bare_all none = part.none
  bare_all (more e es) = part.more (bare e) (bare_all es)

-- elements one after another
abbrev pub listed : List Placed → Places
listed [] = none
listed (e ∷ es) = more e (listed es)

-- elements with one more behind them
abbrev pub elements_with : Places → Placed → Places
elements_with none e = more e none
elements_with (more u us) e = more u (elements_with us e)

-- elements with others behind them
abbrev pub joined : Places → Places → Places
joined none es = es
joined (more u us) es = more u (joined us es)

-- before the elements behind a Boundary: into the span that begins there, where another Boundary closes it
abbrev pub put_before : Placed → Places → Places
put_before e none = more e none
put_before e (more (Event number place) es) = more e (more (Event number place) es)
put_before e (more (Group kind place us) es) = more e (more (Group kind place us) es)
put_before e (more (Span us closing) es) = more (Span (more e us) closing) es

-- The element of a node at a place, whose events are numbered from `number`.
abbrev mutual
  pub placed_of : ℕ → ℕ → Tree → Placed
  placed_of number place (tree.Leaf name dating) = Event number place
  placed_of number place (tree.Boundary name) = Event number place
  placed_of number place (tree.Group Sequence name ts) = Group Sequence place (items_of number (place + 1) ts)
  placed_of number place (tree.Group Phase name ts) = Group Phase place (members_of number (place + 1) ts)
  placed_of number place (tree.Group After name ts) = Group After place (members_of number (place + 1) ts)
  placed_of number place (tree.Group Before name ts) = Group Before place (members_of number (place + 1) ts)

  -- of members that bound each other in no way
  pub members_of : ℕ → ℕ → Trees → Places
  members_of number place tree.none = none
  members_of number place (tree.more t ts) = more (placed_of number place t) (members_of (number + count t) (place + size_of t) ts)

  -- of those of a Sequence, up to its first Boundary
  pub items_of : ℕ → ℕ → Trees → Places
  items_of number place tree.none = none
  items_of number place (tree.more (tree.Boundary name) ts) = more (Event number place) (items_behind (number + 1) (place + 1) ts)
  items_of number place (tree.more t ts) = more (placed_of number place t) (items_of (number + count t) (place + size_of t) ts)

  -- of those behind a Boundary
  pub items_behind : ℕ → ℕ → Trees → Places
  items_behind number place tree.none = none
  items_behind number place (tree.more (tree.Boundary name) ts) = more (Span none number) (items_behind (number + 1) (place + 1) ts)
  items_behind number place (tree.more t ts) =
      put_before (placed_of number place t) (items_behind (number + count t) (place + size_of t) ts)
