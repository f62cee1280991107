-- Boundary pairs as cells, member by member, where a node's own events are at these cells.
use Rattle.std.specs.Prelude.{ℕ, Option, Some, None, List, [], ◌∷◌, ◌++◌, take, drop}
use Rattle.cg_meaning.specs.Tree.{Tree, Leaf, Boundary, Group, Trees, none, more, Sequence, Phase, After, Before, count}
use Rattle.cg_meaning.specs.Pairs.{pair_of}

-- the first of the cells
abbrev pub first : List ℕ → Option ℕ
first [] = None
first (c ∷ cs) = Some c

-- the cell of the first Boundary among these members
abbrev pub boundary_at : Trees → List ℕ → Option ℕ
boundary_at none cells = None
boundary_at (more (Boundary name) ts) cells = first cells
boundary_at (more (Leaf name d) ts) cells = boundary_at ts (drop 1 cells)
boundary_at (more (Group kind name us) ts) cells = boundary_at ts (drop (count (Group kind name us)) cells)

-- the cells of each event's pair
abbrev mutual
  pub pairs_at : Option (ℕ × ℕ) → Tree → List ℕ → List (Option (ℕ × ℕ))
  pairs_at outer (Leaf name d) cells = outer ∷ []
  pairs_at outer (Boundary name) cells = outer ∷ []
  pairs_at outer (Group Sequence name ts) cells = pairs_at_sequence outer None ts cells
  pairs_at outer (Group Phase name ts) cells = pairs_at_all outer ts cells
  pairs_at outer (Group After name ts) cells = pairs_at_all None ts cells
  pairs_at outer (Group Before name ts) cells = pairs_at_all None ts cells

  pub pairs_at_all : Option (ℕ × ℕ) → Trees → List ℕ → List (Option (ℕ × ℕ))
  pairs_at_all outer none cells = []
  pairs_at_all outer (more t ts) cells = pairs_at outer t (take (count t) cells) ++ pairs_at_all outer ts (drop (count t) cells)

  -- of members of a Sequence, with the cell of the nearest Boundary before them
  pub pairs_at_sequence : Option (ℕ × ℕ) → Option ℕ → Trees → List ℕ → List (Option (ℕ × ℕ))
  pairs_at_sequence outer before none cells = []
  pairs_at_sequence outer before (more (Boundary name) ts) cells = outer ∷ pairs_at_sequence outer (first cells) ts (drop 1 cells)
  pairs_at_sequence outer before (more (Leaf name d) ts) cells =
      pair_of before (boundary_at ts (drop 1 cells)) outer ∷ pairs_at_sequence outer before ts (drop 1 cells)
  pairs_at_sequence outer before (more (Group kind name us) ts) cells =
      pairs_at (pair_of before (boundary_at ts (drop (count (Group kind name us)) cells)) outer) (Group kind name us) (take (count (Group kind name us)) cells)
      ++ pairs_at_sequence outer before ts (drop (count (Group kind name us)) cells)
