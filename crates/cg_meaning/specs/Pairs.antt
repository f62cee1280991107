-- The Boundary pair of an event, and the weight of its span: after Bronk Ramsey 2009, events between uniform Boundaries
-- at a and b have density 1 / (b - a), here 1 / (b - a + 1) on the cells of the grid.
use Rattle.std.specs.Prelude.{ℕ, ◌+◌, ◌-◌, ◌*◌, ◌/◌, zero, suc, Option, Some, None, List, [], ◌∷◌, ◌++◌, slice_index}
use Rattle.cg_meaning.specs.Tree.{Tree, Leaf, Boundary, Group, Trees, none, more, Sequence, Phase, After, Before, count}

-- the first Boundary among these members, whose events are numbered from `number`
abbrev pub boundary_after : ℕ → Trees → Option ℕ
boundary_after number none = None
boundary_after number (more (Boundary name) ts) = Some number
boundary_after number (more t ts) = boundary_after (number + count t) ts

-- the Boundaries on each side where both are there, else the pair from further out
abbrev pub pair_of : Option ℕ → Option ℕ → Option (ℕ × ℕ) → Option (ℕ × ℕ)
pair_of (Some before) (Some after) outer = Some (before, after)
pair_of (Some before) None outer = outer
pair_of None after outer = outer

-- The Boundary pair of each event, as the numbers of both Boundaries: the events are numbered from `number`, and `outer` is
-- the pair from further out.
abbrev mutual
  pub pairs_of : Option (ℕ × ℕ) → ℕ → Tree → List (Option (ℕ × ℕ))
  pairs_of outer number (Leaf name d) = outer ∷ []
  pairs_of outer number (Boundary name) = outer ∷ []
  pairs_of outer number (Group Sequence name ts) = pairs_in_sequence outer None number ts
  pairs_of outer number (Group Phase name ts) = pairs_of_all outer number ts
  -- no pair from further out reaches into these
  pairs_of outer number (Group After name ts) = pairs_of_all None number ts
  pairs_of outer number (Group Before name ts) = pairs_of_all None number ts

  pub pairs_of_all : Option (ℕ × ℕ) → ℕ → Trees → List (Option (ℕ × ℕ))
  pairs_of_all outer number none = []
  pairs_of_all outer number (more t ts) = pairs_of outer number t ++ pairs_of_all outer (number + count t) ts

  -- of members of a Sequence, with the nearest Boundary before them; a Boundary's own Sequence gives it no pair
  pub pairs_in_sequence : Option (ℕ × ℕ) → Option ℕ → ℕ → Trees → List (Option (ℕ × ℕ))
  pairs_in_sequence outer before number none = []
  pairs_in_sequence outer before number (more (Boundary name) ts) = outer ∷ pairs_in_sequence outer (Some number) (number + 1) ts
  pairs_in_sequence outer before number (more t ts) =
      pairs_of (pair_of before (boundary_after (number + count t) ts) outer) number t ++ pairs_in_sequence outer before (number + count t) ts

-- those of a whole tree
abbrev pub boundary_pairs : Tree → List (Option (ℕ × ℕ))
boundary_pairs tree = pairs_of None 0 tree

-- the cells of a pair, where the events are at these cells
abbrev pub pair_at : List ℕ → Option (ℕ × ℕ) → Option (ℕ × ℕ)
pair_at cells None = None
pair_at cells (Some pair) = Some (slice_index cells pair.0, slice_index cells pair.1)

abbrev pub factorial : ℕ → ℕ
factorial zero = 1
factorial (suc n) = suc n * factorial n

-- G! over the number of cells from the one Boundary to the other, and 1 without a pair
abbrev pub span_weight : ℕ → Option (ℕ × ℕ) → ℕ
span_weight grid_cells None = 1
span_weight grid_cells (Some pair) = factorial grid_cells / (pair.1 - pair.0 + 1)
