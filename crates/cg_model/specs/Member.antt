-- The members of a group one after another.
use Rattle.std.specs.Prelude.{ℕ, Bool, true, false, map, drop}
use Rattle.cg_meaning.specs.Tree.{Tree, Leaf, Boundary, Group, Trees}
use Rattle.cg_model.specs.Node.{tree_of, trees, items_of}
use Rattle.cg_model.specs.declared.node.Members.{Members}

-- the trees of the members from this place on
abbrev pub trees_from : Members → ℕ → Trees
trees_from members place = trees (map tree_of (drop place (items_of members)))

abbrev pub is_boundary : Tree → Bool
is_boundary (Leaf name dating) = false
is_boundary (Boundary name) = true
is_boundary (Group kind name ts) = false
