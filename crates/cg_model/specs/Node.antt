-- What a node means: its tree.
use Rattle.std.specs.Prelude.{List, [], ◌∷◌}
use Rattle.cg_meaning.specs.Tree as spec
use Rattle.cg_meaning.specs.Tree.{Tree, Trees, none, more}
use Rattle.cg_model.specs.Dating.{dating_of}
use Rattle.cg_model.specs.declared.node.Node.{Node}
use Rattle.cg_model.specs.declared.node.Node.TheFolds.{fold-Node, fold-Members}
use Rattle.cg_model.specs.declared.node.Node.TheOpen.{Node-F, Members-F, Leaf, Boundary, Sequence, Phase, After, Before}
use Rattle.cg_model.specs.declared.node.Members.{Members, out-Members}

-- the trees of members, one after another
abbrev pub trees : List Tree → Trees
trees [] = none
trees (t ∷ ts) = more t (trees ts)

-- trees with one more behind them
abbrev pub trees_with : Trees → Tree → Trees
trees_with none t = more t none
trees_with (more u us) t = more u (trees_with us t)

-- the tree of a node, from those of its members
abbrev pub node_step : Node-F Tree Trees → Tree
node_step (Leaf name dating) = spec.Leaf name (dating_of dating)
node_step (Boundary name) = spec.Boundary name
node_step (Sequence name members) = spec.Group spec.Sequence name members
node_step (Phase name members) = spec.Group spec.Phase name members
node_step (After name members) = spec.Group spec.After name members
node_step (Before name members) = spec.Group spec.Before name members

abbrev pub members_step : Members-F Tree Trees → Trees
members_step members = trees members.items

-- the tree that a node means
abbrev pub tree_of : Node → Tree
tree_of = fold-Node Tree Trees node_step members_step

-- the trees that members mean
abbrev pub trees_of : Members → Trees
trees_of = fold-Members Tree Trees node_step members_step

-- members as a list of nodes
abbrev pub items_of : Members → List Node
items_of members = (out-Members members).items
