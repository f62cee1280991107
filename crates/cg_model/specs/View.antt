-- What a view of a node says.
use Rattle.std.specs.Prelude.{◌<◌}
use Rattle.cg_meaning.specs.Tree as spec
use Rattle.cg_model.specs.Dating.{dating_of}
use Rattle.cg_model.specs.Group.{kind_in, group_of}
use Rattle.cg_model.specs.Node.{trees_of}
use Rattle.cg_model.specs.declared.node.Node.{Node, roll-Node, size-Node}
use Rattle.cg_model.specs.declared.node.Node.TheOpen as node
use Rattle.cg_model.specs.declared.node.Members.{size-Members}
use Rattle.cg_model.specs.declared.view.View.{View}
use Rattle.cg_model.specs.declared.view.View.TheVariants.{Leaf, Boundary, Group}

-- the tree that is seen
abbrev pub tree_seen : View → spec.Tree
tree_seen (Leaf name dating) = spec.Leaf name.now (dating_of dating.now)
tree_seen (Boundary name) = spec.Boundary name.now
tree_seen (Group kind name members) = spec.Group (kind_in kind) name.now (trees_of members.now)

-- the node that is seen
abbrev pub node_seen : View → Node
node_seen (Leaf name dating) = roll-Node (node.Leaf name.now dating.now)
node_seen (Boundary name) = roll-Node (node.Boundary name.now)
node_seen (Group kind name members) = group_of kind name.now members.now

-- the members that are seen are less deep than the node
abbrev pub IsDeeper : Node → View → Type 0
IsDeeper node (Leaf name dating) = Unit {0}
IsDeeper node (Boundary name) = Unit {0}
IsDeeper node (Group kind name members) = size-Members members.now < size-Node node
