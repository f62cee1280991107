-- Members and the trees that they mean.
use Rattle.std.proofs.Common.{◌≡◌, ℕ, ◌+◌, ◌<◌, ◌≤◌, List, [], ◌∷◌, ◌++◌, map, length, drop, get_or, refl, sym, ap, ap₂, ◌∙◌, add-one, drop-cons}
use Rattle.std.proofs.lemmas.List.{drop_all}
use Rattle.cg_meaning.specs.Tree as spec
use Rattle.cg_meaning.specs.Tree.{Name, Tree, Trees, none, more}
use Rattle.cg_model.specs.Node.{tree_of, trees, trees_with, trees_of, items_of, node_step, members_step}
use Rattle.cg_model.specs.declared.node.Node.{Node}
use Rattle.cg_model.specs.declared.node.Node.TheFolds.{fold-roll-Node, fold-roll-Members}
use Rattle.cg_model.specs.Dating.{dating_of}
use Rattle.cg_model.specs.declared.dating.Dating.{Dating}
use Rattle.cg_model.specs.declared.node.Node.TheOpen as layer
use Rattle.cg_model.specs.declared.node.Node.TheBlock.{Leaf, Boundary}
use Rattle.cg_model.specs.declared.node.Node.TheViews.{roll-Node, Sequence, Phase, After, Before}
use denote.Hole.Carrier.{roll}
use Rattle.cg_model.specs.declared.node.Members.{Members}

-- the trees of members are those of their nodes
pub trees_of-all : (members : Members) → trees_of members ≡ trees (map tree_of (items_of members))
trees_of-all members = fold-roll-Members Tree Trees node_step members_step (record { items = items_of members })

-- one more node adds its tree
pub trees-push : (items : List Node) (node : Node) → trees (map tree_of (items ++ node ∷ [])) ≡ trees_with (trees (map tree_of items)) (tree_of node)
trees-push [] node = refl
trees-push (x ∷ xs) node = ap (λ ts. more (tree_of x) ts) (trees-push xs node)

-- the trees from one member on
abbrev pub trees_from : List Node → ℕ → Trees
trees_from items i = trees (map tree_of (drop i items))

-- they begin with that member's own
pub trees_from-next : (items : List Node) (i : ℕ) (x : Node) → i < length items → x ≡ get_or items i x → trees_from items i ≡ more (tree_of x) (trees_from items (i + 1))
trees_from-next items i x within is =
    ap (λ xs. trees (map tree_of xs)) (drop-cons items i x within ∙ ap₂ (λ y ys. y ∷ ys) (sym is) (ap (λ j. drop j items) (sym (add-one i))))

-- and past the last member there are none
pub trees_from-past : (items : List Node) (i : ℕ) → length items ≤ i → trees_from items i ≡ none
trees_from-past items i past = ap (λ xs. trees (map tree_of xs)) (drop_all i items past)

-- the tree of a leaf, of a Boundary and of each kind of group
pub tree_of-Leaf : (name : Name) (dating : Dating) → tree_of (Leaf name dating) ≡ spec.Leaf name (dating_of dating)
unfolding roll-Node roll
tree_of-Leaf name dating = fold-roll-Node Tree Trees node_step members_step (layer.Leaf name dating)

pub tree_of-Boundary : (name : Name) → tree_of (Boundary name) ≡ spec.Boundary name
unfolding roll-Node roll
tree_of-Boundary name = fold-roll-Node Tree Trees node_step members_step (layer.Boundary name)

pub tree_of-Sequence : (name : Name) (members : Members) → tree_of (Sequence name members) ≡ spec.Group spec.Sequence name (trees_of members)
unfolding roll-Node roll
tree_of-Sequence name members = fold-roll-Node Tree Trees node_step members_step (layer.Sequence name members)

pub tree_of-Phase : (name : Name) (members : Members) → tree_of (Phase name members) ≡ spec.Group spec.Phase name (trees_of members)
unfolding roll-Node roll
tree_of-Phase name members = fold-roll-Node Tree Trees node_step members_step (layer.Phase name members)

pub tree_of-After : (name : Name) (members : Members) → tree_of (After name members) ≡ spec.Group spec.After name (trees_of members)
unfolding roll-Node roll
tree_of-After name members = fold-roll-Node Tree Trees node_step members_step (layer.After name members)

pub tree_of-Before : (name : Name) (members : Members) → tree_of (Before name members) ≡ spec.Group spec.Before name (trees_of members)
unfolding roll-Node roll
tree_of-Before name members = fold-roll-Node Tree Trees node_step members_step (layer.Before name members)
