-- Trees of the definitions as stored data: each is what some node means.
use Rattle.std.specs.Prelude.{◌≡◌, List, [], ◌∷◌, map, refl, Option}
use Rattle.std.proofs.Common.{ap}
use Rattle.std.specs.Coded.{Coded, code_by, coded×, coded_option, coded_list, coded_ℕ}
use Rattle.cg_meaning.specs.Tree as spec
use Rattle.cg_meaning.specs.Tree.{Tree, Trees, none, more, Chronology, Name}
use Rattle.cg_model.specs.Dating.{dating_of}
use Rattle.cg_model.specs.Node.{tree_of, trees_of, trees}
use Rattle.cg_model.specs.declared.dating.Dating.{Dating}
use Rattle.cg_model.specs.declared.dating.Dating.TheVariants.{Free, Exact, Normal, Carbon}
use Rattle.cg_model.specs.declared.node.Node.{Node, roll-Node}
use Rattle.cg_model.specs.declared.node.Node.TheFolds.{fold-roll-Node, fold-roll-Members}
use Rattle.cg_model.specs.declared.node.Node.TheOpen.{Leaf, Boundary, Sequence, Phase, After, Before}
use Rattle.cg_model.specs.declared.node.Members.{Members, roll-Members}
use Rattle.cg_model.specs.contracts.node.Members as members

-- the dating that means this
abbrev pub dating_back : spec.Dating → Dating
dating_back spec.Free = Free
dating_back (spec.Exact year) = Exact year
dating_back (spec.Normal year error) = Normal year error
dating_back (spec.Carbon age error) = Carbon age error

-- a node that means this tree
abbrev mutual
  pub node_of : Tree → Node
  node_of (spec.Leaf name dating) = roll-Node (Leaf name (dating_back dating))
  node_of (spec.Boundary name) = roll-Node (Boundary name)
  node_of (spec.Group spec.Sequence name ts) = roll-Node (Sequence name (roll-Members (record { items = nodes_of ts })))
  node_of (spec.Group spec.Phase name ts) = roll-Node (Phase name (roll-Members (record { items = nodes_of ts })))
  node_of (spec.Group spec.After name ts) = roll-Node (After name (roll-Members (record { items = nodes_of ts })))
  node_of (spec.Group spec.Before name ts) = roll-Node (Before name (roll-Members (record { items = nodes_of ts })))

  pub nodes_of : Trees → List Node
  nodes_of none = []
  nodes_of (more t ts) = node_of t ∷ nodes_of ts

-- members that mean these trees
abbrev pub members_of : Trees → Members
members_of ts = roll-Members (record { items = nodes_of ts })

dating_again : (d : spec.Dating) → dating_of (dating_back d) ≡ d
dating_again spec.Free = refl
dating_again (spec.Exact year) = refl
dating_again (spec.Normal year error) = refl
dating_again (spec.Carbon age error) = refl

mutual
  pub tree_again : (t : Tree) → tree_of (node_of t) ≡ t
  tree_again (spec.Leaf name dating) = simp fold-roll-Node (ap (λ d. spec.Leaf name d) (dating_again dating))
  tree_again (spec.Boundary name) = simp fold-roll-Node refl
  tree_again (spec.Group spec.Sequence name ts) = simp (fold-roll-Node, fold-roll-Members) (ap (λ us. spec.Group spec.Sequence name us) (trees_again ts))
  tree_again (spec.Group spec.Phase name ts) = simp (fold-roll-Node, fold-roll-Members) (ap (λ us. spec.Group spec.Phase name us) (trees_again ts))
  tree_again (spec.Group spec.After name ts) = simp (fold-roll-Node, fold-roll-Members) (ap (λ us. spec.Group spec.After name us) (trees_again ts))
  tree_again (spec.Group spec.Before name ts) = simp (fold-roll-Node, fold-roll-Members) (ap (λ us. spec.Group spec.Before name us) (trees_again ts))

  pub trees_again : (ts : Trees) → trees (map tree_of (nodes_of ts)) ≡ ts
  trees_again none = refl
  trees_again (more t ts) = let e : tree_of (node_of t) ≡ t = tree_again t in let f : trees (map tree_of (nodes_of ts)) ≡ ts = trees_again ts in cc

pub members_again : (ts : Trees) → trees_of (members_of ts) ≡ ts
members_again ts = simp fold-roll-Members (trees_again ts)

abbrev pub coded_trees : Coded Trees
coded_trees = code_by Members members.the_row.coded members_of trees_of members_again

abbrev pub coded_chronology : Coded Chronology
coded_chronology =
    code_by (Option Name × Trees) (coded× (coded_option (coded_list coded_ℕ)) coded_trees) (λ c. (c.curve, c.top))
    (λ p. record { curve = p.0; top = p.1 }) (λ _. refl)
