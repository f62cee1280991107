-- One more tree behind others: what it adds to their counts, and that places and ranges stay right.
use Rattle.std.proofs.Common.{◌≡◌, ◌+◌, [], ◌++◌, max, sym, ap, ◌∙◌, arith, append_assoc}
use Rattle.std.specs.Prelude.{All}
use Rattle.std.proofs.lemmas.List.{append-nil}
use Rattle.std.proofs.lemmas.List.Elements.{All-nil, All-cons, All-append}
use Rattle.cg_meaning.specs.Tree as spec
use Rattle.cg_meaning.specs.Tree.{Kind, Name, Tree, Trees, none, more, count, count_all, datings_of, datings_of_all, nodes_of, nodes_of_all}
use Rattle.cg_model.specs.Dating.{dating_of}
use Rattle.cg_model.specs.Limits.{groups_of, groups_in, depth_of, depth_in, HoldsBoundaries, IsInPlace, AreInPlace, IsInRange, AreInRange}
use Rattle.cg_model.specs.Node.{tree_of, trees_with}
use Rattle.cg_model.specs.declared.dating.Dating.{Dating}
use Rattle.cg_model.specs.declared.node.Node.TheBlock.{Leaf, Boundary}
use Rattle.cg_model.proofs.NodeLemmas.{tree_of-Leaf, tree_of-Boundary}

-- its events come to theirs
pub count_all-trees_with : (ts : Trees) (t : Tree) → count_all (trees_with ts t) ≡ count_all ts + count t
count_all-trees_with none t = omega arith
count_all-trees_with (more u us) t = omega (arith, count_all-trees_with us t)

-- and its groups
pub groups_in-trees_with : (ts : Trees) (t : Tree) → groups_in (trees_with ts t) ≡ groups_in ts + groups_of t
groups_in-trees_with none t = omega arith
groups_in-trees_with (more u us) t = omega (arith, groups_in-trees_with us t)

-- the deeper of both counts
pub depth_in-trees_with : (ts : Trees) (t : Tree) → depth_in (trees_with ts t) ≡ max (depth_in ts) (depth_of t)
depth_in-trees_with none t = omega arith
depth_in-trees_with (more u us) t = omega (arith, depth_in-trees_with us t)

-- its datings stand behind theirs
pub datings_of_all-trees_with : (ts : Trees) (t : Tree) → datings_of_all (trees_with ts t) ≡ datings_of_all ts ++ datings_of t
datings_of_all-trees_with none t = append-nil (datings_of t)
datings_of_all-trees_with (more u us) t = ap (λ ds. datings_of u ++ ds) (datings_of_all-trees_with us t) ∙ sym (append_assoc (datings_of u) (datings_of_all us) (datings_of t))

-- and its nodes
pub nodes_of_all-trees_with : (ts : Trees) (t : Tree) → nodes_of_all (trees_with ts t) ≡ nodes_of_all ts ++ nodes_of t
nodes_of_all-trees_with none t = append-nil (nodes_of t)
nodes_of_all-trees_with (more u us) t = ap (λ ns. nodes_of u ++ ns) (nodes_of_all-trees_with us t) ∙ sym (append_assoc (nodes_of u) (nodes_of_all us) (nodes_of t))

-- places stay right
pub AreInPlace-trees_with : (kind : Kind) (ts : Trees) (t : Tree) → AreInPlace kind ts → IsInPlace kind t → AreInPlace kind (trees_with ts t)
AreInPlace-trees_with kind none t placed here = (here, tt)
AreInPlace-trees_with kind (more u us) t placed here = (placed.0, AreInPlace-trees_with kind us t placed.1 here)

-- ranges stay right
pub AreInRange-trees_with : (ts : Trees) (t : Tree) → AreInRange ts → All IsInRange (datings_of t) → AreInRange (trees_with ts t)
AreInRange-trees_with ts t ranged here = rw (datings_of_all-trees_with ts t) (All-append IsInRange (datings_of_all ts) (datings_of t) ranged here)

-- a leaf may stand anywhere
pub IsInPlace-Leaf : (kind : Kind) (name : Name) (dating : Dating) → IsInPlace kind (tree_of (Leaf name dating))
IsInPlace-Leaf kind name dating = rw tree_of-Leaf tt

-- and is in range where its dating is
pub IsInRange-Leaf : (name : Name) (dating : Dating) → IsInRange (dating_of dating) → All IsInRange (datings_of (tree_of (Leaf name dating)))
IsInRange-Leaf name dating ranged = rw tree_of-Leaf (All-cons IsInRange (dating_of dating) [] ranged (All-nil IsInRange))

-- a Boundary may stand where its group holds Boundaries
pub IsInPlace-Boundary : (kind : Kind) (name : Name) → HoldsBoundaries kind → IsInPlace kind (tree_of (Boundary name))
IsInPlace-Boundary kind name holds = rw tree_of-Boundary holds

-- and is in range
pub IsInRange-Boundary : (name : Name) → All IsInRange (datings_of (tree_of (Boundary name)))
IsInRange-Boundary name = rw tree_of-Boundary (All-cons IsInRange spec.Free [] tt (All-nil IsInRange))
