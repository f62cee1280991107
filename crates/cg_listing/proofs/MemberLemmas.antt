-- Members one after another.
use Rattle.std.proofs.Common.{◌≡◌, ℕ, ◌+◌, List, sym, ap, Some}
use Rattle.std.specs.Prelude.{slice_get}
use Rattle.std.proofs.lemmas.Option.{slice_get_within, get_or_from_slice_get}
use Rattle.cg_meaning.specs.Tree.{more, count, count_all}
use Rattle.cg_model.specs.Node.{tree_of}
use Rattle.cg_model.specs.declared.node.Node.{Node}
use Rattle.cg_model.proofs.NodeLemmas.{trees_from, trees_from-next}

-- the trees from a member on begin with its own
pub trees_from-get : (items : List Node) (place : ℕ) (node : Node) → slice_get items place ≡ Some node →
    trees_from items place ≡ more (tree_of node) (trees_from items (place + 1))
trees_from-get items place node is =
    trees_from-next items place node (slice_get_within items place node is) (sym (get_or_from_slice_get items place node node is))

-- the events from a member on are its own and those of the members behind it
pub events_next : (items : List Node) (place : ℕ) (node : Node) → slice_get items place ≡ Some node →
    count_all (trees_from items place) ≡ count (tree_of node) + count_all (trees_from items (place + 1))
events_next items place node is = ap count_all (trees_from-get items place node is)
