use Rattle.std.proofs.Common.{◌≡◌, ◌++◌, map}
use Rattle.cg_meaning.specs.Tree.{datings_of_all}
use Rattle.cg_model.specs.Dating.{dating_of}
use Rattle.cg_model.specs.Node.{trees_of}
use Rattle.cg_model.proofs.NodeLemmas.{trees_from}
use Rattle.cg_message.proofs.datings.+datings.Given as goal

-- the datings so far and those of the members that are left are all
abbrev pub invariant-push_all-loop-node : goal.invariant-push_all-loop-node
invariant-push_all-loop-node l =
    map dating_of l.datings.items ++ datings_of_all (trees_from l.node-items l.node-index) ≡ map dating_of l.fn.datings.items ++ datings_of_all (trees_of l.members)
