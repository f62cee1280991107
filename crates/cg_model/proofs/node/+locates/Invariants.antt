use Rattle.std.proofs.Common.{◌≡◌, ◌+◌, length, slice_get}
use Rattle.cg_meaning.specs.Tree.{nodes_of_all}
use Rattle.cg_model.proofs.NodeLemmas.{trees_from}
use Rattle.cg_model.proofs.node.+locates.Given as goal

-- the number among all is the number that is left among the later members
abbrev pub invariant-Members::locate-loop-node : goal.invariant-Members::locate-loop-node
invariant-Members::locate-loop-node l = record {
  here : slice_get (nodes_of_all (trees_from l.node-items 0)) l.place ≡ slice_get (nodes_of_all (trees_from l.node-items l.node-index)) l.left;
  past : l.left + length (nodes_of_all (trees_from l.node-items 0)) ≡ l.place + length (nodes_of_all (trees_from l.node-items l.node-index));
}
