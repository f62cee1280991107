use Rattle.std.proofs.Common.{◌≡◌, ◌+◌, length, slice_get}
use Rattle.cg_meaning.specs.Tree.{datings_of_all}
use Rattle.cg_model.proofs.NodeLemmas.{trees_from}
use Rattle.cg_model.proofs.node.+datings.Given as goal

-- the number among all is the number that is left among the later members
abbrev pub invariant-Members::dating_at-loop-node : goal.invariant-Members::dating_at-loop-node
invariant-Members::dating_at-loop-node l = record {
  here : slice_get (datings_of_all (trees_from l.node-items 0)) l.event ≡ slice_get (datings_of_all (trees_from l.node-items l.node-index)) l.left;
  past : l.left + length (datings_of_all (trees_from l.node-items 0)) ≡ l.event + length (datings_of_all (trees_from l.node-items l.node-index));
}
