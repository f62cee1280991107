use Rattle.std.proofs.Common.{◌≡◌, ◌+◌, ◌≤◌, ◌-◌, ◌^◌, min, drop, map}
use Rattle.cg_meaning.specs.Tree.{count_all}
use Rattle.cg_model.specs.Node.{tree_of, trees}
use Rattle.cg_model.proofs.node.+events.Given as goal

-- those so far and those of what is left are all, up to the limit of the count
abbrev pub invariant-Members::events-loop-node : goal.invariant-Members::events-loop-node
invariant-Members::events-loop-node l = record {
  counted : min (l.sum + count_all (trees (map tree_of (drop l.node-index l.node-items)))) (2 ^ 32 - 1) ≡ min (count_all (trees (map tree_of l.node-items))) (2 ^ 32 - 1);
  fits : l.sum ≤ 2 ^ 32 - 1;
}
