use Rattle.std.proofs.Common.{◌≡◌, ◌≤◌, ◌-◌, ◌^◌, min, max, drop, map}
use Rattle.cg_model.specs.Limits.{depth_in}
use Rattle.cg_model.specs.Node.{tree_of, trees}
use Rattle.cg_model.proofs.node.+depths.Given as goal

-- the deepest so far and the deepest of what is left give the deepest of all, up to the limit of the count
abbrev pub invariant-Members::depth-loop-node : goal.invariant-Members::depth-loop-node
invariant-Members::depth-loop-node l = record {
  deepest : min (max l.deepest (depth_in (trees (map tree_of (drop l.node-index l.node-items))))) (2 ^ 32 - 1) ≡ min (depth_in (trees (map tree_of l.node-items))) (2 ^ 32 - 1);
  fits : l.deepest ≤ 2 ^ 32 - 1;
}
