use Rattle.std.proofs.Common.{◌≡◌, ◌+◌, ◌≤◌, ◌-◌, ◌^◌, min, drop, map}
use Rattle.cg_model.specs.Limits.{groups_in}
use Rattle.cg_model.specs.Node.{tree_of, trees}
use Rattle.cg_model.proofs.node.+groups.Given as goal

-- those so far and those of what is left are all, up to the limit of the count
abbrev pub invariant-Members::groups-loop-node : goal.invariant-Members::groups-loop-node
invariant-Members::groups-loop-node l = record {
  counted : min (l.sum + groups_in (trees (map tree_of (drop l.node-index l.node-items)))) (2 ^ 32 - 1) ≡ min (groups_in (trees (map tree_of l.node-items))) (2 ^ 32 - 1);
  fits : l.sum ≤ 2 ^ 32 - 1;
}
