use Rattle.std.proofs.Common.{◌≡◌, ◌+◌, ◌*◌, ◌≤◌, ◌++◌}
use Rattle.cg_meaning.specs.Tree.{count, count_all}
use Rattle.cg_model.specs.Limits.{groups_of, groups_in, AreInRange}
use Rattle.cg_model.specs.Node.{tree_of, trees_of}
use Rattle.cg_model.proofs.NodeLemmas.{trees_from}
use Rattle.cg_code.specs.Code.{in_two, members_in, trees_bytes}
use Rattle.cg_code.proofs.code.Code.+nodes.Given as goal

-- the bytes so far and those of the members that are left are all
abbrev pub invariant-push_members-loop-node : goal.invariant-push_members-loop-node
invariant-push_members-loop-node l = record {
  bytes : l.self ++ trees_bytes (trees_from l.node-items l.node-index) ≡ l.fn.self ++ (in_two (members_in (trees_of l.members)) ++ trees_bytes (trees_of l.members));
  fewer : count_all (trees_from l.node-items l.node-index) + groups_in (trees_from l.node-items l.node-index) ≤ count_all (trees_of l.members) + groups_in (trees_of l.members);
  ranged : AreInRange (trees_from l.node-items l.node-index);
}

-- the members have fewer nodes than their group
abbrev pub decreases-push_members : goal.decreases-push_members
decreases-push_members l = 2 * (count_all (trees_of l.members.now) + groups_in (trees_of l.members.now)) + 1

abbrev pub decreases-push_node : goal.decreases-push_node
decreases-push_node l = 2 * (count (tree_of l.node.now) + groups_of (tree_of l.node.now))
