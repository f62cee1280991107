use Rattle.std.proofs.Common.{◌≡◌, ◌+◌, ◌≤◌}
use Rattle.cg_meaning.specs.Tree.{count_all}
use Rattle.cg_model.specs.Node.{trees_of}
use Rattle.cg_model.proofs.NodeLemmas.{trees_from}
use Rattle.cg_model.specs.Limits.{groups_in}
use Rattle.cg_message.specs.Arranged.{arranged_in, items_with}
use Rattle.cg_message.specs.Element.{places_in}
use Rattle.cg_message.specs.Placed.{joined, members_of, items_of}
use Rattle.cg_message.proofs.ArrangedLemmas.{AreNoSpans}
use Rattle.cg_message.proofs.arrange.+arrange.Given as goal

-- the elements so far and those of the members that are left are all
abbrev pub invariant-members_of-loop-node : goal.invariant-members_of-loop-node
invariant-members_of-loop-node l = record {
  value : joined (places_in l.elements) (members_of l.next l.at (trees_from l.node-items l.node-index)) ≡ members_of l.number l.place (trees_of l.members);
  events : l.next + count_all (trees_from l.node-items l.node-index) ≤ 100;
  nodes : l.at + count_all (trees_from l.node-items l.node-index) + groups_in (trees_from l.node-items l.node-index) ≤ 65535;
}

-- the same of items, of which those behind the last Boundary are no spans yet
abbrev pub invariant-items_of-loop-node : goal.invariant-items_of-loop-node
invariant-items_of-loop-node l = record {
  value : items_with (arranged_in l.items) l.next l.at (trees_from l.node-items l.node-index) ≡ items_of l.number l.place (trees_of l.members);
  plain : AreNoSpans (arranged_in l.items).segment;
  events : l.next + count_all (trees_from l.node-items l.node-index) ≤ 100;
  nodes : l.at + count_all (trees_from l.node-items l.node-index) + groups_in (trees_from l.node-items l.node-index) ≤ 65535;
}
