use Rattle.std.proofs.Common.{◌≡◌, ◌+◌, ◌≤◌}
use Rattle.cg_meaning.specs.Tree.{count_all}
use Rattle.cg_model.specs.Node.{trees_of}
use Rattle.cg_model.proofs.NodeLemmas.{trees_from}
use Rattle.cg_part.specs.Elements.{members_of, items_of}
use Rattle.cg_up.specs.Arranged.{arranged_in, items_with}
use Rattle.cg_up.specs.Element.{elements_in, joined}
use Rattle.cg_up.proofs.ArrangedLemmas.{AreNoSpans}
use Rattle.cg_up.proofs.arrange.+arrange.Given as goal

-- the elements so far and those of the members that are left are all
abbrev pub invariant-members_of-loop-node : goal.invariant-members_of-loop-node
invariant-members_of-loop-node l = record {
  value : joined (elements_in l.elements) (members_of l.next (trees_from l.node-items l.node-index)) ≡ members_of l.number (trees_of l.members);
  events : l.next + count_all (trees_from l.node-items l.node-index) ≤ 100;
}

-- the same of items, of which those behind the last Boundary are no spans yet
abbrev pub invariant-items_of-loop-node : goal.invariant-items_of-loop-node
invariant-items_of-loop-node l = record {
  value : items_with (arranged_in l.items) l.next (trees_from l.node-items l.node-index) ≡ items_of l.number (trees_of l.members);
  plain : AreNoSpans (arranged_in l.items).segment;
  events : l.next + count_all (trees_from l.node-items l.node-index) ≤ 100;
}
