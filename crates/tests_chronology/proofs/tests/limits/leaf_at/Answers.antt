use Rattle.std.proofs.Common.{[]}
use Rattle.std.proofs.lemmas.List.{append-nil}
use Rattle.std.proofs.lemmas.List.Elements.{All-nil, All-cons}
use Rattle.cg_model.specs.Limits.{IsInRange}
use Rattle.cg_model.proofs.NodeLemmas.{tree_of-Leaf, tree_of-Phase}
use Rattle.tests_chronology.proofs.tests.limits.leaf_at.Goals as goal

pub loop-init : goal.loop-init
loop-init c = record {
  placed = rw (c.in_ok-push.ensures.trees, c.new-members.ensures.trees, tree_of-Leaf) (tt, tt);
  ranged = rw (c.in_ok-push.ensures.trees, c.new-members.ensures.trees, tree_of-Leaf) (All-cons IsInRange _ [] tt (All-nil IsInRange));
}

pub loop-preserved : goal.loop-preserved
loop-preserved c = record {
  placed = rw (c.in_ok-push-2.ensures.trees, c.new-outer.ensures.trees, tree_of-Phase) (c.loop.invariant.placed, tt);
  ranged = rw (c.in_ok-push-2.ensures.trees, c.new-outer.ensures.trees, tree_of-Phase, append-nil) c.loop.invariant.ranged;
}
