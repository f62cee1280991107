use Rattle.cg_meaning.specs.Tree.{Phase}
use Rattle.cg_model.specs.Node.{trees_of}
use Rattle.cg_model.proofs.PushLemmas.{AreInPlace-trees_with, AreInRange-trees_with, IsInPlace-Leaf, IsInRange-Leaf}
use Rattle.tests_chronology.proofs.tests.limits.with_leaves.Goals as goal

pub loop-preserved : goal.loop-preserved
loop-preserved c = record {
  placed = rw c.in_ok-push.ensures.trees (AreInPlace-trees_with Phase (trees_of c.loop.members) _ c.loop.invariant.placed (IsInPlace-Leaf Phase _ _));
  ranged = rw c.in_ok-push.ensures.trees (AreInRange-trees_with (trees_of c.loop.members) _ c.loop.invariant.ranged (IsInRange-Leaf _ _ tt));
}
