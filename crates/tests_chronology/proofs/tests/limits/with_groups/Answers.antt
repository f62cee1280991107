use Rattle.std.proofs.lemmas.List.Elements.{All-nil}
use Rattle.cg_meaning.specs.Tree.{Phase}
use Rattle.cg_model.specs.Limits.{IsInRange}
use Rattle.cg_model.specs.Node.{trees_of}
use Rattle.cg_model.proofs.NodeLemmas.{tree_of-After}
use Rattle.cg_model.proofs.PushLemmas.{AreInPlace-trees_with, AreInRange-trees_with}
use Rattle.tests_chronology.proofs.tests.limits.with_groups.Goals as goal

pub loop-preserved : goal.loop-preserved
loop-preserved c = record {
  placed = rw c.in_ok-push.ensures.trees (AreInPlace-trees_with Phase (trees_of c.loop.members) _ c.loop.invariant.placed (rw (tree_of-After, c.new-in-loop.ensures.trees) tt));
  ranged = rw c.in_ok-push.ensures.trees (AreInRange-trees_with (trees_of c.loop.members) _ c.loop.invariant.ranged (rw (tree_of-After, c.new-in-loop.ensures.trees) (All-nil IsInRange)));
}
