use Rattle.std.proofs.lemmas.List.Elements.{All-nil}
use Rattle.cg_model.specs.Limits.{IsInRange}
use Rattle.cg_model.specs.Node.{trees_of}
use Rattle.cg_model.proofs.PushLemmas.{AreInPlace-trees_with, AreInRange-trees_with}
use Rattle.cg_model.specs.Group.{kind_in}
use Rattle.cg_listing.proofs.tests.plan.+plans.Goals as goal

pub members_of-loop-plan-init : goal.members_of-loop-plan-init
members_of-loop-plan-init t c = record {
  placed = rw c.new-members.ensures.trees tt;
  ranged = rw c.new-members.ensures.trees (All-nil IsInRange);
}

pub members_of-loop-plan-preserved : goal.members_of-loop-plan-preserved
members_of-loop-plan-preserved t c = record {
  placed = rw c.in_ok-push.ensures.trees (AreInPlace-trees_with (kind_in c.args.kind) (trees_of c.loop-plan.members) _ c.loop-plan.invariant.placed c.in_ok-node_of.ensures.placed);
  ranged = rw c.in_ok-push.ensures.trees (AreInRange-trees_with (trees_of c.loop-plan.members) _ c.loop-plan.invariant.ranged c.in_ok-node_of.ensures.ranged);
}
