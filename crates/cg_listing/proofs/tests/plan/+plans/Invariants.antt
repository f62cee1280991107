use Rattle.cg_model.specs.Limits.{AreInPlace, AreInRange}
use Rattle.cg_model.specs.Node.{trees_of}
use Rattle.cg_model.specs.Group.{kind_in}
use Rattle.cg_listing.proofs.tests.plan.+plans.Given as goal

-- what a model asks of the members of a group
abbrev pub invariant-members_of-loop-plan : goal.invariant-members_of-loop-plan
invariant-members_of-loop-plan l = record { placed : AreInPlace (kind_in l.kind) (trees_of l.members); ranged : AreInRange (trees_of l.members) }
