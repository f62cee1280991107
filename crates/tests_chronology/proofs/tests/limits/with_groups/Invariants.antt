use Rattle.cg_meaning.specs.Tree.{Phase}
use Rattle.cg_model.specs.Limits.{AreInPlace, AreInRange}
use Rattle.cg_model.specs.Node.{trees_of}
use Rattle.tests_chronology.proofs.tests.limits.with_groups.Given as goal

-- what a model asks of its top statements
abbrev pub invariant-loop : goal.invariant-loop
invariant-loop l = record { placed : AreInPlace Phase (trees_of l.members); ranged : AreInRange (trees_of l.members) }
