use Rattle.std.proofs.Common.{◌<◌, subst}
use Rattle.tests_sharing.proofs.tests.versions.change_of.Goals as goal

pub change-made-requires-clause-known : goal.change-made-requires-clause-known
change-made-requires-clause-known c = subst (λ count. c.args.number < count) c.count.ensures c.if-number-count.false

pub change-made-requires-clause-in_order : goal.change-made-requires-clause-in_order
change-made-requires-clause-in_order c = c.in_ok-edit.ensures
