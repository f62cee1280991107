use Rattle.std.proofs.Common.{arith}
use Rattle.tests_sharing.proofs.tests.book.undo.Goals as goal

pub apply-requires : goal.apply-requires
apply-requires c = omega arith
