use Rattle.std.proofs.Common.{arith}
use Rattle.tests_sharing.proofs.tests.texts.change.Goals as goal

pub read_script-requires : goal.read_script-requires
read_script-requires c = omega (arith, c.as_bytes.ensures.len, c.if-line-gt-MAX_BYTES.false)
