use Rattle.std.proofs.Common.{arith}
use Rattle.tests_scripts.proofs.told.read.Goals as goal

pub read_script-requires : goal.read_script-requires
read_script-requires c = omega (arith, c.if-bytes-gt-MAX_BYTES.false)
