use Rattle.std.proofs.Common.{arith}
use Rattle.tests_cql.proofs.shown.read_short.Goals as goal

pub read_model-requires : goal.read_model-requires
read_model-requires c = omega (arith, c.if-bytes-gt-MAX_BYTES.false)
