use Rattle.std.proofs.Common.{arith}
use Rattle.tests_cql.proofs.shown.read_alone.Goals as goal

pub read_statement-requires : goal.read_statement-requires
read_statement-requires c = omega (arith, c.as_bytes.ensures.len, c.if-text-gt-MAX_BYTES.false)
