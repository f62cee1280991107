use Rattle.std.proofs.Common.{arith}
use Rattle.tests_cql.proofs.shown.line_of.Goals as goal

pub curve_line-requires : goal.curve_line-requires
curve_line-requires c = omega (arith, c.as_bytes.ensures.len, c.if-text-gt-MAX_BYTES.false)
