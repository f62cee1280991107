use Rattle.std.proofs.Common.{arith}
use Rattle.tests_numbers.proofs.models.scene.read_short.Goals as goal

pub read_model-requires : goal.read_model-requires
read_model-requires c = omega (arith, c.as_bytes.ensures.len, c.if-text-gt-MAX_BYTES.false)
