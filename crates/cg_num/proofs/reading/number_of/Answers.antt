use Rattle.std.proofs.Common.{arith}
use Rattle.cg_num.proofs.DigitLemmas.{below_ten_to}
use Rattle.cg_num.proofs.reading.number_of.Goals as goal

pub overflow_mul-number : goal.overflow_mul-number
overflow_mul-number c =
    omega (arith, below_ten_to c.loop-digit.number c.loop-digit.digit-index 11 c.loop-digit.invariant.below (omega arith))

pub overflow_add-number : goal.overflow_add-number
overflow_add-number c =
    omega (arith, below_ten_to c.loop-digit.number c.loop-digit.digit-index 11 c.loop-digit.invariant.below (omega arith))
