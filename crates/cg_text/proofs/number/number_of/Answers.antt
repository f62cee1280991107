use Rattle.std.proofs.Common.{ℕ, ◌≤◌, ◌^◌, lit<, arith}
use Rattle.std.proofs.Math.Nat.{pow-le-pow_right}
use Rattle.cg_text.proofs.number.number_of.Goals as goal

ten : (i : ℕ) → i ≤ 7 → 10 ^ i ≤ 10 ^ 7
ten i h = pow-le-pow_right {n = 10} (lit< tt) h

pub overflow_mul-number : goal.overflow_mul-number
overflow_mul-number c = omega (arith, ten c.loop-digit.digit-index (omega arith))

pub overflow_add-number : goal.overflow_add-number
overflow_add-number c = omega (arith, ten c.loop-digit.digit-index (omega arith))

pub returns-clause-bound : goal.returns-clause-bound
returns-clause-bound c = omega (arith, ten c.loop-digit.digit-index (omega arith))
