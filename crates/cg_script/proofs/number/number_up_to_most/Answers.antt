use Rattle.std.proofs.Common.{◌≡◌, ◌+◌, ◌*◌, ◌-◌, take, get_or, arith}
use Rattle.std.proofs.lemmas.List.Sums.{fold_more}
use Rattle.cg_num.specs.Decimal.{number_of}
use Rattle.cg_script.proofs.number.number_up_to_most.Goals as goal

pub overflow_mul-number : goal.overflow_mul-number
overflow_mul-number c = omega (arith, c.loop-digit.invariant)

pub overflow_add-number : goal.overflow_add-number
overflow_add-number c = omega (arith, c.loop-digit.invariant, c.from.ensures, c.saturating_sub.type_inv)

pub loop-digit-preserved : goal.loop-digit-preserved
loop-digit-preserved c =
    let digits = c.args.digits.now in
    let i = c.loop-digit.digit-index in
    let more : number_of (take (i + 1) digits) ≡ number_of (take i digits) * 10 + (get_or digits i 0 - 48) =
    fold_more (λ n c. n * 10 + (c - 48)) 0 digits i 0 c.loop-digit-test.true in
    omega (arith, more, c.min-number.ensures, c.loop-digit.invariant, c.from.ensures, c.saturating_sub.ensures)
