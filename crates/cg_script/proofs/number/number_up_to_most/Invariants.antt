use Rattle.std.proofs.Common.{◌≡◌, min, take}
use Rattle.cg_num.specs.Decimal.{number_of}
use Rattle.cg_script.proofs.number.number_up_to_most.Given as goal

abbrev pub invariant-loop-digit : goal.invariant-loop-digit
invariant-loop-digit l = l.number ≡ min (number_of (take l.digit-index l.digits)) 100000
