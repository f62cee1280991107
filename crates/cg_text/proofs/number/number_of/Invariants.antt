use Rattle.std.proofs.Common.{◌≡◌, ◌≤◌, ◌+◌, ◌*◌, ◌^◌, take}
use Rattle.cg_num.specs.Decimal.{number_of}
use Rattle.cg_text.proofs.number.number_of.Given as goal

abbrev pub invariant-loop-digit : goal.invariant-loop-digit
invariant-loop-digit l = (l.number ≡ number_of (take l.digit-index l.digits)) × (l.number + 23 ≤ 23 * 10 ^ l.digit-index)
