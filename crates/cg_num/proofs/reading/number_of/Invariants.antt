use Rattle.std.proofs.Common.{◌≡◌, ◌<◌, ◌^◌, take}
use Rattle.cg_num.specs.Decimal.{number_of}
use Rattle.cg_num.proofs.reading.number_of.Given as goal

abbrev pub invariant-loop-digit : goal.invariant-loop-digit
invariant-loop-digit l = record {
  read : l.number ≡ number_of (take l.digit-index l.digits);
  below : l.number < 10 ^ l.digit-index;
}
