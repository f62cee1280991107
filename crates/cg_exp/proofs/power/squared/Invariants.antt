use Rattle.std.proofs.Common.{◌≡◌, ◌-◌, ◌*◌, ◌^◌}
use Rattle.cg_enc.specs.Enclosure.{IsExponent}
use Rattle.cg_exp.specs.Exponential.{squared}
use Rattle.cg_exp.proofs.power.squared.Given as goal

-- as many squarings as were made, and how far the exponent can have come
abbrev pub invariant-loop : goal.invariant-loop
invariant-loop l = record {
  value : l.power ≡ squared l.fn.base l.counter;
  reach : IsExponent (189 * 2 ^ l.counter - 63) l.power.exp;
}
