use Rattle.std.proofs.Common.{◌≡◌, ℕ, ◌+◌, ◌-◌, ◌*◌, ◌^◌, ap, ℤ, arith, sym, ◌∙◌}
use Rattle.std.proofs.lemmas.Nat.{pow_pos, pow-add}
use Rattle.cg_enc.specs.Enclosure.{Enclosure, IsExponent}
use Rattle.cg_enc.specs.Rounding.{times}
use Rattle.cg_exp.proofs.Squarings.{squared-none, squared-next}
use Rattle.cg_exp.proofs.power.squared.Goals as goal

pub loop-init : goal.loop-init
loop-init c = record { value = sym (squared-none c.args.base); reach = c.requires.reach }

farther : (e : ℤ) (h m : ℕ) → m ≡ 189 * 2 ^ h - 63 → IsExponent (m + m + 63) e → IsExponent (189 * 2 ^ (h + 1) - 63) e
farther e h m is reach = (omega (arith, reach, pow-add 2 h 1, pow_pos h), omega (arith, reach, pow-add 2 h 1, pow_pos h))

pub loop-preserved : goal.loop-preserved
loop-preserved c =
    let far = c.loop.invariant.reach in
    record {
      value = c.times-power.ensures.value ∙ ap (λ (x : Enclosure). times x x) c.loop.invariant.value ∙ sym (squared-next c.args.base c.loop.counter);
      reach = farther c.times-power.result.exp c.loop.counter (189 * 2 ^ c.loop.counter - 63) (omega arith) (c.times-power.ensures.exponent _ _ far far);
    }
