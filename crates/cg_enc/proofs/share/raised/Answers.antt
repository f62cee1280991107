use Rattle.std.proofs.Common.{arith, ◌*◌, ◌^◌, ◌≡◌, ◌<◌, ◌≤◌, ℕ, min}
use Rattle.std.proofs.Math.Nat.{mul-le-mul_right}
use Rattle.cg_enc.proofs.Powers.{pow_le}
use Rattle.cg_enc.proofs.share.raised.Goals as goal

-- a part that is moved by 64 places or more is above every whole
far : (part whole places : ℕ) → 0 < part → whole < 2 ^ 64 → 64 ≤ places → whole ≡ min whole (part * 2 ^ places)
far part whole places some fits le =
    let one : 1 * 2 ^ places ≤ part * 2 ^ places = mul-le-mul_right (2 ^ places) some in
    omega (arith, one, fits, pow_le 64 places le)

pub returns-then-places-ge64 : goal.returns-then-places-ge64
returns-then-places-ge64 c = far c.args.part c.args.whole c.args.places (omega (arith, c.if-part-eq0.false)) c.ranges.whole.fits c.if-places-ge64.true
