use Rattle.std.proofs.Common.{arith, ◌+◌, ◌-◌, ◌*◌, ◌^◌, ◌≡◌, ◌<◌, ◌≤◌, ◌∙◌, ℕ, sym, refl}
use Rattle.std.specs.Int.{leading_zeros, w64}
use Rattle.cg_enc.specs.Rounding.{over_places}
use Rattle.cg_enc.proofs.Quotients.{divisor_digits, moves_one_more, moves_digits}
use Rattle.cg_enc.proofs.quotient.places_over.Goals as goal

-- the divisor's digits give the places, or one less
stays : (hi lo s : ℕ) → 2 ^ 62 ≤ hi → 1 ≤ lo → lo < 2 ^ 63 → s ≡ 64 - leading_zeros w64 lo → hi * 2 ^ s ≤ lo * 2 ^ 63 - lo → s ≡ over_places hi lo
stays hi lo s full firm fits e h =
    let t = divisor_digits lo firm fits in
    let at : s ≡ t.0 + 1 = omega (arith, e, t.1) in
    let below : hi * 2 ^ s ≤ (2 ^ 63 - 1) * lo = omega (arith, h) in
    at ∙ sym (moves_one_more hi lo t.0 full firm t.3 t.4 (rw at at below)).is

passes : (hi lo s : ℕ) → hi < 2 ^ 63 → 1 ≤ lo → lo < 2 ^ 63 → s ≡ 64 - leading_zeros w64 lo → lo * 2 ^ 63 - lo < hi * 2 ^ s → s - 1 ≡ over_places hi lo
passes hi lo s most firm fits e h =
    let t = divisor_digits lo firm fits in
    let at : s ≡ t.0 + 1 = omega (arith, e, t.1) in
    let less : s - 1 ≡ t.0 = omega (arith, at) in
    let above : (2 ^ 63 - 1) * lo < hi * 2 ^ s = omega (arith, h) in
    less ∙ sym (moves_digits hi lo t.0 most firm t.2 t.4 (rw at at above)).is

pub moved-requires : goal.moved-requires
moved-requires c = let t = divisor_digits c.args.lo c.requires.firm c.requires.fits in omega (arith, t.1, t.4)

pub returns-then-stays-clause-value : goal.returns-then-stays-clause-value
returns-then-stays-clause-value c =
    stays c.args.hi c.args.lo (64 - leading_zeros w64 c.args.lo) c.requires.least c.requires.firm c.requires.fits refl
    (omega (arith, c.moved.ensures.value, c.moved-2.ensures.value, c.if-stays.true))

pub returns-else-stays-clause-value : goal.returns-else-stays-clause-value
returns-else-stays-clause-value c =
    passes c.args.hi c.args.lo (64 - leading_zeros w64 c.args.lo) c.requires.most c.requires.firm c.requires.fits refl
    (omega (arith, c.moved.ensures.value, c.moved-2.ensures.value, c.if-stays.false))
