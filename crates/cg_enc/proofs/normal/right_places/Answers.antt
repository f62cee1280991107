use Rattle.std.proofs.Common.{arith, ◌+◌, ◌-◌, ◌^◌, ◌≡◌, ◌<◌, ◌≤◌, ◌∙◌, ℕ, sym, refl}
use Rattle.std.specs.Int.{leading_zeros, w128}
use Rattle.cg_enc.specs.Rounding.{ceil_div, right}
use Rattle.cg_enc.proofs.Norming.{large_digits, moves_right, moves_more}
use Rattle.cg_enc.proofs.normal.right_places.Goals as goal

-- the number of digits gives the places, or one less
fits : (n s r : ℕ) → 2 ^ 63 ≤ n → n < 2 ^ 128 → s ≡ 65 - leading_zeros w128 n → r ≡ ceil_div n (2 ^ s) → r < 2 ^ 63 → s ≡ right n
fits n s r large most e er small =
    let t = large_digits n large most in
    let at : s ≡ t.0 + 1 = omega (arith, e, t.1) in
    at ∙ sym (moves_right n t.0 t.2 t.3 (omega (arith, t.1)) (rw (er, at) at small)).is

passes : (n s r : ℕ) → 2 ^ 63 ≤ n → n < 2 ^ 128 → s ≡ 65 - leading_zeros w128 n → r ≡ ceil_div n (2 ^ s) → 2 ^ 63 ≤ r → s + 1 ≡ right n
passes n s r large most e er big =
    let t = large_digits n large most in
    let at : s ≡ t.0 + 1 = omega (arith, e, t.1) in
    let more : s + 1 ≡ t.0 + 1 + 1 = omega (arith, at) in
    more ∙ sym (moves_more n t.0 t.2 t.3 (omega (arith, t.1)) (rw (er, at) at big)).is

pub overflow_sub-places : goal.overflow_sub-places
overflow_sub-places c = omega (arith, (large_digits c.args.hi c.requires c.ranges.hi.fits).1)

pub returns-then-shifted_up : goal.returns-then-shifted_up
returns-then-shifted_up c = fits c.args.hi _ c.shifted_up.result c.requires c.ranges.hi.fits refl c.shifted_up.ensures c.if-shifted_up.true

pub returns-else-shifted_up : goal.returns-else-shifted_up
returns-else-shifted_up c = passes c.args.hi _ c.shifted_up.result c.requires c.ranges.hi.fits refl c.shifted_up.ensures c.if-shifted_up.false
