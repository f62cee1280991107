use Rattle.std.proofs.Common.{arith, ◌-◌, ◌*◌, ◌%◌, ◌^◌, ◌≡◌, ◌<◌, ◌≤◌, ◌∙◌, ℕ, w64, to_z, of_z, ℤ, ◌-ℤ◌, sym, subst, ap}
use Rattle.std.proofs.Math.Nat.{mod-eq_of_lt, mul-le-mul_right}
use Rattle.std.proofs.lemmas.Int.{ints}
use Rattle.std.specs.Int.{leading_zeros}
use Rattle.cg_enc.specs.Enclosure.{Enclosure, IsEnclosure, IsExponent}
use Rattle.cg_enc.specs.Rounding.{norm}
use Rattle.cg_enc.proofs.Norming.{same, small_digits, left_near, norm-left}
use Rattle.cg_enc.proofs.Widening.{norm-IsEnclosure}
use Rattle.cg_enc.proofs.normal.raised.Goals as goal

-- the code's numbers, whose shifts and difference don't wrap
numbers : (lo hi : ℕ) (exp : ℤ) → lo ≤ hi → 1 ≤ hi → hi < 2 ^ 63 → IsExponent (2 ^ 60) exp →
    ◌≡◌ {A = Enclosure} (record {
      lo = lo * 2 ^ (leading_zeros w64 hi - 1) % 2 ^ 64;
      hi = hi * 2 ^ (leading_zeros w64 hi - 1) % 2 ^ 64;
      exp = to_z w64 (of_z w64 (to_z w64 (of_z w64 exp) -ℤ to_z w64 (leading_zeros w64 hi - 1)));
    }) (norm lo hi exp)
numbers lo hi exp le some fits reach =
    let d = small_digits hi some fits in
    let near = left_near hi d.0 some d.3 in
    let places : leading_zeros w64 hi - 1 ≡ d.0 = omega (arith, d.1) in
    same _ _ _ _ _ _ (ap (λ (s : ℕ). lo * 2 ^ s % 2 ^ 64) places ∙ mod-eq_of_lt (omega (arith, d.3, mul-le-mul_right (2 ^ d.0) le)))
    (ap (λ (s : ℕ). hi * 2 ^ s % 2 ^ 64) places ∙ mod-eq_of_lt (omega (arith, d.3))) (omega (arith, ints, places, near)) ∙
    sym (norm-left lo hi d.0 exp some d.2 d.3)

pub overflow_sub-places : goal.overflow_sub-places
overflow_sub-places c = omega (arith, (small_digits c.args.hi c.requires.some c.requires.fits).1)

pub made-requires : goal.made-requires
made-requires c =
    subst IsEnclosure (sym (numbers c.args.lo c.args.hi c.args.exp c.requires.ordered c.requires.some c.requires.fits c.requires.reach)) (norm-IsEnclosure c.args.lo c.args.hi c.args.exp c.requires.ordered c.requires.some (omega (arith, c.requires.fits)))

pub returns : goal.returns
returns c = c.made.ensures ∙ numbers c.args.lo c.args.hi c.args.exp c.requires.ordered c.requires.some c.requires.fits c.requires.reach
