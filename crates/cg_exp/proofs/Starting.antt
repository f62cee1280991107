-- The two sums at y = p / q, at most a quarter, and the enclosure between them.
use Rattle.std.proofs.Common.{◌≡◌, ℕ, zero, suc, ◌+◌, ◌-◌, ◌*◌, ◌/◌, ◌%◌, ◌^◌, ◌<◌, ◌≤◌, negsuc, inl, inr, arith, refl}
use Rattle.std.proofs.Math.Nat.{mul-le-mul, mul-le-mul_right, le_of_mul-le-mul_right, mul-pos}
use Rattle.std.proofs.lemmas.Bool.{cases_lt}
use Rattle.std.proofs.lemmas.Bool.Decides.{nat_tests}
use Rattle.cg_enc.specs.Enclosure.{Enclosure, Encloses, HasLoss}
use Rattle.cg_enc.specs.Rounding.{norm}
use Rattle.cg_enc.proofs.Norming.{norm-left, norm-as_is}
use Rattle.cg_enc.proofs.Widening.{norm-IsEnclosure, norm-positive, norm_encloses}
use Rattle.cg_enc.proofs.WholeNumbers.{norm_loss_same}
use Rattle.cg_meaning.specs.Taylor.{term, terms, denominator, series}
use Rattle.cg_exp.specs.Exponential.{horner_after, start}
use Rattle.cg_exp.proofs.Reductions.{IsReduced}
use Rattle.cg_exp.proofs.Rounded.{horner_after-odd, horner_after-most, horner_after-below, horner_after-above, ends_near}
use Rattle.cg_exp.proofs.Squarings.{IsFull, IsNear}

pub denominator-positive : (q n : ℕ) → 0 < q → 0 < denominator q n
denominator-positive q zero some = omega arith
denominator-positive q (suc n) some =
    let j : 0 < suc n = omega arith in
    mul-pos (denominator-positive q n some) (mul-pos some j)

even_term : (p n : ℕ) → n % 2 ≡ 0 → term p 0 (suc n) ≡ 0
even_term p n e = grind (arith, nat_tests)

fewer : (e o m t d : ℕ) → (e * m + 0 - (o * m + t)) * d ≤ (e - o) * (d * m)
fewer e o m t d =
    let x : ℕ = e - o in
    let most : e ≤ o + x = omega arith in
    let less : e * m + 0 - (o * m + t) ≤ x * m = omega (arith, mul-le-mul_right m most) in
    omega (arith, mul-le-mul_right d less)

-- one more term of an odd power makes the sum less
pub series_less : (p q n : ℕ) → n % 2 ≡ 0 → series p q (suc n) * denominator q n ≤ series p q n * denominator q (suc n)
series_less p q n e = rw (even_term p n e) (fewer (terms p q 0 n) (terms p q 1 n) (q * suc n) (term p 1 (suc n)) (denominator q n))

ends_ordered : (x u a b c d s : ℕ) → 0 < b → 0 < d → 0 < s → x * b ≤ a * s → c * s ≤ u * d → a * d ≤ c * b → x ≤ u
ends_ordered x u a b c d s pb pd ps below above less =
    let all : x * (b * d) ≤ u * (b * d) = omega (arith, mul-le-mul_right d below, mul-le-mul_right s less, mul-le-mul_right b above) in
    le_of_mul-le-mul_right all (mul-pos pb pd)

-- what stands above a number stands above what isn't greater
above_too : (n d c e u s : ℕ) → 0 < e → n * e ≤ c * d → c * s ≤ u * e → n * s ≤ u * d
above_too n d c e u s some less above =
    let all : (n * s) * e ≤ (u * d) * e = omega (arith, mul-le-mul_right s less, mul-le-mul_right d above) in
    le_of_mul-le-mul_right all some

below_too : (n d a b x s : ℕ) → 0 < b → a * d ≤ n * b → x * b ≤ a * s → x * d ≤ n * s
below_too n d a b x s some more below =
    let all : (x * d) * b ≤ (n * s) * b = omega (arith, mul-le-mul_right s more, mul-le-mul_right d below) in
    le_of_mul-le-mul_right all some

-- the ends of the start, and the sums that they stand around
record Sums (x u a b c d : ℕ) : Type 0 where
  lower_some : 0 < b
  upper_some : 0 < d
  below : x * b ≤ a * 2 ^ 62
  above : c * 2 ^ 62 ≤ u * d
  less : a * d ≤ c * b

sums : (p q low high n : ℕ) → 0 < q → p ≤ q → IsReduced p q low high → n % 2 ≡ 0 →
    Sums (horner_after low high (suc n) (suc n)) (horner_after low high n n) (series p q (suc n)) (denominator q (suc n)) (series p q n) (denominator q n)
sums p q low high n some le y even = record {
  lower_some = denominator-positive q (suc n) some;
  upper_some = denominator-positive q n some;
  below = horner_after-below p q low high (suc n) le y.below y.above (grind arith);
  above = horner_after-above p q low high n le y.below y.above even;
  less = series_less p q n even;
}

-- the ends of the start themselves
pub record IsStart (x u : ℕ) : Type 0 where
  pub ordered : x ≤ u
  pub near : u ≤ x + 3
  pub least : 3 * 2 ^ 60 ≤ u
  pub most : u ≤ 2 ^ 62

high_quotient : (low v : ℕ) → low ≤ 2 ^ 60 → v ≤ 2 ^ 62 → low * v / (2 ^ 62 * (16 - 15)) ≤ 2 ^ 60
high_quotient low v small most =
    let product : low * v ≤ 2 ^ 122 = omega (arith, mul-le-mul small most) in
    omega (arith, product)

upper_least : (low high : ℕ) → low ≤ 2 ^ 60 → 3 * 2 ^ 60 ≤ horner_after low high 16 16
upper_least low high small = omega (arith, horner_after-odd low high 16 15 refl, high_quotient low (horner_after low high 16 15) small (horner_after-most low high 16 15))

pub start-IsStart : (p q low high : ℕ) → 0 < q → p ≤ q → IsReduced p q low high → IsStart (horner_after low high 17 17) (horner_after low high 16 16)
start-IsStart p q low high some le y =
    let s = sums p q low high 16 some le y refl in
    record {
      ordered = ends_ordered (horner_after low high 17 17) (horner_after low high 16 16) (series p q 17) (denominator q 17) (series p q 16) (denominator q 16) (2 ^ 62) s.lower_some s.upper_some (omega arith) s.below s.above s.less;
      near = ends_near low high y.quarter y.near (omega (arith, y.quarter, y.ordered));
      least = upper_least low high (omega (arith, y.quarter, y.ordered));
      most = horner_after-most low high 16 16;
    }

abbrev rounded : ℕ → ℕ → Enclosure
rounded x u = norm x u (negsuc 61)

rounded-IsFull : (x u : ℕ) → IsStart x u → IsFull (rounded x u)
rounded-IsFull x u s = record {
  valid = norm-IsEnclosure x u (negsuc 61) s.ordered (omega (arith, s.least)) (omega (arith, s.most));
  full = norm-positive x u (negsuc 61) s.ordered (omega (arith, s.least)) (omega (arith, s.most));
}

rounded-loss : (x u : ℕ) → IsStart x u → HasLoss (rounded x u) 6
rounded-loss x u s = norm_loss_same x u (negsuc 61) 6 s.ordered (omega (arith, s.least)) (omega (arith, s.most)) (omega (arith, s.near, s.least))

rounded-near : (x u : ℕ) → IsStart x u → IsNear 1 (rounded x u).exp
rounded-near x u s =
    elim (cases_lt u (2 ^ 62)) [
      | inl less ↦ rw (norm-left x u 1 (negsuc 61) (omega (arith, s.least)) (omega (arith, s.least)) (omega (arith, less))) (record { low = omega arith; high = omega arith })
      | inr more ↦ rw (norm-as_is x u (negsuc 61) more (omega (arith, s.most))) (record { low = omega arith; high = omega arith })
    ]

rounded-encloses : (x u n d : ℕ) → IsStart x u → x * d ≤ n * 2 ^ 62 → n * 2 ^ 62 ≤ u * d → Encloses (rounded x u) n d
rounded-encloses x u n d s below above =
    norm_encloses x u (negsuc 61) n d s.ordered (omega (arith, s.least)) (omega (arith, s.most)) (record { below = omega (arith, below); above = omega (arith, above) })

between : (x u a b c e n d : ℕ) → IsStart x u → Sums x u a b c e → a * d ≤ n * b → n * e ≤ c * d → Encloses (rounded x u) n d
between x u a b c e n d s v more less =
    rounded-encloses x u n d s (below_too n d a b x (2 ^ 62) v.lower_some more v.below) (above_too n d c e u (2 ^ 62) v.upper_some less v.above)

-- a sum that stands above a positive number is positive
some_sum : (x a b : ℕ) → 0 < x → 0 < b → x * b ≤ a * 2 ^ 62 → 0 < a
some_sum x a b sx sb le = omega (arith, mul-pos sx sb)

-- what the start is
pub record Starts (p q : ℕ) (a : Enclosure) : Type 0 where
  pub some : 0 < series p q 17
  pub less : series p q 17 * denominator q 16 ≤ series p q 16 * denominator q 17
  pub full : IsFull a
  pub loss : HasLoss a 6
  pub exponent : IsNear 1 a.exp
  pub lower : Encloses a (series p q 17) (denominator q 17)
  pub upper : Encloses a (series p q 16) (denominator q 16)

pub start-Starts : (p q low high : ℕ) → 0 < q → p ≤ q → IsReduced p q low high → Starts p q (start low high)
unfolding start
start-Starts p q low high some le y =
    let s = start-IsStart p q low high some le y in
    let v = sums p q low high 16 some le y refl in
    let x : ℕ = horner_after low high 17 17 in
    let u : ℕ = horner_after low high 16 16 in
    record {
      some = some_sum x (series p q 17) (denominator q 17) (omega (arith, s.near, s.least)) v.lower_some v.below;
      less = v.less;
      full = rounded-IsFull x u s;
      loss = rounded-loss x u s;
      exponent = rounded-near x u s;
      lower = between x u (series p q 17) (denominator q 17) (series p q 16) (denominator q 16) (series p q 17) (denominator q 17) s v (omega arith) v.less;
      upper = between x u (series p q 17) (denominator q 17) (series p q 16) (denominator q 16) (series p q 16) (denominator q 16) s v v.less (omega arith);
    }
