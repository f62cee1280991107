-- The part of z in units of 2 ^ -62, by long division.
use Rattle.std.proofs.Common.{◌≡◌, ℕ, ◌+◌, ◌-◌, ◌*◌, ◌/◌, ◌%◌, ◌^◌, ◌<◌, ◌≤◌, ap, arith, ◌∙◌, inl, inr, nat_eq, if◌then◌else◌}
use Rattle.std.proofs.Math.Nat.{mul-le-mul_right, le_of_mul-le-mul_right, lt_of_mul-lt-mul_right, mul-pos, div-add-mod'}
use Rattle.std.proofs.lemmas.Bool.{cases_eq, eq-eqb, ne_eqb}
use Rattle.std.proofs.lemmas.Nat.{pow_pos}
use Rattle.cg_enc.proofs.Divisions.{ceil_above, ceil_least, ceil_next, ceil_whole, floor_below, floor_near, floor_greatest, floor_ceil}
use Rattle.cg_enc.proofs.Powers.{pow_join, pow_le}
use Rattle.cg_exp.specs.Exponential.{reduced_below, reduced_above}

-- y stands between its parts, which are a quarter at most and one unit apart
pub record IsReduced (p q low high : ℕ) : Type 0 where
  pub below : low * q ≤ p * 2 ^ 62
  pub above : p * 2 ^ 62 ≤ high * q
  pub near : high ≤ low + 1
  pub quarter : high ≤ 2 ^ 60
  pub ordered : low ≤ high

pub reduced-IsReduced : (p q h : ℕ) → 0 < q → 4 * p ≤ q * 2 ^ h → IsReduced p (q * 2 ^ h) (reduced_below p q h) (reduced_above p q h)
reduced-IsReduced p q h some small =
    let d : 0 < q * 2 ^ h = mul-pos some (pow_pos h) in
    record {
      below = floor_below (p * 2 ^ 62) (q * 2 ^ h);
      above = ceil_above (p * 2 ^ 62) (q * 2 ^ h) d;
      near = ceil_least (p * 2 ^ 62) (q * 2 ^ h) (p * 2 ^ 62 / (q * 2 ^ h) + 1) d (omega (arith, floor_near (p * 2 ^ 62) (q * 2 ^ h) d));
      quarter = ceil_least (p * 2 ^ 62) (q * 2 ^ h) (2 ^ 60) d (omega arith);
      ordered = floor_ceil (p * 2 ^ 62) (p * 2 ^ 62) (q * 2 ^ h) d (omega arith);
    }

-- so many more places of a quotient
pub more_places : (k q r m f s : ℕ) → f * q + s ≡ r * m → (k * m + f) * q + s ≡ (k * q + r) * m
more_places k q r m f s h = omega (arith, h)

-- a quotient is what leaves a rest below the divisor
pub quotient-is : (n d k r : ℕ) → k * d + r ≡ n → r < d → k ≡ n / d
quotient-is n d k r e less =
    let some : 0 < d = omega arith in
    let low : k ≤ n / d = floor_greatest n d k some (omega arith) in
    let high : n / d * d < (k + 1) * d = omega (arith, floor_below n d) in
    omega (arith, low, lt_of_mul-lt-mul_right d high)

-- what the whole division ends with
pub record Divided (p q h k r : ℕ) : Type 0 where
  pub few : h ≤ 30
  pub rest : r < q
  pub value : k * q + r ≡ p * 2 ^ 32 * 2 ^ (30 - h)

pub divided_twice : (p q h k r k' r' : ℕ) → h ≤ 30 → r' < q → k * q + r ≡ (p / q * q + p % q) * 2 ^ 32 → k' * q + r' ≡ (k * q + r) * 2 ^ (30 - h) → Divided p q h k' r'
divided_twice p q h k r k' r' few rest e e' = record {
  few = few;
  rest = rest;
  value = e' ∙ ap (λ (x : ℕ). x * 2 ^ (30 - h)) (e ∙ ap (λ (x : ℕ). x * 2 ^ 32) (div-add-mod' p q));
}

-- the same over the whole denominator
divided : (p q h k r : ℕ) → Divided p q h k r → (k * (q * 2 ^ h) + r * 2 ^ h ≡ p * 2 ^ 62) × (r * 2 ^ h < q * 2 ^ h)
divided p q h k r v =
    let e : 2 ^ (30 - h) * 2 ^ h ≡ 2 ^ 30 = pow_join (30 - h) h 30 (omega (arith, v.few)) in
    let less : r + 1 ≤ q = omega (arith, v.rest) in
    (omega (arith, ap (λ (x : ℕ). x * 2 ^ h) v.value, ap (λ (x : ℕ). p * x) e), omega (arith, mul-le-mul_right (2 ^ h) less, pow_pos h))

pub divided-below : (p q h k r : ℕ) → Divided p q h k r → k ≡ reduced_below p q h
divided-below p q h k r v = let e = divided p q h k r v in quotient-is (p * 2 ^ 62) (q * 2 ^ h) k (r * 2 ^ h) e.0 e.1

divided-exact : (p q h k r : ℕ) → Divided p q h k r → r ≡ 0 → k ≡ reduced_above p q h
divided-exact p q h k r v z =
    let e = divided p q h k r v in
    let below = divided-below p q h k r v in
    let some : 0 < q * 2 ^ h = omega (arith, e.1) in
    let none : r * 2 ^ h ≡ 0 = omega (arith, ap (λ (x : ℕ). x * 2 ^ h) z) in
    below ∙ ceil_whole (p * 2 ^ 62) (q * 2 ^ h) some (omega (arith, e.0, none, ap (λ (x : ℕ). x * (q * 2 ^ h)) below))

divided-above : (p q h k r : ℕ) → Divided p q h k r → 0 < r → k + 1 ≡ reduced_above p q h
divided-above p q h k r v some_rest =
    let e = divided p q h k r v in
    let below = divided-below p q h k r v in
    let some : 0 < q * 2 ^ h = omega (arith, e.1) in
    let rest : 0 < r * 2 ^ h = mul-pos some_rest (pow_pos h) in
    ap (λ (x : ℕ). x + 1) below ∙ ceil_next (p * 2 ^ 62) (q * 2 ^ h) some (λ whole. absurd (omega (arith, e.0, rest, whole, ap (λ (x : ℕ). x * (q * 2 ^ h)) below)))

pub divided-fits : (p q h k r : ℕ) → Divided p q h k r → 4 * p ≤ q * 2 ^ h → k ≤ 2 ^ 60
divided-fits p q h k r v small =
    let some : 0 < q = omega (arith, v.rest) in
    let y = reduced-IsReduced p q h some small in
    omega (arith, divided-below p q h k r v, y.quarter, y.ordered)

pub divided-rounded : (p q h k r : ℕ) → Divided p q h k r → (if nat_eq r 0 then k else k + 1) ≡ reduced_above p q h
divided-rounded p q h k r v =
    elim (cases_eq r 0) [
      | inl none ↦ rw (eq-eqb r 0 none) (divided-exact p q h k r v none)
      | inr some ↦ rw (ne_eqb r 0 some) (divided-above p q h k r v (omega arith))
    ]

-- the first 32 places are few enough that the rest of them fits
pub places_fit : (k q r p h : ℕ) → 0 < q → h ≤ 30 → k * q + r ≡ p * 2 ^ 32 → 4 * p ≤ q * 2 ^ h → (k + 1) * 2 ^ (30 - h) ≤ 2 ^ 64
places_fit k q r p h some few e small =
    let join : 2 ^ h * 2 ^ (30 - h) ≡ 2 ^ 30 = pow_join h (30 - h) 30 (omega arith) in
    let less : k * q * 4 ≤ q * 2 ^ h * 2 ^ 32 = omega arith in
    let all : (k * 2 ^ (30 - h) * 4) * q ≤ 2 ^ 62 * q = omega (arith, mul-le-mul_right (2 ^ (30 - h)) less, ap (λ (x : ℕ). q * x) join) in
    let power : 2 ^ (30 - h) ≤ 2 ^ 30 = pow_le (30 - h) 30 (omega arith) in
    omega (arith, le_of_mul-le-mul_right all some, power)

pub is_reduced : (p q h low high : ℕ) → 0 < q → 4 * p ≤ q * 2 ^ h → low ≡ reduced_below p q h → high ≡ reduced_above p q h → IsReduced p (q * 2 ^ h) low high
is_reduced p q h low high some small el eh = rw (el, eh) (reduced-IsReduced p q h some small)
