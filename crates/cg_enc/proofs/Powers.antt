-- Powers of two, and the binary digits of a number.
use Rattle.std.proofs.Common.{◌≡◌, ℕ, suc, zero, ◌+◌, ◌-◌, ◌*◌, ◌/◌, ◌^◌, ◌<◌, ◌≤◌, ◌∙◌, sym, ap, inl, inr, lit<, arith, refl}
use Rattle.std.proofs.lemmas.Bool.{cases_lt}
use Rattle.std.proofs.lemmas.Grind.{common_steps}
use Rattle.std.proofs.lemmas.Nat.{pow-add, pow_pos, leading_top}
use Rattle.std.proofs.Math.Nat.{two-pow-succ, pow-le-pow_right, le_of_mul-le-mul_right, mul-le-mul_left, mul-le-mul_right, mul-lt-mul_of_pos_right, div-eq_of_lt, lt_of_mul-lt-mul_right}
use Rattle.std.specs.Int.{leading_zeros, w64, w128}
use Rattle.cg_enc.specs.Rounding.{ceil_div}
use Rattle.cg_enc.proofs.Divisions.{ceil_above, ceil_least}

pub pow_join : (i j k : ℕ) → i + j ≡ k → 2 ^ i * 2 ^ j ≡ 2 ^ k
pow_join i j k e = sym (pow-add 2 i j) ∙ ap (λ (x : ℕ). 2 ^ x) e

pub pow_le : (i j : ℕ) → i ≤ j → 2 ^ i ≤ 2 ^ j
pow_le i j le = pow-le-pow_right {n = 2} (lit< tt) le

pub less_pow : (n : ℕ) → n < 2 ^ n
less_pow zero = lit< tt
less_pow (suc n) = let ih = less_pow n in rw (two-pow-succ n) (omega arith)

pub exponent_less : (i j : ℕ) → 2 ^ i < 2 ^ j → i < j
exponent_less i j h = elim (cases_lt i j) [ inl less ↦ less | inr more ↦ absurd (omega (arith, pow_le j i more)) ]

-- a number stands between 2 ^ j and 2 ^ (j + 1), where j is one less than its digits
pub digits_64 : (n : ℕ) → 0 < n → n < 2 ^ 64 → (j : ℕ) × (leading_zeros w64 n + j ≡ 63) × (2 ^ j ≤ n) × (n < 2 ^ (j + 1))
digits_64 n some fits =
    let t = leading_top 64 n some fits in
    (t.0, omega (arith, t.1), t.2, grind (arith, common_steps, t.3))

pub digits_128 : (n : ℕ) → 0 < n → n < 2 ^ 128 → (j : ℕ) × (leading_zeros w128 n + j ≡ 127) × (2 ^ j ≤ n) × (n < 2 ^ (j + 1))
digits_128 n some fits =
    let t = leading_top 128 n some fits in
    (t.0, omega (arith, t.1), t.2, grind (arith, common_steps, t.3))

-- moved far enough to the right, nothing is left below and one unit above
pub floor_none : (n k d : ℕ) → n < 2 ^ k → k ≤ d → n / 2 ^ d ≡ 0
floor_none n k d small far = div-eq_of_lt (omega (arith, small, pow_le k d far))

pub ceil_one : (n k d : ℕ) → 0 < n → n ≤ 2 ^ k → k ≤ d → ceil_div n (2 ^ d) ≡ 1
ceil_one n k d some small far =
    let wide : 2 ^ k ≤ 2 ^ d = pow_le k d far in
    let high : ceil_div n (2 ^ d) ≤ 1 = ceil_least n (2 ^ d) 1 (pow_pos d) (omega (arith, wide)) in
    let low : 0 * 2 ^ d < ceil_div n (2 ^ d) * 2 ^ d = omega (arith, ceil_above n (2 ^ d) (pow_pos d)) in
    omega (arith, high, lt_of_mul-lt-mul_right (2 ^ d) low)

-- a larger move gives a smaller upper end
ceil_falls : (n s k : ℕ) → ceil_div n (2 ^ (s + k)) ≤ ceil_div n (2 ^ s)
ceil_falls n s k =
    let more : 2 ^ s ≤ 2 ^ (s + k) = pow_le s (s + k) (omega arith) in
    ceil_least n (2 ^ (s + k)) (ceil_div n (2 ^ s)) (pow_pos (s + k)) (omega (arith, ceil_above n (2 ^ s) (pow_pos s), mul-le-mul_left (ceil_div n (2 ^ s)) more))

pub ceil_at : (n s t : ℕ) → s ≤ t → ceil_div n (2 ^ t) ≤ ceil_div n (2 ^ s)
ceil_at n s t le = let e : s + (t - s) ≡ t = omega arith in rw e at (ceil_falls n s (t - s))

-- a number of at least 2 ^ j, moved right by s
pub ceil_large : (n j s k : ℕ) → s + k ≤ j → 2 ^ j ≤ n → 2 ^ k ≤ ceil_div n (2 ^ s)
ceil_large n j s k far low =
    let more : 2 ^ (s + k) ≤ 2 ^ j = pow_le (s + k) j far in
    let x : 2 ^ k * 2 ^ s ≤ ceil_div n (2 ^ s) * 2 ^ s = omega (arith, pow_join s k (s + k) refl, ceil_above n (2 ^ s) (pow_pos s)) in
    le_of_mul-le-mul_right x (pow_pos s)

-- and one of at most 2 ^ j
pub ceil_most : (n j s k : ℕ) → j ≤ s + k → n ≤ 2 ^ j → ceil_div n (2 ^ s) ≤ 2 ^ k
ceil_most n j s k near high =
    let more : 2 ^ j ≤ 2 ^ (s + k) = pow_le j (s + k) near in
    ceil_least n (2 ^ s) (2 ^ k) (pow_pos s) (omega (arith, pow_join k s (s + k) (omega arith), more))

-- a number of j + 1 digits, moved left by l, has l + j + 1 digits
pub digits_left : (n j l k : ℕ) → l + j ≡ k → 2 ^ j ≤ n → n < 2 ^ (j + 1) → (2 ^ k ≤ n * 2 ^ l) × (n * 2 ^ l < 2 ^ (k + 1))
digits_left n j l k e low high = (
  omega (arith, pow_join j l k (omega arith), mul-le-mul_right (2 ^ l) low),
  omega (arith, pow_join (j + 1) l (k + 1) (omega arith), mul-lt-mul_of_pos_right high (pow_pos l)),
)
