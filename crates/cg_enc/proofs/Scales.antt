-- Inequalities of fractions at two scales of powers of two, over plain numbers.
use Rattle.std.proofs.Common.{◌≡◌, ℕ, ◌+◌, ◌*◌, ◌^◌, ◌<◌, ◌≤◌, ◌∙◌, sym, ap, arith, refl}
use Rattle.std.proofs.Math.Nat.{mul-le-mul_right, le_of_mul-le-mul_right}
use Rattle.cg_enc.proofs.Powers.{pow_join}

-- a smaller lower end at another scale, where p' q t = p q' s
pub lower_end : (l lo n d p q p' q' s t : ℕ) → 0 < q * t → p' * (q * t) ≡ p * (q' * s) → l * s ≤ lo * t → lo * p * d ≤ n * q → l * p' * d ≤ n * q'
lower_end l lo n d p q p' q' s t some scales less below =
    let x : (l * p' * d) * (q * t) ≤ (n * q') * (q * t) =
    omega (arith, ap (λ (x : ℕ). l * d * x) scales, mul-le-mul_right (d * p * q') less, mul-le-mul_right (t * q') below) in
    le_of_mul-le-mul_right x some

-- a greater upper end at another scale
pub upper_end : (h hi n d p q p' q' s t : ℕ) → 0 < q * t → p' * (q * t) ≡ p * (q' * s) → hi * t ≤ h * s → n * q ≤ hi * p * d → n * q' ≤ h * p' * d
upper_end h hi n d p q p' q' s t some scales more above =
    let x : (n * q') * (q * t) ≤ (h * p' * d) * (q * t) =
    omega (arith, ap (λ (x : ℕ). h * d * x) scales, mul-le-mul_right (d * p * q') more, mul-le-mul_right (t * q') above) in
    le_of_mul-le-mul_right x some

-- the scales of four exponents, p' - q' being p - q + s - t
pub scales_of : (p q p' q' s t : ℕ) → p' + q + t ≡ p + q' + s → 2 ^ p' * (2 ^ q * 2 ^ t) ≡ 2 ^ p * (2 ^ q' * 2 ^ s)
scales_of p q p' q' s t e =
    let left : 2 ^ p' * (2 ^ q * 2 ^ t) ≡ 2 ^ (p' + q + t) = rw (pow_join q t (q + t) refl) (pow_join p' (q + t) (p' + q + t) (omega arith)) in
    let right : 2 ^ p * (2 ^ q' * 2 ^ s) ≡ 2 ^ (p' + q + t) = rw (pow_join q' s (q' + s) refl) (pow_join p (q' + s) (p' + q + t) (omega arith)) in
    left ∙ sym right
