-- The sum by Horner's rule, and the bounds that its rounded form keeps.
use Rattle.std.proofs.Common.{◌≡◌, ℕ, zero, suc, ◌+◌, ◌-◌, ◌*◌, ◌^◌, ◌<◌, ◌≤◌, arith, refl, ap, ◌∙◌}
use Rattle.std.proofs.Math.Nat.{mul-le-mul, mul-le-mul_right, mul-le-mul_left, le_of_mul-le-mul_right, pow-zero, pow-suc, mul-sub}
use Rattle.std.proofs.lemmas.Bool.Decides.{nat_tests}
use Rattle.cg_meaning.specs.Taylor.{denominator, term, terms}

-- a / b at step n, taken down to step 0 by t ↦ 1 - y t / j
pub record Fraction : Type 0 where
  pub num : ℕ
  pub den : ℕ

abbrev pub horner : ℕ → ℕ → ℕ → ℕ → ℕ → Fraction
horner p q zero a b = record { num = a; den = b }
horner p q (suc n) a b = horner p q n (q * suc n * b - p * a) (q * suc n * b)

term_below : (p q r n : ℕ) → term p r n ≤ terms p q r n
term_below p q r zero = omega arith
term_below p q r (suc n) = omega arith

term_next : (p n : ℕ) → (term p 0 (suc n) ≡ term p 1 n * p) × (term p 1 (suc n) ≡ term p 0 n * p)
term_next p n = (grind (arith, nat_tests, pow-suc), grind (arith, nat_tests, pow-suc))

apart_below : (s c m k : ℕ) → k * s ≤ c * m → (s - c) * m ≤ (m - k) * s
apart_below s c m k h = omega (arith, mul-sub m s c, mul-sub s m k)

apart_above : (s f m k : ℕ) → f * m ≤ k * s → (m - k) * s ≤ (s - f) * m
apart_above s f m k h = omega (arith, mul-sub m s f, mul-sub s m k)

-- a lower bound from an upper one, with c the quotient rounded up
pub low_step : (p q a b x s high j c : ℕ) → 0 < s → a * s ≤ x * b → p * s ≤ high * q → high * x ≤ c * (s * j) → (s - c) * (q * j * b) ≤ (q * j * b - p * a) * s
low_step p q a b x s high j c some above up near =
    let x1 : (p * a * s) * s ≤ (c * (q * j * b)) * s = omega (arith, mul-le-mul up above, mul-le-mul_right (q * b) near) in
    let x2 : p * a * s ≤ c * (q * j * b) = le_of_mul-le-mul_right x1 some in
    apart_below s c (q * j * b) (p * a) x2

-- an upper bound from a lower one, with f the quotient rounded down
pub high_step : (p q a b x s low j f : ℕ) → 0 < s → x * b ≤ a * s → low * q ≤ p * s → f * (s * j) ≤ low * x → (q * j * b - p * a) * s ≤ (s - f) * (q * j * b)
high_step p q a b x s low j f some below down near =
    let x1 : (f * (q * j * b)) * s ≤ (p * a * s) * s = omega (arith, mul-le-mul down below, mul-le-mul_right (q * b) near) in
    let x2 : f * (q * j * b) ≤ p * a * s = le_of_mul-le-mul_right x1 some in
    apart_above s f (q * j * b) (p * a) x2

-- what is left after the subtractions are moved to the other side
sum_step : (num e o te to m k : ℕ) → k ≤ m → num + (o * m + to * (m - k)) + te * m ≡ e * m + te * (m - k) + to * m → num + o * m + te * k ≡ e * m + to * k
sum_step num e o te to m k le h =
    let rest : (m - k) + k ≡ m = omega arith in
    omega (arith, h, ap (λ (x : ℕ). to * x) rest, ap (λ (x : ℕ). te * x) rest)

next_step : (num e o te to te2 to2 m k a b p w : ℕ) → te2 ≡ to * p → to2 ≡ te * p → m ≡ w * b → k ≡ p * a → num + o * m + te * k ≡ e * m + to * k →
    num + ((o * w + to2) * b + to2 * a) + te2 * b ≡ (e * w + te2) * b + te2 * a + to2 * b
next_step num e o te to te2 to2 m k a b p w x y z v h =
    omega (arith, h, ap (λ (i : ℕ). e * i) z, ap (λ (i : ℕ). o * i) z, ap (λ (i : ℕ). te * i) v, ap (λ (i : ℕ). to * i) v, ap (λ (i : ℕ). i * a) x, ap (λ (i : ℕ). i * a) y)

-- Horner's rule gives the sum: its numerator and the odd terms together are the even terms, where the last term is scaled by a / b
pub horner-terms : (p q n a b : ℕ) → p ≤ q → a ≤ b →
    ((horner p q n a b).num + (terms p q 1 n * b + term p 1 n * a) + term p 0 n * b ≡ terms p q 0 n * b + term p 0 n * a + term p 1 n * b) × ((horner p q n a b).den ≡ denominator q n * b)
horner-terms p q zero a b le ab =
    let one : p ^ 0 ≡ 1 = pow-zero p in
    (omega (arith, ap (λ (x : ℕ). x * a) one, ap (λ (x : ℕ). x * b) one), omega arith)
horner-terms p q (suc n) a b le ab =
    let m : ℕ = q * suc n * b in
    let small : p * a ≤ q * suc n * b = omega (arith, mul-le-mul le ab, mul-le-mul_right (n * b) le, mul-le-mul_left (q * n) ab) in
    let ih = horner-terms p q n (q * suc n * b - p * a) (q * suc n * b) le (omega arith) in
    let t = term_next p n in (
      next_step (horner p q n (q * suc n * b - p * a) (q * suc n * b)).num (terms p q 0 n) (terms p q 1 n) (term p 0 n) (term p 1 n) (term p 0 (suc n)) (term p 1 (suc n)) (q * suc n * b) (p * a) a b p (q * suc n) t.0 t.1 refl refl
          (sum_step (horner p q n (q * suc n * b - p * a) (q * suc n * b)).num (terms p q 0 n) (terms p q 1 n) (term p 0 n) (term p 1 n) (q * suc n * b) (p * a) small ih.0),
      ih.1 ∙ omega arith,
    )

-- the whole sum: the last term unscaled
pub horner-sum : (p q n : ℕ) → p ≤ q → ((horner p q n 1 1).num + terms p q 1 n ≡ terms p q 0 n) × ((horner p q n 1 1).den ≡ denominator q n)
horner-sum p q n le = let h = horner-terms p q n 1 1 le (omega arith) in (omega (arith, h.0), omega (arith, h.1))
