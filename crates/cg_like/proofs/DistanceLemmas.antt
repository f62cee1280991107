-- The numbers of a distance fit their types, and are those of the meaning.
use Rattle.std.proofs.Common.{◌≡◌, ℕ, ◌+◌, ◌<◌, ◌≤◌, ◌^◌, refl, arith, ℤ, pos, negsuc, ◌-ℤ◌, ◌*ℤ◌, ◌≤ℤ◌, unsigned_abs, FitsSigned, w64, lit<}
use Rattle.std.proofs.Math.Nat.{mul-le-mul}
use Rattle.std.proofs.lemmas.Int.{ints, fits_signed_mul, unsigned_abs-mul}
use Rattle.cg_meaning.specs.Weights as meaning
use Rattle.cg_meaning.specs.Weights.{square}

-- a decimal times a gap of the curve
record IsDecimalTimes (a : ℤ) (gap : ℕ) : Type 0 where
  decimal : unsigned_abs a ≤ 999999999999999
  near : gap ≤ 1000

is_decimal_times : (a : ℤ) (gap : ℕ) → negsuc 999999999999998 ≤ℤ a → a ≤ℤ pos 999999999999999 → gap ≤ 1000 → IsDecimalTimes a gap
is_decimal_times a gap low high near = record { decimal = omega (arith, ints); near = near }

near_gap : (gap : ℕ) → gap ≤ 1000 → unsigned_abs (pos gap) ≤ 1000
near_gap gap near = omega (arith, ints)

pub product_fits : (a : ℤ) (gap : ℕ) → negsuc 999999999999998 ≤ℤ a → a ≤ℤ pos 999999999999999 → gap ≤ 1000 → FitsSigned w64 (a *ℤ pos gap)
product_fits a gap low high near =
    let d = is_decimal_times a gap low high near in
    fits_signed_mul w64 a (pos gap) 999999999999999 1000 d.decimal (near_gap gap near) (lit< tt)

product_most : (a : ℤ) (gap : ℕ) → IsDecimalTimes a gap → unsigned_abs (a *ℤ pos gap) ≤ 999999999999999000
product_most a gap d = omega (arith, unsigned_abs-mul a (pos gap), mul-le-mul d.decimal (near_gap gap d.near))

difference_small : (x y : ℤ) → unsigned_abs x ≤ 999999999999999000 → unsigned_abs y ≤ 70000000000 → FitsSigned w64 (x -ℤ y)
difference_small x y hx hy = omega (arith, ints)

-- an age of the curve, times the gap
age_small : (y : ℤ) (gap : ℕ) → gap ≤ 1000 → (negsuc 9999999 *ℤ pos gap) ≤ℤ y → y ≤ℤ (pos 70000000 *ℤ pos gap) → unsigned_abs y ≤ 70000000000
age_small y gap near low high = omega (arith, ints)

pub difference_fits : (a y : ℤ) (gap : ℕ) → negsuc 999999999999998 ≤ℤ a → a ≤ℤ pos 999999999999999 → gap ≤ 1000
    → (negsuc 9999999 *ℤ pos gap) ≤ℤ y → y ≤ℤ (pos 70000000 *ℤ pos gap) → FitsSigned w64 (a *ℤ pos gap -ℤ y)
difference_fits a y gap low high near below above =
    difference_small (a *ℤ pos gap) y (product_most a gap (is_decimal_times a gap low high near)) (age_small y gap near below above)

pub age_fits : (y : ℤ) (gap : ℕ) → gap ≤ 1000 → (negsuc 9999999 *ℤ pos gap) ≤ℤ y → y ≤ℤ (pos 70000000 *ℤ pos gap) → FitsSigned w64 y
age_fits y gap near low high = let small = age_small y gap near low high in omega (arith, ints)

pub sigma_fits : (y : ℤ) (gap : ℕ) → gap ≤ 1000 → pos 0 ≤ℤ y → y ≤ℤ (pos 10000000 *ℤ pos gap) → FitsSigned w64 y
sigma_fits y gap near low high = omega (arith, ints)

sigma_small : (y : ℤ) (gap : ℕ) → gap ≤ 1000 → pos 0 ≤ℤ y → y ≤ℤ (pos 10000000 *ℤ pos gap) → unsigned_abs y ≤ 10000000000
sigma_small y gap near low high = omega (arith, ints)

-- the sum of two squares fits 128 bits
pub squares_fit : (a y : ℤ) (gap : ℕ) → negsuc 999999999999998 ≤ℤ a → a ≤ℤ pos 999999999999999 → gap ≤ 1000
    → pos 0 ≤ℤ y → y ≤ℤ (pos 10000000 *ℤ pos gap) → square (a *ℤ pos gap) + square y < 2 ^ 128
squares_fit a y gap low high near below above =
    let e = product_most a gap (is_decimal_times a gap low high near) in
    let s = sigma_small y gap near below above in
    omega (arith, mul-le-mul e e, mul-le-mul s s)

pub same : (p p' q q' s s' gap : ℕ) → p ≡ p' → q ≡ q' → s ≡ s' →
    ◌≡◌ {A = meaning.Distance} (record { p = p; q = q + s; gap = gap }) (record { p = p'; q = q' + s'; gap = gap })
same p p' q q' s s' gap x y z = rw (x, y, z) refl

pub same_of_year : (p p' q q' : ℕ) → p ≡ p' → q ≡ q' →
    ◌≡◌ {A = meaning.Distance} (record { p = p; q = q; gap = 1 }) (record { p = p'; q = q'; gap = 1 })
same_of_year p p' q q' x y = rw (x, y) refl
