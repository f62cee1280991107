-- Quotients rounded down and up.
use Rattle.std.proofs.Common.{◌≡◌, ℕ, ◌+◌, ◌-◌, ◌*◌, ◌/◌, ◌%◌, ◌<◌, ◌≤◌, arith}
use Rattle.std.proofs.Math.Nat.{div-add-mod', mod-lt, lt_of_mul-lt-mul_right, le-mul_of_pos_right}
use Rattle.cg_enc.specs.Rounding.{ceil_div}

pub ceil_above : (n d : ℕ) → 0 < d → n ≤ ceil_div n d * d
ceil_above n d some = let m : (n + (d - 1)) % d < d = mod-lt (n + (d - 1)) some in omega (arith, div-add-mod' (n + (d - 1)) d)

pub ceil_near : (n d : ℕ) → 0 < d → ceil_div n d * d < n + d
ceil_near n d some = omega (arith, div-add-mod' (n + (d - 1)) d)

-- it is the least number that isn't below the quotient
pub ceil_least : (n d x : ℕ) → 0 < d → n ≤ x * d → ceil_div n d ≤ x
ceil_least n d x some h =
    let less : ceil_div n d * d < (x + 1) * d = omega (arith, ceil_near n d some) in
    omega (arith, lt_of_mul-lt-mul_right d less)

pub ceil_small : (n d : ℕ) → 0 < d → ceil_div n d ≤ n
ceil_small n d some = ceil_least n d n some (le-mul_of_pos_right n some)

pub floor_below : (n d : ℕ) → n / d * d ≤ n
floor_below n d = omega (arith, div-add-mod' n d)

pub floor_near : (n d : ℕ) → 0 < d → n < n / d * d + d
floor_near n d some = let m : n % d < d = mod-lt n some in omega (arith, div-add-mod' n d)

-- it is the greatest number that isn't above the quotient
pub floor_greatest : (n d x : ℕ) → 0 < d → x * d ≤ n → x ≤ n / d
floor_greatest n d x some h =
    let less : x * d < (n / d + 1) * d = omega (arith, floor_near n d some) in
    omega (arith, lt_of_mul-lt-mul_right d less)

pub floor_ceil : (l h d : ℕ) → 0 < d → l ≤ h → l / d ≤ ceil_div h d
floor_ceil l h d some le =
    let a : l / d * d < (ceil_div h d + 1) * d = omega (arith, floor_below l d, ceil_above h d some) in
    omega (arith, lt_of_mul-lt-mul_right d a)

-- a quotient that isn't whole is rounded up to the next number
pub ceil_next : (n d : ℕ) → 0 < d → (n / d * d ≡ n → ⊥) → n / d + 1 ≡ ceil_div n d
ceil_next n d some ne =
    let high : ceil_div n d ≤ n / d + 1 = ceil_least n d (n / d + 1) some (omega (arith, floor_near n d some)) in
    let low : n / d * d < ceil_div n d * d = omega (arith, ceil_above n d some, floor_below n d, ne) in
    omega (arith, lt_of_mul-lt-mul_right d low, high)

-- a quotient that is whole isn't rounded
pub ceil_whole : (n d : ℕ) → 0 < d → n / d * d ≡ n → n / d ≡ ceil_div n d
ceil_whole n d some e =
    let high : ceil_div n d ≤ n / d = ceil_least n d (n / d) some (omega (arith, e)) in
    let low : n / d * d < (ceil_div n d + 1) * d = omega (arith, ceil_above n d some, e) in
    omega (arith, lt_of_mul-lt-mul_right d low, high)
