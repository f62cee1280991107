-- The rounding rules: each call's value, lower ends rounded down and upper ends rounded up.
use Rattle.std.specs.Prelude.{ℕ, zero, suc, ◌+◌, ◌-◌, ◌*◌, ◌/◌, ◌%◌, ◌^◌, min, ℤ, pos, ◌+ℤ◌, ◌-ℤ◌, Bool, nat_lt, nat_le, nat_eq, if◌then◌else◌}
use borrow.Author.Differences.{up, down}
use Rattle.cg_enc.specs.Enclosure.{Enclosure, exact_zero}

-- n / d rounded up; n / d itself is rounded down
abbrev pub ceil_div : ℕ → ℕ → ℕ
ceil_div n d = (n + (d - 1)) / d

-- the least of the numbers 0 to n that passes, or n where none does
unfoldable pub least : (ℕ → Bool) → ℕ → ℕ
least t zero = 0
least t (suc n) = if t (least t n) then least t n else suc n

-- the greatest of the numbers 0 to n that passes, or 0 where none does
unfoldable pub greatest : (ℕ → Bool) → ℕ → ℕ
greatest t zero = 0
greatest t (suc n) = if t (suc n) then suc n else greatest t n

-- the least s for which hi * 2 ^ s is at least 2 ^ 62
unfoldable pub left : ℕ → ℕ
left hi = least (λ s. nat_le (2 ^ 62) (hi * 2 ^ s)) 62

-- the least s for which hi / 2 ^ s, rounded up, is below 2 ^ 63
unfoldable pub right : ℕ → ℕ
right hi = least (λ s. nat_lt (ceil_div hi (2 ^ s)) (2 ^ 63)) hi

-- the normal form: both ends are moved by a power of two that brings the upper end into 2 ^ 62 to
-- 2 ^ 63 - 1
unfoldable pub norm : ℕ → ℕ → ℤ → Enclosure
norm lo hi e =
    if nat_lt hi (2 ^ 62)
    then record { lo = lo * 2 ^ left hi; hi = hi * 2 ^ left hi; exp = e -ℤ pos (left hi) }
    else (if nat_lt hi (2 ^ 63)
    then record { lo = lo; hi = hi; exp = e }
    else record {
      lo = lo / 2 ^ right hi;
      hi = ceil_div hi (2 ^ right hi);
      exp = e +ℤ pos (right hi);
    })

-- a whole number
unfoldable pub of_whole : ℕ → Enclosure
of_whole n = if nat_eq n 0 then exact_zero else norm n n (pos 0)

-- by how much the exponent e is above f, 0 where it isn't
abbrev pub gap : ℤ → ℤ → ℕ
gap e f = up e + down f - (up f + down e)

-- the sum of two that aren't zero, a having the greater exponent
unfoldable pub plus_at : Enclosure → Enclosure → Enclosure
plus_at a b =
    let d = gap a.exp b.exp in
    norm (a.lo + b.lo / 2 ^ d) (a.hi + ceil_div b.hi (2 ^ d)) a.exp

-- the sum
unfoldable pub plus : Enclosure → Enclosure → Enclosure
plus a b =
    if nat_eq a.hi 0 then b
    else (if nat_eq b.hi 0 then a
    else (if nat_eq (gap b.exp a.exp) 0 then plus_at a b else plus_at b a))

-- the product
unfoldable pub times : Enclosure → Enclosure → Enclosure
times a b =
    if nat_eq a.hi 0 then exact_zero
    else (if nat_eq b.hi 0 then exact_zero
    else norm (a.lo * b.lo) (a.hi * b.hi) (a.exp +ℤ b.exp))

-- the greatest s in 0 to 63 for which hi * 2 ^ s / lo, rounded up, is below 2 ^ 63
unfoldable pub over_places : ℕ → ℕ → ℕ
over_places hi lo = greatest (λ s. nat_lt (ceil_div (hi * 2 ^ s) lo) (2 ^ 63)) 63

-- the quotient, b being firm
unfoldable pub over : Enclosure → Enclosure → Enclosure
over a b =
    let s = over_places a.hi b.lo in
    if nat_eq a.hi 0 then exact_zero
    else record {
      lo = a.lo * 2 ^ s / b.hi;
      hi = ceil_div (a.hi * 2 ^ s) b.lo;
      exp = a.exp -ℤ b.exp -ℤ pos s;
    }

-- the greatest number whose square isn't above n
unfoldable pub root_below : ℕ → ℕ
root_below n = greatest (λ r. nat_le (r * r) n) n

-- the least number whose square isn't below n
unfoldable pub root_above : ℕ → ℕ
root_above n = least (λ r. nat_le n (r * r)) n

-- 62 for an even exponent, 63 for an odd one
abbrev pub root_places : ℤ → ℕ
root_places e = 62 + (up e + down e) % 2

-- half of an even exponent
abbrev pub half : ℤ → ℤ
half e = pos (up e / 2) -ℤ pos (down e / 2)

-- the root
unfoldable pub root : Enclosure → Enclosure
root a =
    let t = root_places a.exp in
    if nat_eq a.hi 0 then exact_zero
    else norm (root_below (a.lo * 2 ^ t)) (root_above (a.hi * 2 ^ t)) (half (a.exp -ℤ pos t))

-- wider by one unit at each end, but never below 0
unfoldable pub margin : Enclosure → Enclosure
margin a = if nat_eq a.hi 0 then exact_zero else norm (a.lo - 1) (a.hi + 1) a.exp

-- the lower end of a over b in parts per million
unfoldable pub ppm_below : Enclosure → Enclosure → ℕ
ppm_below a b =
    min 1000000 (1000000 * a.lo * 2 ^ gap a.exp b.exp / (b.hi * 2 ^ gap b.exp a.exp))

-- the upper end of a over b in parts per million
unfoldable pub ppm_above : Enclosure → Enclosure → ℕ
ppm_above a b =
    min 1000000 (ceil_div (1000000 * a.hi * 2 ^ gap a.exp b.exp) (b.lo * 2 ^ gap b.exp a.exp))
