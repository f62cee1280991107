-- The recipe of e^-z for z = p / q: Taylor's series at y = z / 2 ^ h in units of 2 ^ -62, then h squarings.
use Rattle.std.specs.Prelude.{ℕ, zero, suc, ◌-◌, ◌*◌, ◌/◌, ◌%◌, ◌^◌, nat_le, nat_eq, if◌then◌else◌, negsuc}
use Rattle.cg_enc.specs.Enclosure.{Enclosure}
use Rattle.cg_enc.specs.Rounding.{ceil_div, least, norm, times}

-- the least h for which z / 2 ^ h is at most a quarter, z being at most 2 ^ 28
unfoldable pub halvings : ℕ → ℕ → ℕ
halvings p q = least (λ h. nat_le (4 * p) (q * 2 ^ h)) 30

-- y in units of 2 ^ -62, rounded down
abbrev pub reduced_below : ℕ → ℕ → ℕ → ℕ
reduced_below p q h = p * 2 ^ 62 / (q * 2 ^ h)

-- y in units of 2 ^ -62, rounded up
abbrev pub reduced_above : ℕ → ℕ → ℕ → ℕ
reduced_above p q h = ceil_div (p * 2 ^ 62) (q * 2 ^ h)

-- the step v ↦ 1 - y v / j of Horner's rule for j = last - done, y standing between low and high:
-- rounded down after an even number of steps, else up
abbrev pub step : ℕ → ℕ → ℕ → ℕ → ℕ → ℕ
step low high last done v =
    if nat_eq (done % 2) 0
    then (2 ^ 62 - ceil_div (high * v) (2 ^ 62 * (last - done)))
    else (2 ^ 62 - low * v / (2 ^ 62 * (last - done)))

-- the value after this many of the steps j = last down to 1, from 1
unfoldable pub horner_after : ℕ → ℕ → ℕ → ℕ → ℕ
horner_after low high last zero = 2 ^ 62
horner_after low high last (suc done) = step low high last done (horner_after low high last done)

-- from below the series to the power 17, from above the one to the power 16
unfoldable pub start : ℕ → ℕ → Enclosure
start low high = norm (horner_after low high 17 17) (horner_after low high 16 16) (negsuc 61)

-- multiplied by itself, h times over
unfoldable pub squared : Enclosure → ℕ → Enclosure
squared a zero = a
squared a (suc h) = times (squared a h) (squared a h)

-- the recipe with this number of halvings
unfoldable pub halved : ℕ → ℕ → ℕ → Enclosure
halved p q h = squared (start (reduced_below p q h) (reduced_above p q h)) h

-- the recipe
abbrev pub exp_neg_of : ℕ → ℕ → Enclosure
exp_neg_of p q = halved p q (halvings p q)
