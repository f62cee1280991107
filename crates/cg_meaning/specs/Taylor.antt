-- Bounds of e^-z for z = p / q by Taylor's series, as exact fractions.
use Rattle.std.specs.Prelude.{ℕ, zero, suc, ◌+◌, ◌-◌, ◌*◌, ◌%◌, ◌^◌, ◌≤◌, nat_eq, if◌then◌else◌}

-- q ^ n n!
abbrev pub denominator : ℕ → ℕ → ℕ
denominator q zero = 1
denominator q (suc n) = denominator q n * (q * suc n)

-- p ^ n where n has this parity, else nothing
abbrev pub term : ℕ → ℕ → ℕ → ℕ
term p parity n = if nat_eq (n % 2) parity then p ^ n else 0

-- the terms p ^ k / (q ^ k k!) of this parity for k = 0 to n, over the denominator
abbrev pub terms : ℕ → ℕ → ℕ → ℕ → ℕ
terms p q parity zero = term p parity 0
terms p q parity (suc n) = terms p q parity n * (q * suc n) + term p parity (suc n)

-- the sum of (-y) ^ k / k! for k = 0 to n, for y = p / q at most 1, over the denominator
abbrev pub series : ℕ → ℕ → ℕ → ℕ
series p q n = terms p q 0 n - terms p q 1 n

-- h is the least number with 4 p ≤ q 2 ^ h, so p / (q 2 ^ h) is at most a quarter
pub record IsHalving (p q h : ℕ) : Type 0 where
  pub small : 4 * p ≤ q * 2 ^ h
  pub least : (k : ℕ) → 4 * p ≤ q * 2 ^ k → h ≤ k

-- The series up to this term at y = p / (q 2 ^ h), raised to the power 2 ^ h: below e^-z where the last term is odd,
-- above it where it is even.
abbrev pub bound_top : ℕ → ℕ → ℕ → ℕ → ℕ
bound_top p q h last = series p (q * 2 ^ h) last ^ (2 ^ h)

abbrev pub bound_bottom : ℕ → ℕ → ℕ → ℕ
bound_bottom q h last = denominator (q * 2 ^ h) last ^ (2 ^ h)
