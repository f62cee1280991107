-- What an enclosure is, which fractions it encloses, and how much it loses.
use Rattle.std.specs.Prelude.{◌≡◌, ℕ, ◌-◌, ◌*◌, ◌^◌, ◌<◌, ◌≤◌, ℤ, pos}
use borrow.Author.Differences.{up, down}

-- a lower and an upper end, in units of 2 ^ exp
pub record Enclosure : Type 0 where
  pub lo : ℕ
  pub hi : ℕ
  pub exp : ℤ

-- the enclosure of 0 alone
abbrev pub exact_zero : Enclosure
exact_zero = record { lo = 0; hi = 0; exp = pos 0 }

-- what every enclosure meets: zero has three zeros, and any other an upper end of 63 binary digits
pub record IsEnclosure (a : Enclosure) : Type 0 where
  pub ordered : a.lo ≤ a.hi
  pub most : a.hi < 2 ^ 63
  pub least : 0 < a.hi → 2 ^ 62 ≤ a.hi
  pub zero_exp : a.hi ≡ 0 → a.exp ≡ pos 0

-- it is the enclosure of 0 alone
abbrev pub IsZero : Enclosure → Type 0
IsZero a = a.hi ≡ 0

-- all that it encloses is above 0
abbrev pub IsFirm : Enclosure → Type 0
IsFirm a = 1 ≤ a.lo

-- an exponent between -m and m
abbrev pub IsExponent : ℕ → ℤ → Type 0
IsExponent m e = (up e ≤ m) × (down e ≤ m)

-- n / d stands between lo * 2 ^ exp and hi * 2 ^ exp; up and down are the parts of exp above and
-- below 0, so a power of two with a negative exponent stands on the other side
pub record Encloses (a : Enclosure) (n d : ℕ) : Type 0 where
  pub below : a.lo * 2 ^ up a.exp * d ≤ n * 2 ^ down a.exp
  pub above : n * 2 ^ down a.exp ≤ a.hi * 2 ^ up a.exp * d

-- the ends are apart by at most k parts in 2 ^ 62 of the upper end
abbrev pub HasLoss : Enclosure → ℕ → Type 0
HasLoss a k = (a.hi - a.lo) * 2 ^ 62 ≤ k * a.hi
