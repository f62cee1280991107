-- Square roots of whole numbers, by squares.
use Rattle.std.specs.Prelude.{ℕ, ◌*◌, ◌≤◌}

-- r is the greatest number whose square isn't above n
pub record IsRootBelow (n r : ℕ) : Type 0 where
  pub square : r * r ≤ n
  pub greatest : (s : ℕ) → s * s ≤ n → s ≤ r

-- r is the least number whose square isn't below n
pub record IsRootAbove (n r : ℕ) : Type 0 where
  pub square : n ≤ r * r
  pub least : (s : ℕ) → n ≤ s * s → r ≤ s
