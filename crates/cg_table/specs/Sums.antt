-- Sums over cells: rounded ones of enclosures, and the exact sums that they enclose.
use Rattle.std.specs.Prelude.{ℕ, zero, suc, ◌+◌}
use Rattle.cg_enc.specs.Enclosure.{Enclosure, exact_zero}
use Rattle.cg_enc.specs.Rounding.{plus}

-- n terms from f start on: the first, and each next one added to it
abbrev pub sum_of : (ℕ → Enclosure) → ℕ → ℕ → Enclosure
sum_of f start zero = exact_zero
sum_of f start (suc n) = plus (sum_of f start n) (f (start + n))

-- the exact sum of n terms from g start on
abbrev pub total_of : (ℕ → ℕ) → ℕ → ℕ → ℕ
total_of g start zero = 0
total_of g start (suc n) = total_of g start n + g (start + n)
