-- The same tables in exact whole numbers.
use Rattle.std.specs.Prelude.{ℕ, ◌+◌, ◌-◌, ◌*◌, ◌^◌, nat_eq, if◌then◌else◌}
use Rattle.cg_table.specs.Sums.{total_of}

abbrev pub exact_identity : ℕ → ℕ → ℕ
exact_identity a b = if nat_eq a b then 1 else 0

abbrev pub exact_row_table : (ℕ → ℕ) → ℕ → ℕ → ℕ
exact_row_table y a b = y b

-- what begins at a and reaches b at the latest
abbrev pub exact_cumulated : (ℕ → ℕ → ℕ) → ℕ → ℕ → ℕ
exact_cumulated x a b = total_of (x a) a (b - a + 1)

abbrev pub exact_then_row : (ℕ → ℕ → ℕ) → (ℕ → ℕ) → ℕ → ℕ → ℕ
exact_then_row x y a b = exact_cumulated x a b * y b

abbrev pub exact_then : (ℕ → ℕ → ℕ) → (ℕ → ℕ → ℕ) → ℕ → ℕ → ℕ
exact_then x y a b = total_of (λ c. x a c * y c b) a (b - a + 1)

abbrev pub exact_beside : (ℕ → ℕ → ℕ) → (ℕ → ℕ → ℕ) → ℕ → ℕ → ℕ
exact_beside x y a b = total_of (x a) a (b - a) * y a b + x a b * exact_cumulated y a b

abbrev pub exact_after : (ℕ → ℕ → ℕ) → ℕ → ℕ → ℕ
exact_after x a b = if nat_eq a b then total_of (x 0) 0 (a + 1) else x 0 b

abbrev pub exact_before : ℕ → (ℕ → ℕ → ℕ) → ℕ → ℕ → ℕ
exact_before cells x a b = if nat_eq a b then total_of (x a) a (cells - a) else 0

-- each open event has a weight of its span, here a whole number for each count of cells
abbrev pub exact_spanned : (ℕ → ℕ → ℕ) → (ℕ → ℕ) → ℕ → ℕ → ℕ → ℕ
exact_spanned x weight n a b = exact_cumulated x a b * weight (b - a + 1) ^ n
