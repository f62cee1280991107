-- The tables that the calls give: each entry by a formula, its sums and products rounded outward. chron's own.
use Rattle.std.specs.Prelude.{ℕ, zero, suc, ◌+◌, ◌-◌, nat_eq, if◌then◌else◌, List, length}
use Rattle.cg_enc.specs.Enclosure.{Enclosure, exact_zero}
use Rattle.cg_enc.specs.Rounding.{of_whole, plus, times, over}
use Rattle.cg_table.specs.Sums.{sum_of}
use Rattle.cg_table.specs.Table.{Table, table, entry, row_entry}

-- nothing reaches no further
abbrev pub identity_entry : ℕ → ℕ → Enclosure
identity_entry a b = if nat_eq a b then of_whole 1 else exact_zero

abbrev pub identity_of : ℕ → Table
identity_of cells = table cells identity_entry

-- one event, by its weight at each cell
abbrev pub row_table : List Enclosure → Table
row_table w = table (length w) (λ a b. row_entry w b)

-- all that begins at the first cell
abbrev pub total_entry : Table → Enclosure
total_entry t = sum_of (entry t 0) 0 t.cells

-- what begins at a and reaches b at the latest
abbrev pub cumulated : (ℕ → ℕ → Enclosure) → ℕ → ℕ → Enclosure
cumulated t a b = sum_of (t a) a (b - a + 1)

-- an event after what a table has
abbrev pub then_row_entry : (ℕ → ℕ → Enclosure) → (ℕ → Enclosure) → ℕ → ℕ → Enclosure
then_row_entry p w a b = times (cumulated p a b) (w b)

abbrev pub then_row_of : Table → List Enclosure → Table
then_row_of p w = table p.cells (then_row_entry (entry p) (row_entry w))

-- one after the other: the sum for c = a to b of p(a, c) t(c, b)
abbrev pub then_entry : (ℕ → ℕ → Enclosure) → (ℕ → ℕ → Enclosure) → ℕ → ℕ → Enclosure
then_entry p t a b = sum_of (λ c. times (p a c) (t c b)) a (b - a + 1)

abbrev pub then_of : Table → Table → Table
then_of p t = table p.cells (then_entry (entry p) (entry t))

-- Side by side: t reaches b and s no further than the cell before it, or s reaches b and t no further. At b = a the first
-- has no terms.
abbrev pub beside_entry : (ℕ → ℕ → Enclosure) → (ℕ → ℕ → Enclosure) → ℕ → ℕ → Enclosure
beside_entry s t a b = plus (times (sum_of (s a) a (b - a)) (t a b)) (times (s a b) (cumulated t a b))

abbrev pub beside_of : Table → Table → Table
beside_of s t = table s.cells (beside_entry (entry s) (entry t))

-- an After group, by the Phase of its members: nothing before it bounds it
abbrev pub after_entry : (ℕ → ℕ → Enclosure) → ℕ → ℕ → Enclosure
after_entry t a b = if nat_eq a b then sum_of (t 0) 0 (a + 1) else t 0 b

abbrev pub after_of : Table → Table
after_of t = table t.cells (after_entry (entry t))

-- a Before group, by the Phase of its members: it bounds nothing behind it
abbrev pub before_entry : ℕ → (ℕ → ℕ → Enclosure) → ℕ → ℕ → Enclosure
before_entry cells t a b = if nat_eq a b then sum_of (t a) a (cells - a) else exact_zero

abbrev pub before_of : Table → Table
before_of t = table t.cells (before_entry t.cells (entry t))

-- the power n of one over s
abbrev pub span_power : ℕ → ℕ → Enclosure
span_power s zero = of_whole 1
span_power s (suc n) = times (span_power s n) (over (of_whole 1) (of_whole s))

-- members between two Boundaries, at a and b, of which n events have no pair of their own
abbrev pub spanned_entry : (ℕ → ℕ → Enclosure) → ℕ → ℕ → ℕ → Enclosure
spanned_entry m n a b = times (cumulated m a b) (span_power (b - a + 1) n)

abbrev pub spanned_of : Table → ℕ → Table
spanned_of m n = table m.cells (spanned_entry (entry m) n)
