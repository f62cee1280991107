-- The contexts that the calls give: each entry by a formula, its sums and products rounded outward. chron's own.
use Rattle.std.specs.Prelude.{ℕ, zero, suc, ◌+◌, ◌-◌, nat_eq, if◌then◌else◌, List, map}
use Rattle.std.specs.List.{range_with_len}
use Rattle.cg_enc.specs.Enclosure.{Enclosure, exact_zero}
use Rattle.cg_enc.specs.Rounding.{of_whole, plus, times}
use Rattle.cg_table.specs.Sums.{sum_of}
use Rattle.cg_table.specs.Table.{Table, table, entry, row_entry}
use Rattle.cg_table.specs.Formulas.{cumulated, span_power}

-- n terms from f start on: the last, and each earlier one added to it
abbrev pub sum_down : (ℕ → Enclosure) → ℕ → ℕ → Enclosure
sum_down f start zero = exact_zero
sum_down f start (suc n) = plus (sum_down f (suc start) n) (f start)

-- from f c to the youngest cell
abbrev pub sum_on : ℕ → ℕ → (ℕ → Enclosure) → Enclosure
sum_on cells c f = sum_down f c (cells - c)

-- of the whole tree
abbrev pub root_entry : ℕ → ℕ → Enclosure
root_entry a b = if nat_eq a 0 then of_whole 1 else exact_zero

abbrev pub root_context : ℕ → Table
root_context cells = table cells root_entry

-- of a member of a Phase, by the table of the other members
abbrev pub into_phase_entry : ℕ → (ℕ → ℕ → Enclosure) → (ℕ → ℕ → Enclosure) → ℕ → ℕ → Enclosure
into_phase_entry cells x q a d = plus (times (x a d) (cumulated q a d)) (sum_on cells (suc d) (λ b. times (x a b) (q a b)))

abbrev pub into_phase_of : Table → Table → Table
into_phase_of x q = table x.cells (into_phase_entry x.cells (entry x) (entry q))

-- of the Phase of an After group's members
abbrev pub into_after_entry : ℕ → (ℕ → ℕ → Enclosure) → ℕ → ℕ → Enclosure
into_after_entry cells x a c =
    if nat_eq a 0 then plus (sum_of (λ d. x d c) 0 c) (sum_on cells c (λ d. x d d)) else exact_zero

abbrev pub into_after_of : Table → Table
into_after_of x = table x.cells (into_after_entry x.cells (entry x))

-- of the Phase of a Before group's members
abbrev pub into_before_entry : (ℕ → ℕ → Enclosure) → ℕ → ℕ → Enclosure
into_before_entry x a b = x a a

abbrev pub into_before_of : Table → Table
into_before_of x = table x.cells (into_before_entry (entry x))

-- of what precedes an item of a Sequence, by the item's table
abbrev pub back_entry : ℕ → (ℕ → ℕ → Enclosure) → (ℕ → ℕ → Enclosure) → ℕ → ℕ → Enclosure
back_entry cells v t a c = sum_on cells c (λ d. times (v a d) (t c d))

abbrev pub back_of : Table → Table → Table
back_of v t = table v.cells (back_entry v.cells (entry v) (entry t))

-- by the row of an event
abbrev pub back_row_entry : ℕ → (ℕ → ℕ → Enclosure) → (ℕ → Enclosure) → ℕ → ℕ → Enclosure
back_row_entry cells v w a c = sum_on cells c (λ d. times (v a d) (w d))

abbrev pub back_row_of : Table → List Enclosure → Table
back_row_of v w = table v.cells (back_row_entry v.cells (entry v) (row_entry w))

-- of an item of a Sequence, by the table of what precedes it
abbrev pub into_sequence_entry : (ℕ → ℕ → Enclosure) → (ℕ → ℕ → Enclosure) → ℕ → ℕ → Enclosure
into_sequence_entry p v c d = sum_of (λ a. times (p a c) (v a d)) 0 (c + 1)

abbrev pub into_sequence_of : Table → Table → Table
into_sequence_of p v = table p.cells (into_sequence_entry (entry p) (entry v))

-- of what stands between two Boundaries, of which n events are open
abbrev pub into_span_entry : ℕ → (ℕ → ℕ → Enclosure) → ℕ → ℕ → ℕ → Enclosure
into_span_entry cells x n a c = sum_on cells c (λ b. times (x a b) (span_power (b - a + 1) n))

abbrev pub into_span_of : Table → ℕ → Table
into_span_of x n = table x.cells (into_span_entry x.cells (entry x) n)

-- of an event's cells, where it is an item by itself
abbrev pub at_member_entry : (ℕ → ℕ → Enclosure) → (ℕ → ℕ → Enclosure) → ℕ → Enclosure
at_member_entry p v y = sum_of (λ a. times (cumulated p a y) (v a y)) 0 (y + 1)

-- of an event's cells
abbrev pub at_leaf_entry : (ℕ → ℕ → Enclosure) → ℕ → Enclosure
at_leaf_entry x y = sum_of (λ a. x a y) 0 (y + 1)

-- of the Boundary that closes a span, with the span's table
abbrev pub at_end_entry : (ℕ → ℕ → Enclosure) → (ℕ → ℕ → Enclosure) → ℕ → Enclosure
at_end_entry x k y = sum_of (λ a. times (x a y) (k a y)) 0 (y + 1)

-- the row in which f gives the entry of each cell
abbrev pub row_by : ℕ → (ℕ → Enclosure) → List Enclosure
row_by cells f = map f (range_with_len 0 cells)
