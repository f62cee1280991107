-- What each call on contexts adds to loss and reach, on grids of 1 to 512 cells.
use Rattle.std.proofs.Common.{ℕ, ◌+◌, ◌*◌, ◌^◌, ◌<◌, ◌≤◌, List, arith, refl, subst, sym}
use Rattle.cg_enc.specs.Enclosure.{Enclosure}
use Rattle.cg_enc.specs.Rounding.{times}
use Rattle.cg_table.specs.Table.{Table, entry, row_entry}
use Rattle.cg_table.proofs.WithinLemmas.{IsWithin, within_more, times-within}
use Rattle.cg_recipe.specs.Bounds.{IsBoundedTable}
use Rattle.cg_recipe.proofs.BoundsTables.{bounded-table, bounded_more, within, within_row, IsBoundedRow}
use Rattle.cg_context.specs.Formulas.{root_entry, root_context, into_phase_entry, into_phase_of, into_after_entry, into_after_of, into_before_entry, into_before_of, back_entry, back_of, back_row_entry, back_row_of, into_sequence_entry, into_sequence_of, into_span_entry, into_span_of, at_member_entry, at_leaf_entry, at_end_entry}
use Rattle.cg_context.proofs.CallLemmas.{root-within, into_phase-within, into_after-within, back-within, back_row-within, into_sequence-within, into_span-within, at_leaf-within, at_end-within, at_member-within}

-- the context of a whole tree
pub root-bounded : (cells : ℕ) → cells ≤ 512 → IsBoundedTable cells 0 1 (root_context cells)
root-bounded cells few = bounded-table cells cells 0 66 1 root_entry refl few (omega arith) (omega arith) (λ a b le less. root-within a b)

-- of a member of a Phase
pub into_phase-bounded : (cells k r k' r' : ℕ) (x q : Table) → cells ≤ 512 → r + r' < 2 ^ 20 → IsBoundedTable cells k r x → IsBoundedTable cells k' r' q →
    IsBoundedTable cells (k + k' + 2 ^ 13) (r + r' + 1) (into_phase_of x q)
into_phase-bounded cells k r k' r' x q few near h h' =
    bounded_more (omega arith) (omega arith)
    (bounded-table cells x.cells (k + k' + 3 * cells + 6) (r * 2 ^ 31 + r' * 2 ^ 31 + cells + 64) (r + r' + 1)
    (into_phase_entry x.cells (entry x) (entry q)) h.each few (omega arith) (omega arith)
    (λ a b le less. subst (λ (n : ℕ). IsWithin (into_phase_entry n (entry x) (entry q) a b) (k + k' + 3 * cells + 6)
    (r * 2 ^ 31 + r' * 2 ^ 31 + cells + 64)) (sym h.each)
    (into_phase-within (entry x) (entry q) k (r * 2 ^ 31) k' (r' * 2 ^ 31) cells a b (within cells k r x h) (within cells k' r' q h') le less)))

-- of an After group's Phase
pub into_after-bounded : (cells k r : ℕ) (x : Table) → cells ≤ 512 → r < 2 ^ 20 → IsBoundedTable cells k r x →
    IsBoundedTable cells (k + 2 ^ 13) (r + 1) (into_after_of x)
into_after-bounded cells k r x few near h =
    bounded_more (omega arith) (omega arith)
    (bounded-table cells x.cells (k + 3 * cells + 3) (r * 2 ^ 31 + cells + 1) (r + 1) (into_after_entry x.cells (entry x)) h.each few (omega arith)
    (omega arith)
    (λ a b le less. subst (λ (n : ℕ). IsWithin (into_after_entry n (entry x) a b) (k + 3 * cells + 3) (r * 2 ^ 31 + cells + 1)) (sym h.each)
    (into_after-within (entry x) k (r * 2 ^ 31) cells a b (within cells k r x h) le less)))

-- of a Before group's Phase, whose entries are among those of the group's context
pub into_before-bounded : (cells k r : ℕ) (x : Table) → cells ≤ 512 → r ≤ 2 ^ 20 → IsBoundedTable cells k r x → IsBoundedTable cells k r (into_before_of x)
into_before-bounded cells k r x few near h =
    bounded-table cells x.cells k (r * 2 ^ 31) r (into_before_entry (entry x)) h.each few near (omega arith) (λ a b le less. within cells k r x h a a)

-- of what precedes an item
pub back-bounded : (cells k r k' r' : ℕ) (v t : Table) → cells ≤ 512 → r + r' < 2 ^ 20 → IsBoundedTable cells k r v → IsBoundedTable cells k' r' t →
    IsBoundedTable cells (k + k' + 2 ^ 13) (r + r' + 1) (back_of v t)
back-bounded cells k r k' r' v t few near h h' =
    bounded_more (omega arith) (omega arith)
    (bounded-table cells v.cells (k + k' + 3 + 3 * cells) (r * 2 ^ 31 + r' * 2 ^ 31 + 63 + cells) (r + r' + 1)
    (back_entry v.cells (entry v) (entry t)) h.each few (omega arith) (omega arith)
    (λ a b le less. subst (λ (n : ℕ). IsWithin (back_entry n (entry v) (entry t) a b) (k + k' + 3 + 3 * cells)
    (r * 2 ^ 31 + r' * 2 ^ 31 + 63 + cells)) (sym h.each)
    (back-within (entry v) (entry t) k (r * 2 ^ 31) k' (r' * 2 ^ 31) cells a b (within cells k r v h) (within cells k' r' t h'))))

-- of what precedes an event
pub back_row-bounded : (cells k r k' r' : ℕ) (v : Table) (row : List Enclosure) → cells ≤ 512 → r + r' < 2 ^ 20 → IsBoundedTable cells k r v →
    IsBoundedRow cells k' r' row →
    IsBoundedTable cells (k + k' + 2 ^ 13) (r + r' + 1) (back_row_of v row)
back_row-bounded cells k r k' r' v row few near h h' =
    bounded_more (omega arith) (omega arith)
    (bounded-table cells v.cells (k + k' + 3 + 3 * cells) (r * 2 ^ 31 + r' * 2 ^ 31 + 63 + cells) (r + r' + 1)
    (back_row_entry v.cells (entry v) (row_entry row)) h.each few (omega arith) (omega arith)
    (λ a b le less. subst (λ (n : ℕ). IsWithin (back_row_entry n (entry v) (row_entry row) a b) (k + k' + 3 + 3 * cells)
    (r * 2 ^ 31 + r' * 2 ^ 31 + 63 + cells)) (sym h.each)
    (back_row-within (entry v) (row_entry row) k (r * 2 ^ 31) k' (r' * 2 ^ 31) cells a b (within cells k r v h) (within_row cells k' r' row h'))))

-- of an item of a Sequence
pub into_sequence-bounded : (cells k r k' r' : ℕ) (p v : Table) → cells ≤ 512 → r + r' < 2 ^ 20 → IsBoundedTable cells k r p → IsBoundedTable cells k' r' v →
    IsBoundedTable cells (k + k' + 2 ^ 13) (r + r' + 1) (into_sequence_of p v)
into_sequence-bounded cells k r k' r' p v few near h h' =
    bounded_more (omega arith) (omega arith)
    (bounded-table cells p.cells (k + k' + 3 + 3 * cells) (r * 2 ^ 31 + r' * 2 ^ 31 + 63 + cells) (r + r' + 1)
    (into_sequence_entry (entry p) (entry v)) h.each few (omega arith) (omega arith)
    (λ a b le less. into_sequence-within (entry p) (entry v) k (r * 2 ^ 31) k' (r' * 2 ^ 31) cells a b (within cells k r p h)
    (within cells k' r' v h') (omega arith)))

-- of what stands between two Boundaries
pub into_span-bounded : (cells k r opened : ℕ) (x : Table) → cells ≤ 512 → r < 2 ^ 20 → opened ≤ 100 → IsBoundedTable cells k r x →
    IsBoundedTable cells (k + 2 ^ 13) (r + 1) (into_span_of x opened)
into_span-bounded cells k r opened x few near small h =
    bounded_more (omega arith) (omega arith)
    (bounded-table cells x.cells (k + 6 * opened + 3 + 3 * cells) (r * 2 ^ 31 + (66 + 258 * opened) + 63 + cells) (r + 1)
    (into_span_entry x.cells (entry x) opened) h.each few (omega arith) (omega arith)
    (λ a b le less. subst (λ (n : ℕ). IsWithin (into_span_entry n (entry x) opened a b) (k + 6 * opened + 3 + 3 * cells)
    (r * 2 ^ 31 + (66 + 258 * opened) + 63 + cells)) (sym h.each)
    (into_span-within (entry x) k (r * 2 ^ 31) opened cells a b (within cells k r x h) (omega arith) le less)))

-- the entries of a leaf by itself
pub at_leaf-near : (cells k r k' r' c : ℕ) (x : Table) (row : List Enclosure) → cells ≤ 512 → c < cells → IsBoundedTable cells k r x →
    IsBoundedRow cells k' r' row →
    IsWithin (times (at_leaf_entry (entry x) c) (row_entry row c)) (k + k' + 2 ^ 13) ((r + r' + 1) * 2 ^ 31)
at_leaf-near cells k r k' r' c x row few less h h' =
    within_more (times (at_leaf_entry (entry x) c) (row_entry row c)) (k + 3 * cells + k' + 3) (r * 2 ^ 31 + cells + r' * 2 ^ 31 + 63)
    (k + k' + 2 ^ 13) ((r + r' + 1) * 2 ^ 31) (omega arith) (omega arith)
    (times-within (at_leaf_entry (entry x) c) (row_entry row c) (k + 3 * cells) (r * 2 ^ 31 + cells) k' (r' * 2 ^ 31)
    (at_leaf-within (entry x) k (r * 2 ^ 31) cells c (within cells k r x h) less) (within_row cells k' r' row h' c))

-- those of an item by itself
pub at_member-near : (cells k r k' r' k'' r'' c : ℕ) (p v : Table) (row : List Enclosure) → cells ≤ 512 → c < cells → IsBoundedTable cells k r p →
    IsBoundedTable cells k' r' v → IsBoundedRow cells k'' r'' row →
    IsWithin (times (at_member_entry (entry p) (entry v) c) (row_entry row c)) (k + k' + k'' + 2 ^ 13) ((r + r' + r'' + 1) * 2 ^ 31)
at_member-near cells k r k' r' k'' r'' c p v row few less h h' h'' =
    within_more (times (at_member_entry (entry p) (entry v) c) (row_entry row c)) (k + k' + 6 * cells + 3 + k'' + 3)
    (r * 2 ^ 31 + r' * 2 ^ 31 + 2 * cells + 63 + r'' * 2 ^ 31 + 63)
    (k + k' + k'' + 2 ^ 13) ((r + r' + r'' + 1) * 2 ^ 31) (omega arith) (omega arith)
    (times-within (at_member_entry (entry p) (entry v) c) (row_entry row c) (k + k' + 6 * cells + 3) (r * 2 ^ 31 + r' * 2 ^ 31 + 2 * cells + 63) k''
    (r'' * 2 ^ 31)
    (at_member-within (entry p) (entry v) k (r * 2 ^ 31) k' (r' * 2 ^ 31) cells c (within cells k r p h) (within cells k' r' v h') less)
    (within_row cells k'' r'' row h'' c))

-- those of the Boundary that closes an item
pub at_end-near : (cells k r k' r' c : ℕ) (x t : Table) → cells ≤ 512 → c < cells → IsBoundedTable cells k r x → IsBoundedTable cells k' r' t →
    IsWithin (at_end_entry (entry x) (entry t) c) (k + k' + 2 ^ 13) ((r + r' + 1) * 2 ^ 31)
at_end-near cells k r k' r' c x t few less h h' =
    within_more (at_end_entry (entry x) (entry t) c) (k + k' + 3 + 3 * cells) (r * 2 ^ 31 + r' * 2 ^ 31 + 63 + cells) (k + k' + 2 ^ 13)
    ((r + r' + 1) * 2 ^ 31) (omega arith) (omega arith)
    (at_end-within (entry x) (entry t) k (r * 2 ^ 31) k' (r' * 2 ^ 31) cells c (within cells k r x h) (within cells k' r' t h') less)
