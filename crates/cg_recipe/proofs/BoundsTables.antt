-- What each call on tables adds to loss and reach, on grids of 1 to 512 cells.
use Rattle.std.proofs.Common.{◌≡◌, ℕ, ◌+◌, ◌*◌, ◌^◌, ◌<◌, ◌≤◌, List, length, arith, refl, subst, sym}
use Rattle.cg_enc.specs.Enclosure.{Enclosure, IsEnclosure}
use Rattle.cg_table.specs.Losses.{greatest_loss, greatest_reach}
use Rattle.cg_table.specs.Row.{AreEntries}
use Rattle.cg_table.specs.Table.{Table, table, rows, entry, row_entry, table_loss, table_reach}
use Rattle.cg_table.specs.Formulas.{identity_entry, identity_of, row_table, then_row_entry, then_row_of, then_entry, then_of, beside_entry, beside_of, after_entry, after_of, before_entry, before_of, spanned_entry, spanned_of}
use Rattle.cg_table.proofs.FormulaLemmas.{identity-within, then_row-within, then-within, beside-within, after-within, before-within, spanned-within}
use Rattle.cg_table.proofs.PlaceLemmas.{length-rows}
use Rattle.cg_table.proofs.TableLemmas.{AreWithin, All-rows, rows-near, table-loss, table-reach}
use Rattle.cg_table.proofs.WithinLemmas.{IsWithin, within_more, entry-within, row_entry-within}
use Rattle.cg_recipe.specs.Bounds.{IsBoundedTable}

-- a table by a formula whose entries lose and reach no more
pub bounded-table : (cells n k m r : ℕ) (f : ℕ → ℕ → Enclosure) → n ≡ cells → cells ≤ 512 → r ≤ 2 ^ 20 → m ≤ r * 2 ^ 31 → AreWithin cells f k m →
    IsBoundedTable cells k r (table n f)
bounded-table cells n k m r f is few near small h =
    subst (λ (c : ℕ). IsBoundedTable cells k r (table c f)) (sym is)
    (record {
      table = record {
        all_there = length-rows cells f cells;
        entries = record {
          valid = All-rows IsEnclosure cells f cells (λ a b le less. (h a b le less).valid);
          near = rows-near cells f k m cells (rows cells f cells) h (omega arith) refl;
        };
        few = omega arith;
      };
      each = refl;
      lost = table-loss (table cells f) cells f k m h refl;
      reached = table-reach (table cells f) cells f k m r h small refl;
    })

-- greater bounds hold too
pub bounded_more : {cells k r k' r' : ℕ} {t : Table} → k ≤ k' → r ≤ r' → IsBoundedTable cells k r t → IsBoundedTable cells k' r' t
bounded_more le le' h = record { table = h.table; each = h.each; lost = omega (arith, h.lost, le); reached = omega (arith, h.reached, le') }

-- each entry
pub within : (cells k r : ℕ) (t : Table) → IsBoundedTable cells k r t → (a b : ℕ) → IsWithin (entry t a b) k (r * 2 ^ 31)
within cells k r t h a b = within_more (entry t a b) (table_loss t) (table_reach t * 2 ^ 31) k (r * 2 ^ 31) h.lost (omega (arith, h.reached))
    (entry-within t a b h.table)

-- nothing
pub identity-bounded : (cells : ℕ) → cells ≤ 512 → IsBoundedTable cells 0 1 (identity_of cells)
identity-bounded cells few = bounded-table cells cells 0 66 1 identity_entry refl few (omega arith) (omega arith) (λ a b le less. identity-within a b)

-- A row for this many cells with these bounds of its loss and its reach.
pub record IsBoundedRow (cells k r : ℕ) (row : List Enclosure) : Type 0 where
  pub each : length row ≡ cells
  pub entries : AreEntries row
  pub lost : greatest_loss row ≤ k
  pub reached : greatest_reach row ≤ r

-- and each of a row
pub within_row : (cells k r : ℕ) (row : List Enclosure) → IsBoundedRow cells k r row → (b : ℕ) → IsWithin (row_entry row b) k (r * 2 ^ 31)
within_row cells k r row h b = within_more (row_entry row b) (greatest_loss row) (greatest_reach row * 2 ^ 31) k (r * 2 ^ 31) h.lost
    (omega (arith, h.reached)) (row_entry-within row b h.entries)

-- an event by itself
pub row_table-bounded : (cells k r : ℕ) (row : List Enclosure) → cells ≤ 512 → r ≤ 2 ^ 20 → IsBoundedRow cells k r row →
    IsBoundedTable cells k r (row_table row)
row_table-bounded cells k r row few near h = bounded-table cells (length row) k (r * 2 ^ 31) r (λ a b. row_entry row b) h.each few near (omega arith)
    (λ a b le less. within_row cells k r row h b)

-- an event after a table
pub then_row-bounded : (cells k r k' r' : ℕ) (t : Table) (row : List Enclosure) → cells ≤ 512 → r + r' < 2 ^ 20 → IsBoundedTable cells k r t →
    IsBoundedRow cells k' r' row → IsBoundedTable cells (k + k' + 2 ^ 13) (r + r' + 1) (then_row_of t row)
then_row-bounded cells k r k' r' t row few near h h' =
    bounded_more (omega arith) (omega arith)
    (bounded-table cells t.cells (k + k' + 3 * cells + 3) (r * 2 ^ 31 + r' * 2 ^ 31 + cells + 63) (r + r' + 1)
    (then_row_entry (entry t) (row_entry row)) h.each few (omega arith) (omega arith)
    (λ a b le less. then_row-within (entry t) (row_entry row) k (r * 2 ^ 31) k' (r' * 2 ^ 31) cells a b (within cells k r t h)
    (within_row cells k' r' row h') le less))

-- a table after another
pub then-bounded : (cells k r k' r' : ℕ) (s t : Table) → cells ≤ 512 → r + r' < 2 ^ 20 → IsBoundedTable cells k r s → IsBoundedTable cells k' r' t →
    IsBoundedTable cells (k + k' + 2 ^ 13) (r + r' + 1) (then_of s t)
then-bounded cells k r k' r' s t few near h h' =
    bounded_more (omega arith) (omega arith)
    (bounded-table cells s.cells (k + k' + 3 * cells + 3) (r * 2 ^ 31 + r' * 2 ^ 31 + cells + 63) (r + r' + 1)
    (then_entry (entry s) (entry t)) h.each few (omega arith) (omega arith)
    (λ a b le less. then-within (entry s) (entry t) k (r * 2 ^ 31) k' (r' * 2 ^ 31) cells a b (within cells k r s h) (within cells k' r' t h') le less))

-- a table beside another
pub beside-bounded : (cells k r k' r' : ℕ) (s t : Table) → cells ≤ 512 → r + r' < 2 ^ 20 → IsBoundedTable cells k r s → IsBoundedTable cells k' r' t →
    IsBoundedTable cells (k + k' + 2 ^ 13) (r + r' + 1) (beside_of s t)
beside-bounded cells k r k' r' s t few near h h' =
    bounded_more (omega arith) (omega arith)
    (bounded-table cells s.cells (k + k' + 3 * cells + 6) (r * 2 ^ 31 + r' * 2 ^ 31 + cells + 64) (r + r' + 1)
    (beside_entry (entry s) (entry t)) h.each few (omega arith) (omega arith)
    (λ a b le less. beside-within (entry s) (entry t) k (r * 2 ^ 31) k' (r' * 2 ^ 31) cells a b (within cells k r s h) (within cells k' r' t h') le less))

-- an After group
pub after-bounded : (cells k r : ℕ) (t : Table) → cells ≤ 512 → r < 2 ^ 20 → IsBoundedTable cells k r t → IsBoundedTable cells (k + 2 ^ 13) (r + 1) (after_of t)
after-bounded cells k r t few near h =
    bounded_more (omega arith) (omega arith)
    (bounded-table cells t.cells (k + 3 * cells) (r * 2 ^ 31 + cells) (r + 1) (after_entry (entry t)) h.each few (omega arith) (omega arith)
    (λ a b le less. after-within (entry t) k (r * 2 ^ 31) cells a b (within cells k r t h) le less))

-- a Before group
pub before-bounded : (cells k r : ℕ) (t : Table) → cells ≤ 512 → r < 2 ^ 20 → IsBoundedTable cells k r t →
    IsBoundedTable cells (k + 2 ^ 13) (r + 1) (before_of t)
before-bounded cells k r t few near h =
    bounded_more (omega arith) (omega arith)
    (bounded-table cells t.cells (k + 3 * cells) (r * 2 ^ 31 + cells) (r + 1) (before_entry t.cells (entry t)) h.each few (omega arith) (omega arith)
    (λ a b le less. subst (λ (n : ℕ). IsWithin (before_entry n (entry t) a b) (k + 3 * cells) (r * 2 ^ 31 + cells)) (sym h.each)
    (before-within (entry t) k (r * 2 ^ 31) cells a b (within cells k r t h))))

-- what stands between two Boundaries
pub spanned-bounded : (cells k r opened : ℕ) (t : Table) → cells ≤ 512 → r < 2 ^ 20 → opened ≤ 100 → IsBoundedTable cells k r t →
    IsBoundedTable cells (k + 2 ^ 13) (r + 1) (spanned_of t opened)
spanned-bounded cells k r opened t few near small h =
    bounded_more (omega arith) (omega arith)
    (bounded-table cells t.cells (k + 3 * cells + 6 * opened + 3) (r * 2 ^ 31 + cells + 258 * opened + 129) (r + 1)
    (spanned_entry (entry t) opened) h.each few (omega arith) (omega arith)
    (λ a b le less. spanned-within (entry t) k (r * 2 ^ 31) opened cells a b (within cells k r t h) (omega arith) le less))
