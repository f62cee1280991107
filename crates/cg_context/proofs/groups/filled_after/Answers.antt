use Rattle.std.proofs.Common.{◌≡◌, ℕ, ◌+◌, ◌*◌, ◌^◌, ◌<◌, ◌≤◌, ◌∙◌, List, length, take, drop, ◌++◌, arith, ap, sym}
use Rattle.cg_enc.specs.Enclosure.{Enclosure, exact_zero}
use Rattle.cg_table.specs.Live.{padded}
use Rattle.cg_table.specs.Sums.{sum_of}
use Rattle.cg_table.specs.Table.{table, entry, table_loss, table_reach}
use Rattle.cg_table.proofs.JoinLemmas.{written}
use Rattle.cg_context.specs.Formulas.{into_after_entry, row_by}
use Rattle.cg_context.proofs.GroupLemmas.{into_after-fits, into_after-dead}
use Rattle.cg_context.proofs.RowLemmas.{length-row_by, row-near, oldest-alone, oldest-count}
use Rattle.cg_context.proofs.groups.filled_after.Goals as goal

-- the row that was written back over the sums
whole : (cells len : ℕ) (f g : ℕ → Enclosure) (items new : List Enclosure) → items ≡ row_by cells g → new ≡ row_by cells f → len ≡ length items → take len (new ++ drop (length new) items) ≡ row_by cells f
whole cells len f g items new is made all = written new items len (ap length made ∙ length-row_by cells f ∙ sym (length-row_by cells g) ∙ sym (ap length is)) all ∙ made

-- the table of that row
alone : (cells n : ℕ) (f : ℕ → ℕ → Enclosure) (xs : List Enclosure) → n ≡ cells → xs ≡ row_by cells (f 0) → ((a b : ℕ) → 1 ≤ a → a ≤ b → b < cells → f a b ≡ exact_zero) → padded n xs ≡ table cells f
alone cells n f xs size is dead = ap (λ (m : ℕ). padded m xs) size ∙ oldest-alone cells f xs is dead

pub add_tied-requires-clause-width : goal.add_tied-requires-clause-width
add_tied-requires-clause-width c =
    ap length (c.deref_mut.ensures.value ∙ c.in_ok-row.ensures) ∙ length-row_by c.args.x.now.cells (λ b. sum_of (λ d. entry c.args.x.now d b) 0 b)

pub of_rows-requires-clause-count : goal.of_rows-requires-clause-count
of_rows-requires-clause-count c =
    let x = c.args.x.now in
    oldest-count x.cells (into_after_entry x.cells (entry x)) _
    (whole x.cells c.in_ok-row.row.len (into_after_entry x.cells (entry x) 0) _ c.in_ok-row.row.items c.add_tied.new.sums c.in_ok-row.ensures c.add_tied.ensures (omega arith))
    c.cells-cells.result c.min.result (omega arith) (omega arith)

pub of_rows-requires-clause-near : goal.of_rows-requires-clause-near
of_rows-requires-clause-near c =
    let x = c.args.x.now in
    let v = c.cells-cells.ensures.table in
    row-near _ x.cells (into_after_entry x.cells (entry x) 0) (table_loss x + 3 * x.cells + 3) (table_reach x * 2 ^ 31 + x.cells + 1) (λ b less. into_after-fits x v 0 b (omega arith) less)
    (omega (arith, v.few, c.requires))
    (whole x.cells c.in_ok-row.row.len (into_after_entry x.cells (entry x) 0) _ c.in_ok-row.row.items c.add_tied.new.sums c.in_ok-row.ensures c.add_tied.ensures (omega arith))

pub returns-clause-value : goal.returns-clause-value
returns-clause-value c =
    let x = c.args.x.now in
    c.of_rows.ensures
    ∙ alone x.cells c.cells-cells.result (into_after_entry x.cells (entry x)) _ c.cells-cells.ensures.value
    (whole x.cells c.in_ok-row.row.len (into_after_entry x.cells (entry x) 0) _ c.in_ok-row.row.items c.add_tied.new.sums c.in_ok-row.ensures c.add_tied.ensures (omega arith))
    (into_after-dead x.cells (entry x))
