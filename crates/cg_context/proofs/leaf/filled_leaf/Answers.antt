use Rattle.std.proofs.Common.{◌≡◌, ℕ, ◌+◌, ◌*◌, ◌^◌, ◌∙◌, List, arith}
use Rattle.std.proofs.lemmas.Result.{IfOk-weaker}
use Rattle.cg_enc.specs.Enclosure.{Enclosure}
use Rattle.cg_table.specs.Table.{Table, IsTable, entry, table_loss, table_reach}
use Rattle.cg_table.proofs.WithinLemmas.{entry-within}
use Rattle.cg_context.specs.Columns.{AreColumns}
use Rattle.cg_context.specs.Formulas.{at_leaf_entry, row_by}
use Rattle.cg_context.proofs.CallLemmas.{at_leaf-within}
use Rattle.cg_context.proofs.ColumnLemmas.{columns-all}
use Rattle.cg_context.proofs.RowLemmas.{row-near}
use Rattle.cg_context.proofs.TermLemmas.{AreDead, entries-within}
use Rattle.cg_context.proofs.leaf.filled_leaf.Goals as goal

-- the sums over the live rows are the coefficients
whole : (x : Table) (live : ℕ) (sums : List Enclosure) → IsTable x → AreDead x live →
    AreColumns (entry x) x.cells 1 live sums → sums ≡ row_by x.cells (at_leaf_entry (entry x))
whole x live sums v dead h =
    columns-all (entry x) x.cells 1 (table_loss x) (table_reach x * 2 ^ 31) live sums (λ a i counts less. entry-within x a i v) (omega arith)
    (λ a i low counts less. dead a i low (omega arith) less) h

pub row_of-requires : goal.row_of-requires
row_of-requires c =
    let x = c.args.x.now in
    let v = c.cells.ensures.table in
    row-near c.loop-a.sums.items x.cells (at_leaf_entry (entry x)) (table_loss x + 3 * x.cells) (table_reach x * 2 ^ 31 + x.cells)
    (λ y less. at_leaf-within (entry x) (table_loss x) (table_reach x * 2 ^ 31) x.cells y (entries-within x v) less) (omega (arith, v.few, c.requires))
    (whole x c.loop-a.a c.loop-a.sums.items v (λ a b low le less. c.live-a-end.ensures.dead a b (omega arith) le less) c.loop-a.invariant)

pub returns-clause-value : goal.returns-clause-value
returns-clause-value c =
    let x = c.args.x.now in
    IfOk-weaker _ (λ r. r ≡ c.loop-a.sums.items) (λ r. r ≡ row_by x.cells (at_leaf_entry (entry x)))
    (λ r is. is ∙ whole x c.loop-a.a c.loop-a.sums.items c.cells.ensures.table (λ a b low le less. c.live-a-end.ensures.dead a b (omega arith) le less) c.loop-a.invariant)
    c.row_of.ensures
