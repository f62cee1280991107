use Rattle.std.proofs.Common.{◌≡◌, ◌+◌, ◌*◌, ◌^◌, ◌≤◌, arith}
use Rattle.std.proofs.lemmas.Result.{IfOk-weaker}
use Rattle.cg_path.specs.Contexts as exact
use Rattle.cg_table.specs.Losses.{greatest_loss, greatest_reach}
use Rattle.cg_table.specs.Table.{Table, IsTable, EnclosesRow, entry, table_loss, table_reach}
use Rattle.cg_context.specs.Formulas.{at_leaf_entry, row_by}
use Rattle.cg_context.proofs.CallLemmas.{at_leaf-within, at_leaf-encloses}
use Rattle.cg_context.proofs.RowLemmas.{CellsWithin, row-loss, row-reach, row-encloses}
use Rattle.cg_context.proofs.TermLemmas.{entries-within}
use Rattle.cg_context.proofs.leaf.at_leaf.Goals as goal

within : (x : Table) → IsTable x → CellsWithin x.cells (at_leaf_entry (entry x)) (table_loss x + 3 * x.cells) (table_reach x * 2 ^ 31 + x.cells)
within x v y less = at_leaf-within (entry x) (table_loss x) (table_reach x * 2 ^ 31) x.cells y (entries-within x v) less

pub returns-clause-encloses : goal.returns-clause-encloses
returns-clause-encloses c y d some h =
    let x = c.args.x.now in
    IfOk-weaker _ (λ r. r ≡ row_by x.cells (at_leaf_entry (entry x))) (λ r. EnclosesRow r (exact.at_leaf y) d)
    (λ r is. row-encloses r x.cells (at_leaf_entry (entry x)) (exact.at_leaf y) d
    (λ b less. at_leaf-encloses (entry x) y d (table_loss x) (table_reach x * 2 ^ 31) x.cells b some (entries-within x c.filled_leaf.ensures.operand) h.at less) is)
    c.filled_leaf.ensures.value

pub returns-clause-loss : goal.returns-clause-loss
returns-clause-loss c few =
    let x = c.args.x.now in
    IfOk-weaker _ (λ r. r ≡ row_by x.cells (at_leaf_entry (entry x))) (λ r. greatest_loss r ≤ table_loss x + 2 ^ 13)
    (λ r is. row-loss r x.cells (at_leaf_entry (entry x)) (table_loss x + 3 * x.cells) (table_reach x * 2 ^ 31 + x.cells) (table_loss x + 2 ^ 13) (within x c.filled_leaf.ensures.operand) (omega arith) is)
    c.filled_leaf.ensures.value

pub returns-clause-reach : goal.returns-clause-reach
returns-clause-reach c few =
    let x = c.args.x.now in
    IfOk-weaker _ (λ r. r ≡ row_by x.cells (at_leaf_entry (entry x))) (λ r. greatest_reach r ≤ table_reach x + 1)
    (λ r is. row-reach r x.cells (at_leaf_entry (entry x)) (table_loss x + 3 * x.cells) (table_reach x * 2 ^ 31 + x.cells) (table_reach x + 1) (within x c.filled_leaf.ensures.operand) (omega arith) is)
    c.filled_leaf.ensures.value
