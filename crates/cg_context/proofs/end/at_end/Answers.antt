use Rattle.std.proofs.Common.{◌≡◌, ◌+◌, ◌*◌, ◌^◌, ◌≤◌, min, arith}
use Rattle.std.proofs.lemmas.Result.{IfOk-weaker}
use Rattle.cg_path.specs.Contexts as exact
use Rattle.cg_table.specs.Live.{live_rows}
use Rattle.cg_table.specs.Losses.{greatest_loss, greatest_reach}
use Rattle.cg_table.specs.Table.{Table, IsTable, EnclosesRow, entry, table_loss, table_reach}
use Rattle.cg_table.proofs.LiveLemmas.{live_rows-most}
use Rattle.cg_context.specs.Formulas.{at_end_entry, row_by}
use Rattle.cg_context.proofs.CallLemmas.{at_end-within, at_end-encloses}
use Rattle.cg_context.proofs.RowLemmas.{CellsWithin, row-loss, row-reach, row-encloses}
use Rattle.cg_context.proofs.TermLemmas.{entries-within, few_ticks}
use Rattle.cg_context.proofs.end.at_end.Goals as goal

within : (x k : Table) → IsTable x → IsTable k →
    CellsWithin x.cells (at_end_entry (entry x) (entry k)) (table_loss x + table_loss k + 3 + 3 * x.cells) (table_reach x * 2 ^ 31 + table_reach k * 2 ^ 31 + 63 + x.cells)
within x k v v' y less =
    at_end-within (entry x) (entry k) (table_loss x) (table_reach x * 2 ^ 31) (table_loss k) (table_reach k * 2 ^ 31) x.cells y (entries-within x v) (entries-within k v') less

pub returns-clause-encloses : goal.returns-clause-encloses
returns-clause-encloses g c y z d e some some' h h' =
    let x = c.args.x.now in
    let k = c.args.k.now in
    let both = c.filled_end.ensures.operands in
    IfOk-weaker _ (λ r. r ≡ row_by x.cells (at_end_entry (entry x) (entry k))) (λ r. EnclosesRow r (exact.at_end y z) (d * e))
    (λ r is. row-encloses r x.cells (at_end_entry (entry x) (entry k)) (exact.at_end y z) (d * e)
    (λ b less. at_end-encloses (entry x) (entry k) y z d e (table_loss x) (table_reach x * 2 ^ 31) (table_loss k) (table_reach k * 2 ^ 31) x.cells b some some' (entries-within x both.0) (entries-within k both.1) h.at
    (λ a b le less. h'.at a b le (omega (arith, c.requires.cells, less))) less) is)
    c.filled_end.ensures.value

pub returns-clause-loss : goal.returns-clause-loss
returns-clause-loss g c few =
    let x = c.args.x.now in
    let k = c.args.k.now in
    let both = c.filled_end.ensures.operands in
    IfOk-weaker _ (λ r. r ≡ row_by x.cells (at_end_entry (entry x) (entry k))) (λ r. greatest_loss r ≤ table_loss x + table_loss k + 2 ^ 13)
    (λ r is. row-loss r x.cells (at_end_entry (entry x) (entry k)) (table_loss x + table_loss k + 3 + 3 * x.cells) (table_reach x * 2 ^ 31 + table_reach k * 2 ^ 31 + 63 + x.cells) (table_loss x + table_loss k + 2 ^ 13)
    (within x k both.0 both.1) (omega arith) is)
    c.filled_end.ensures.value

pub returns-clause-reach : goal.returns-clause-reach
returns-clause-reach g c few =
    let x = c.args.x.now in
    let k = c.args.k.now in
    let both = c.filled_end.ensures.operands in
    IfOk-weaker _ (λ r. r ≡ row_by x.cells (at_end_entry (entry x) (entry k))) (λ r. greatest_reach r ≤ table_reach x + table_reach k + 1)
    (λ r is. row-reach r x.cells (at_end_entry (entry x) (entry k)) (table_loss x + table_loss k + 3 + 3 * x.cells) (table_reach x * 2 ^ 31 + table_reach k * 2 ^ 31 + 63 + x.cells) (table_reach x + table_reach k + 1)
    (within x k both.0 both.1) (omega arith) is)
    c.filled_end.ensures.value

pub returns-clause-at_most : goal.returns-clause-at_most
returns-clause-at_most g c = few_ticks c.args.x.now.cells (min (live_rows c.args.x.now) (live_rows c.args.k.now)) _ _ (omega (arith, live_rows-most c.args.x.now)) c.filled_end.ensures.few
