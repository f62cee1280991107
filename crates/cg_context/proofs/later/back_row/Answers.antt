use Rattle.std.proofs.Common.{◌≡◌, ◌+◌, ◌*◌, ◌^◌, ◌≤◌, arith}
use Rattle.std.proofs.lemmas.Result.{IfOk-weaker}
use Rattle.cg_path.specs.Contexts as exact
use Rattle.cg_table.specs.Live.{live_rows}
use Rattle.cg_table.specs.Losses.{greatest_loss, greatest_reach}
use Rattle.cg_table.specs.Table.{EnclosesTable, entry, row_entry, table_loss, table_reach}
use Rattle.cg_table.proofs.LiveLemmas.{live_rows-most}
use Rattle.cg_table.proofs.TableLemmas.{table-loss, table-reach, table-encloses, most}
use Rattle.cg_table.proofs.WithinLemmas.{row_entry-within}
use Rattle.cg_context.specs.Formulas.{back_row_entry, back_row_of}
use Rattle.cg_context.proofs.CallLemmas.{back_row-encloses}
use Rattle.cg_context.proofs.LaterLemmas.{back_row-fits}
use Rattle.cg_context.proofs.TermLemmas.{entries-within, few_ticks}
use Rattle.cg_context.proofs.later.back_row.Goals as goal

pub returns-clause-encloses : goal.returns-clause-encloses
returns-clause-encloses g c x y d e some some' h h' =
    let v = c.args.v.now in
    let w = c.args.w.now in
    let both = c.filled_back_row.ensures.operands in
    IfOk-weaker _ (λ r. r ≡ back_row_of v w) (λ r. EnclosesTable r (exact.back_row v.cells x y) (d * e))
    (λ r is. table-encloses r v.cells (back_row_entry v.cells (entry v) (row_entry w)) (exact.back_row v.cells x y) (d * e)
    (λ a b le less. back_row-encloses (entry v) (row_entry w) x y d e (table_loss v) (table_reach v * 2 ^ 31) (greatest_loss w) (greatest_reach w * 2 ^ 31) v.cells a b some some' (entries-within v both.0)
    (λ b. row_entry-within w b both.1) h.at (λ j short. h'.at j (omega (arith, c.requires.cells, short))) le less) is)
    c.filled_back_row.ensures.value

pub returns-clause-loss : goal.returns-clause-loss
returns-clause-loss g c few =
    let v = c.args.v.now in
    let w = c.args.w.now in
    let both = c.filled_back_row.ensures.operands in
    IfOk-weaker _ (λ r. r ≡ back_row_of v w) (λ r. table_loss r ≤ table_loss v + greatest_loss w + 2 ^ 13)
    (λ r is. most (table-loss r v.cells (back_row_entry v.cells (entry v) (row_entry w)) (table_loss v + greatest_loss w + 3 + 3 * v.cells) (table_reach v * 2 ^ 31 + greatest_reach w * 2 ^ 31 + 63 + v.cells)
    (back_row-fits v w both.0 both.1) is) (omega arith))
    c.filled_back_row.ensures.value

pub returns-clause-reach : goal.returns-clause-reach
returns-clause-reach g c few =
    let v = c.args.v.now in
    let w = c.args.w.now in
    let both = c.filled_back_row.ensures.operands in
    IfOk-weaker _ (λ r. r ≡ back_row_of v w) (λ r. table_reach r ≤ table_reach v + greatest_reach w + 1)
    (λ r is. table-reach r v.cells (back_row_entry v.cells (entry v) (row_entry w)) (table_loss v + greatest_loss w + 3 + 3 * v.cells) (table_reach v * 2 ^ 31 + greatest_reach w * 2 ^ 31 + 63 + v.cells)
    (table_reach v + greatest_reach w + 1) (back_row-fits v w both.0 both.1) (omega arith) is)
    c.filled_back_row.ensures.value

pub returns-clause-at_most : goal.returns-clause-at_most
returns-clause-at_most g c = few_ticks c.args.v.now.cells (live_rows c.args.v.now) _ _ (live_rows-most c.args.v.now) c.filled_back_row.ensures.few
