use Rattle.std.proofs.Common.{◌≡◌, ◌+◌, ◌*◌, ◌^◌, ◌≤◌, arith}
use Rattle.std.proofs.lemmas.Result.{IfOk-weaker}
use Rattle.cg_path.specs.Contexts as exact
use Rattle.cg_table.specs.Table.{EnclosesTable, entry, table_loss, table_reach}
use Rattle.cg_table.proofs.TableLemmas.{table-loss, table-reach, table-encloses, most}
use Rattle.cg_context.specs.Formulas.{back_entry, back_of}
use Rattle.cg_context.proofs.BackLemmas.{back-fits}
use Rattle.cg_context.proofs.CallLemmas.{back-encloses}
use Rattle.cg_context.proofs.TermLemmas.{entries-within}
use Rattle.cg_wide.proofs.items.back_wide.Goals as goal

pub returns-clause-encloses : goal.returns-clause-encloses
returns-clause-encloses g c x y d e some some' h h' =
    let v = c.args.v.now in
    let t = c.args.t.now in
    let both = c.filled_back.ensures.operands in
    IfOk-weaker _ (λ r. r ≡ back_of v t) (λ r. EnclosesTable r (exact.back v.cells x y) (d * e))
    (λ r is. table-encloses r v.cells (back_entry v.cells (entry v) (entry t)) (exact.back v.cells x y) (d * e)
    (λ a b le less. back-encloses (entry v) (entry t) x y d e (table_loss v) (table_reach v * 2 ^ 31) (table_loss t) (table_reach t * 2 ^ 31) v.cells a b some some' (entries-within v both.0) (entries-within t both.1)
    h.at (λ a b le short. h'.at a b le (omega (arith, c.requires.cells, short))) le less) is)
    c.filled_back.ensures.value

pub returns-clause-loss : goal.returns-clause-loss
returns-clause-loss g c few =
    let v = c.args.v.now in
    let t = c.args.t.now in
    let both = c.filled_back.ensures.operands in
    IfOk-weaker _ (λ r. r ≡ back_of v t) (λ r. table_loss r ≤ table_loss v + table_loss t + 2 ^ 13)
    (λ r is. most (table-loss r v.cells (back_entry v.cells (entry v) (entry t)) (table_loss v + table_loss t + 3 + 3 * v.cells) (table_reach v * 2 ^ 31 + table_reach t * 2 ^ 31 + 63 + v.cells)
    (back-fits v t both.0 both.1) is) (omega arith))
    c.filled_back.ensures.value

pub returns-clause-reach : goal.returns-clause-reach
returns-clause-reach g c few =
    let v = c.args.v.now in
    let t = c.args.t.now in
    let both = c.filled_back.ensures.operands in
    IfOk-weaker _ (λ r. r ≡ back_of v t) (λ r. table_reach r ≤ table_reach v + table_reach t + 1)
    (λ r is. table-reach r v.cells (back_entry v.cells (entry v) (entry t)) (table_loss v + table_loss t + 3 + 3 * v.cells) (table_reach v * 2 ^ 31 + table_reach t * 2 ^ 31 + 63 + v.cells)
    (table_reach v + table_reach t + 1) (back-fits v t both.0 both.1) (omega arith) is)
    c.filled_back.ensures.value
