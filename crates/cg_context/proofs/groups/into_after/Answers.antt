use Rattle.std.proofs.Common.{◌≡◌, ◌+◌, ◌*◌, ◌^◌, ◌≤◌, arith}
use Rattle.std.proofs.lemmas.Result.{IfOk-weaker}
use Rattle.cg_path.specs.Contexts as exact
use Rattle.cg_table.specs.Table.{EnclosesTable, entry, table_loss, table_reach}
use Rattle.cg_table.proofs.TableLemmas.{table-loss, table-reach, table-encloses, most}
use Rattle.cg_context.specs.Formulas.{into_after_entry, into_after_of}
use Rattle.cg_context.proofs.CallLemmas.{into_after-encloses}
use Rattle.cg_context.proofs.GroupLemmas.{into_after-fits}
use Rattle.cg_context.proofs.TermLemmas.{entries-within}
use Rattle.cg_context.proofs.groups.into_after.Goals as goal

pub returns-clause-encloses : goal.returns-clause-encloses
returns-clause-encloses c y d some h =
    let x = c.args.x.now in
    IfOk-weaker _ (λ r. r ≡ into_after_of x) (λ r. EnclosesTable r (exact.into_after x.cells y) d)
    (λ r is. table-encloses r x.cells (into_after_entry x.cells (entry x)) (exact.into_after x.cells y) d
    (λ a b le less. into_after-encloses (entry x) y d (table_loss x) (table_reach x * 2 ^ 31) x.cells a b some (entries-within x c.filled_after.ensures.operand) h.at le less) is)
    c.filled_after.ensures.value

pub returns-clause-loss : goal.returns-clause-loss
returns-clause-loss c few =
    let x = c.args.x.now in
    IfOk-weaker _ (λ r. r ≡ into_after_of x) (λ r. table_loss r ≤ table_loss x + 2 ^ 13)
    (λ r is. most (table-loss r x.cells (into_after_entry x.cells (entry x)) (table_loss x + 3 * x.cells + 3) (table_reach x * 2 ^ 31 + x.cells + 1) (into_after-fits x c.filled_after.ensures.operand) is) (omega arith))
    c.filled_after.ensures.value

pub returns-clause-reach : goal.returns-clause-reach
returns-clause-reach c few =
    let x = c.args.x.now in
    IfOk-weaker _ (λ r. r ≡ into_after_of x) (λ r. table_reach r ≤ table_reach x + 1)
    (λ r is. table-reach r x.cells (into_after_entry x.cells (entry x)) (table_loss x + 3 * x.cells + 3) (table_reach x * 2 ^ 31 + x.cells + 1) (table_reach x + 1) (into_after-fits x c.filled_after.ensures.operand) (omega arith) is)
    c.filled_after.ensures.value
