use Rattle.std.proofs.Common.{◌≡◌, ◌*◌, ◌^◌, ◌≤◌, arith}
use Rattle.std.proofs.lemmas.Result.{IfOk-weaker}
use Rattle.cg_path.specs.Contexts as exact
use Rattle.cg_table.specs.Table.{EnclosesTable, entry, table_loss, table_reach}
use Rattle.cg_table.proofs.TableLemmas.{table-loss, table-reach, table-encloses}
use Rattle.cg_context.specs.Formulas.{into_before_entry, into_before_of}
use Rattle.cg_context.proofs.GroupLemmas.{into_before-fits}
use Rattle.cg_context.proofs.groups.into_before.Goals as goal

pub returns-clause-encloses : goal.returns-clause-encloses
returns-clause-encloses c y d h =
    let x = c.args.x.now in
    IfOk-weaker _ (λ r. r ≡ into_before_of x) (λ r. EnclosesTable r (exact.into_before y) d)
    (λ r is. table-encloses r x.cells (into_before_entry (entry x)) (exact.into_before y) d (λ a b le less. h.at a a (omega arith) (omega (arith, le, less))) is)
    c.filled_before.ensures.value

pub returns-clause-loss : goal.returns-clause-loss
returns-clause-loss c =
    let x = c.args.x.now in
    IfOk-weaker _ (λ r. r ≡ into_before_of x) (λ r. table_loss r ≤ table_loss x)
    (λ r is. table-loss r x.cells (into_before_entry (entry x)) (table_loss x) (table_reach x * 2 ^ 31) (into_before-fits x c.filled_before.ensures.operand) is)
    c.filled_before.ensures.value

pub returns-clause-reach : goal.returns-clause-reach
returns-clause-reach c =
    let x = c.args.x.now in
    IfOk-weaker _ (λ r. r ≡ into_before_of x) (λ r. table_reach r ≤ table_reach x)
    (λ r is. table-reach r x.cells (into_before_entry (entry x)) (table_loss x) (table_reach x * 2 ^ 31) (table_reach x) (into_before-fits x c.filled_before.ensures.operand) (omega arith) is)
    c.filled_before.ensures.value
