use Rattle.std.proofs.Common.{◌≡◌, ◌+◌, ◌*◌, ◌^◌, ◌≤◌, min, arith}
use Rattle.std.proofs.lemmas.Result.{IfOk-weaker}
use Rattle.cg_path.specs.Contexts as exact
use Rattle.cg_table.specs.Live.{live_rows}
use Rattle.cg_table.specs.Losses.{greatest_loss, greatest_reach}
use Rattle.cg_table.specs.Table.{Table, IsTable, EnclosesRow, entry, table_loss, table_reach}
use Rattle.cg_table.proofs.LiveLemmas.{live_rows-most}
use Rattle.cg_context.specs.Formulas.{at_member_entry, row_by}
use Rattle.cg_context.proofs.CallLemmas.{at_member-within, at_member-encloses}
use Rattle.cg_context.proofs.RowLemmas.{CellsWithin, row-loss, row-reach, row-encloses}
use Rattle.cg_context.proofs.TermLemmas.{entries-within, few_ticks}
use Rattle.cg_context.proofs.member.at_member.Goals as goal

-- what each entry is within
within : (p v : Table) → IsTable p → IsTable v →
    CellsWithin p.cells (at_member_entry (entry p) (entry v)) (table_loss p + table_loss v + 6 * p.cells + 3) (table_reach p * 2 ^ 31 + table_reach v * 2 ^ 31 + 2 * p.cells + 63)
within p v h h' y less =
    at_member-within (entry p) (entry v) (table_loss p) (table_reach p * 2 ^ 31) (table_loss v) (table_reach v * 2 ^ 31) p.cells y (entries-within p h) (entries-within v h') less

pub returns-clause-encloses : goal.returns-clause-encloses
returns-clause-encloses g c y z d e some some' h h' =
    let p = c.args.p.now in
    let v = c.args.v.now in
    let both = c.filled_member.ensures.operands in
    IfOk-weaker _ (λ r. r ≡ row_by p.cells (at_member_entry (entry p) (entry v))) (λ r. EnclosesRow r (exact.at_member y z) (d * e))
    (λ r is. row-encloses r p.cells (at_member_entry (entry p) (entry v)) (exact.at_member y z) (d * e)
    (λ b less. at_member-encloses (entry p) (entry v) y z d e (table_loss p) (table_reach p * 2 ^ 31) (table_loss v) (table_reach v * 2 ^ 31) p.cells b some some' (entries-within p both.0) (entries-within v both.1) h.at
    (λ a b le less. h'.at a b le (omega (arith, c.requires.cells, less))) less) is)
    c.filled_member.ensures.value

pub returns-clause-loss : goal.returns-clause-loss
returns-clause-loss g c few =
    let p = c.args.p.now in
    let v = c.args.v.now in
    let both = c.filled_member.ensures.operands in
    IfOk-weaker _ (λ r. r ≡ row_by p.cells (at_member_entry (entry p) (entry v))) (λ r. greatest_loss r ≤ table_loss p + table_loss v + 2 ^ 13)
    (λ r is. row-loss r p.cells (at_member_entry (entry p) (entry v)) (table_loss p + table_loss v + 6 * p.cells + 3) (table_reach p * 2 ^ 31 + table_reach v * 2 ^ 31 + 2 * p.cells + 63) (table_loss p + table_loss v + 2 ^ 13)
    (within p v both.0 both.1) (omega arith) is)
    c.filled_member.ensures.value

pub returns-clause-reach : goal.returns-clause-reach
returns-clause-reach g c few =
    let p = c.args.p.now in
    let v = c.args.v.now in
    let both = c.filled_member.ensures.operands in
    IfOk-weaker _ (λ r. r ≡ row_by p.cells (at_member_entry (entry p) (entry v))) (λ r. greatest_reach r ≤ table_reach p + table_reach v + 1)
    (λ r is. row-reach r p.cells (at_member_entry (entry p) (entry v)) (table_loss p + table_loss v + 6 * p.cells + 3) (table_reach p * 2 ^ 31 + table_reach v * 2 ^ 31 + 2 * p.cells + 63) (table_reach p + table_reach v + 1)
    (within p v both.0 both.1) (omega arith) is)
    c.filled_member.ensures.value

pub returns-clause-at_most : goal.returns-clause-at_most
returns-clause-at_most g c = few_ticks c.args.p.now.cells (min (live_rows c.args.p.now) (live_rows c.args.v.now)) _ _ (omega (arith, live_rows-most c.args.p.now)) c.filled_member.ensures.few
