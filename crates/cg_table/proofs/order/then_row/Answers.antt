use Rattle.std.proofs.Common.{◌≡◌, ◌+◌, ◌*◌, ◌^◌, ◌≤◌, arith}
use Rattle.std.proofs.lemmas.Result.{IfOk-weaker}
use Rattle.cg_table.specs.Exact.{exact_then_row}
use Rattle.cg_table.specs.Formulas.{then_row_entry, then_row_of}
use Rattle.cg_table.specs.Live.{live_rows}
use Rattle.cg_table.specs.Losses.{greatest_loss, greatest_reach}
use Rattle.cg_table.specs.Table.{EnclosesTable, entry, row_entry, table_loss, table_reach}
use Rattle.cg_table.proofs.FormulaLemmas.{then_row-within, then_row-encloses}
use Rattle.cg_table.proofs.LiveLemmas.{live_rows-most}
use Rattle.cg_table.proofs.PlaceLemmas.{start_rises, start_twice}
use Rattle.cg_table.proofs.TableLemmas.{AreWithin, table-loss, table-reach, table-encloses, most}
use Rattle.cg_table.proofs.WithinLemmas.{entry-within, row_entry-within}
use Rattle.cg_table.proofs.order.then_row.Goals as goal
use Rattle.cg_table.proofs.order.then_row.Goals.{After-filled_then_row}
use Rattle.cg_table.proofs.order.then_row.Given.{Over}

pub returns-clause-encloses : goal.returns-clause-encloses
returns-clause-encloses g c x y d e some h h' = IfOk-weaker _ (λ r. r ≡ then_row_of c.args.p.now c.args.w.now) (λ r. EnclosesTable r (exact_then_row x y) (d * e))
    (λ r is. table-encloses r c.args.p.now.cells (then_row_entry (entry c.args.p.now) (row_entry c.args.w.now)) (exact_then_row x y) (d * e)
    (λ a b le less. then_row-encloses (entry c.args.p.now) (row_entry c.args.w.now) x y d e (table_loss c.args.p.now) (table_reach c.args.p.now * 2 ^ 31) (greatest_loss c.args.w.now) (greatest_reach c.args.w.now * 2 ^ 31) c.args.p.now.cells a b some (λ a b. entry-within c.args.p.now a b c.filled_then_row.ensures.operands.0) (λ b. row_entry-within c.args.w.now b c.filled_then_row.ensures.operands.1) h.at (h'.at b (omega (arith, c.requires.cells, less))) le less) is) c.filled_then_row.ensures.value

-- what each entry is within
within : (g : Over) (c : After-filled_then_row g) → AreWithin c.args.p.now.cells (then_row_entry (entry c.args.p.now) (row_entry c.args.w.now)) (table_loss c.args.p.now + greatest_loss c.args.w.now + 3 * c.args.p.now.cells + 3) (table_reach c.args.p.now * 2 ^ 31 + greatest_reach c.args.w.now * 2 ^ 31 + c.args.p.now.cells + 63)
within g c a b le less = then_row-within (entry c.args.p.now) (row_entry c.args.w.now) (table_loss c.args.p.now) (table_reach c.args.p.now * 2 ^ 31) (greatest_loss c.args.w.now) (greatest_reach c.args.w.now * 2 ^ 31) c.args.p.now.cells a b (λ a b. entry-within c.args.p.now a b c.filled_then_row.ensures.operands.0) (λ b. row_entry-within c.args.w.now b c.filled_then_row.ensures.operands.1) le less

pub returns-clause-loss : goal.returns-clause-loss
returns-clause-loss g c few = IfOk-weaker _ (λ r. r ≡ then_row_of c.args.p.now c.args.w.now) (λ r. table_loss r ≤ table_loss c.args.p.now + greatest_loss c.args.w.now + 2 ^ 13)
    (λ r is. most (table-loss r _ _ _ _ (within g c) is) (omega arith)) c.filled_then_row.ensures.value

pub returns-clause-reach : goal.returns-clause-reach
returns-clause-reach g c few = IfOk-weaker _ (λ r. r ≡ then_row_of c.args.p.now c.args.w.now) (λ r. table_reach r ≤ table_reach c.args.p.now + greatest_reach c.args.w.now + 1)
    (λ r is. table-reach r _ _ _ _ (table_reach c.args.p.now + greatest_reach c.args.w.now + 1) (within g c) (omega arith) is) c.filled_then_row.ensures.value

pub returns-clause-at_most : goal.returns-clause-at_most
returns-clause-at_most g c =
    let p = c.args.p.now in
    omega (arith, c.filled_then_row.ensures.few, start_rises p.cells (live_rows p) p.cells (live_rows-most p), start_twice p.cells p.cells 0 (omega arith))
