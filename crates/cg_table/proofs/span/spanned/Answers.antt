use Rattle.std.proofs.Common.{◌≡◌, ◌+◌, ◌*◌, ◌^◌, ◌≤◌, arith}
use Rattle.std.proofs.lemmas.Result.{IfOk-weaker}
use Rattle.cg_table.specs.Exact.{exact_spanned}
use Rattle.cg_table.specs.Formulas.{spanned_entry, spanned_of}
use Rattle.cg_table.specs.Live.{live_rows}
use Rattle.cg_table.specs.Table.{EnclosesTable, entry, table_loss, table_reach}
use Rattle.cg_table.proofs.FormulaLemmas.{spanned-within, spanned-encloses}
use Rattle.cg_table.proofs.LiveLemmas.{live_rows-most}
use Rattle.cg_table.proofs.PlaceLemmas.{start_rises, start_twice}
use Rattle.cg_table.proofs.TableLemmas.{AreWithin, table-loss, table-reach, table-encloses, most}
use Rattle.cg_table.proofs.WithinLemmas.{entry-within}
use Rattle.cg_table.proofs.span.spanned.Goals as goal
use Rattle.cg_table.proofs.span.spanned.Goals.{After-filled_spanned}
use Rattle.cg_table.proofs.span.spanned.Given.{Over}

pub returns-clause-encloses : goal.returns-clause-encloses
returns-clause-encloses g c x weight d e some some' h parts = IfOk-weaker _ (λ r. r ≡ spanned_of c.args.m.now c.args.n) (λ r. EnclosesTable r (exact_spanned x weight c.args.n) (d * e ^ c.args.n))
    (λ r is. table-encloses r c.args.m.now.cells (spanned_entry (entry c.args.m.now) c.args.n) (exact_spanned x weight c.args.n) (d * e ^ c.args.n)
    (λ a b le less. spanned-encloses (entry c.args.m.now) x weight d e (table_loss c.args.m.now) (table_reach c.args.m.now * 2 ^ 31) c.args.n c.args.m.now.cells a b some some' (λ a b. entry-within c.args.m.now a b c.filled_spanned.ensures.operand) h.at c.filled_spanned.ensures.operand.few parts le less) is) c.filled_spanned.ensures.value

-- what each entry is within
within : (g : Over) (c : After-filled_spanned g) → AreWithin c.args.m.now.cells (spanned_entry (entry c.args.m.now) c.args.n) (table_loss c.args.m.now + 3 * c.args.m.now.cells + 6 * c.args.n + 3) (table_reach c.args.m.now * 2 ^ 31 + c.args.m.now.cells + 258 * c.args.n + 129)
within g c a b le less = spanned-within (entry c.args.m.now) (table_loss c.args.m.now) (table_reach c.args.m.now * 2 ^ 31) c.args.n c.args.m.now.cells a b (λ a b. entry-within c.args.m.now a b c.filled_spanned.ensures.operand) c.filled_spanned.ensures.operand.few le less

pub returns-clause-loss : goal.returns-clause-loss
returns-clause-loss g c few opened = IfOk-weaker _ (λ r. r ≡ spanned_of c.args.m.now c.args.n) (λ r. table_loss r ≤ table_loss c.args.m.now + 2 ^ 13)
    (λ r is. most (table-loss r _ _ _ _ (within g c) is) (omega arith)) c.filled_spanned.ensures.value

pub returns-clause-reach : goal.returns-clause-reach
returns-clause-reach g c few opened = IfOk-weaker _ (λ r. r ≡ spanned_of c.args.m.now c.args.n) (λ r. table_reach r ≤ table_reach c.args.m.now + 1)
    (λ r is. table-reach r _ _ _ _ (table_reach c.args.m.now + 1) (within g c) (omega arith) is) c.filled_spanned.ensures.value

pub returns-clause-at_most : goal.returns-clause-at_most
returns-clause-at_most g c =
    let m = c.args.m.now in
    omega (arith, c.filled_spanned.ensures.few, start_rises m.cells (live_rows m) m.cells (live_rows-most m), start_twice m.cells m.cells 0 (omega arith))
