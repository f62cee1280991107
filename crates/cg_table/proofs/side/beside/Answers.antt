use Rattle.std.proofs.Common.{◌≡◌, ◌+◌, ◌*◌, ◌^◌, ◌≤◌, ℕ, min, arith}
use Rattle.std.proofs.lemmas.Result.{IfOk-weaker}
use Rattle.cg_table.specs.Exact.{exact_beside}
use Rattle.cg_table.specs.Formulas.{beside_entry, beside_of}
use Rattle.cg_table.specs.Live.{live_rows}
use Rattle.cg_table.specs.Table.{EnclosesTable, entry, table_loss, table_reach}
use Rattle.cg_table.proofs.FormulaLemmas.{beside-within, beside-encloses}
use Rattle.cg_table.proofs.LiveLemmas.{live_rows-most}
use Rattle.cg_table.proofs.PlaceLemmas.{start_rises, start_twice}
use Rattle.cg_table.proofs.TableLemmas.{AreWithin, table-loss, table-reach, table-encloses, most}
use Rattle.cg_table.proofs.WithinLemmas.{entry-within}
use Rattle.cg_table.proofs.side.beside.Goals as goal
use Rattle.cg_table.proofs.side.beside.Goals.{After-filled_beside}
use Rattle.cg_table.proofs.side.beside.Given.{Over}

pub returns-clause-encloses : goal.returns-clause-encloses
returns-clause-encloses g c x y d e some some' h h' = IfOk-weaker _ (λ r. r ≡ beside_of c.args.s.now c.args.t.now) (λ r. EnclosesTable r (exact_beside x y) (d * e))
    (λ r is. table-encloses r c.args.s.now.cells (beside_entry (entry c.args.s.now) (entry c.args.t.now)) (exact_beside x y) (d * e)
    (λ a b le less. beside-encloses (entry c.args.s.now) (entry c.args.t.now) x y d e (table_loss c.args.s.now) (table_reach c.args.s.now * 2 ^ 31) (table_loss c.args.t.now) (table_reach c.args.t.now * 2 ^ 31) c.args.s.now.cells a b some some' (λ a b. entry-within c.args.s.now a b c.filled_beside.ensures.operands.0) (λ a b. entry-within c.args.t.now a b c.filled_beside.ensures.operands.1) h.at (λ a b le less. h'.at a b le (omega (arith, c.requires.cells, less))) le less) is) c.filled_beside.ensures.value

-- what each entry is within
within : (g : Over) (c : After-filled_beside g) → AreWithin c.args.s.now.cells (beside_entry (entry c.args.s.now) (entry c.args.t.now)) (table_loss c.args.s.now + table_loss c.args.t.now + 3 * c.args.s.now.cells + 6) (table_reach c.args.s.now * 2 ^ 31 + table_reach c.args.t.now * 2 ^ 31 + c.args.s.now.cells + 64)
within g c a b le less = beside-within (entry c.args.s.now) (entry c.args.t.now) (table_loss c.args.s.now) (table_reach c.args.s.now * 2 ^ 31) (table_loss c.args.t.now) (table_reach c.args.t.now * 2 ^ 31) c.args.s.now.cells a b (λ a b. entry-within c.args.s.now a b c.filled_beside.ensures.operands.0) (λ a b. entry-within c.args.t.now a b c.filled_beside.ensures.operands.1) le less

pub returns-clause-loss : goal.returns-clause-loss
returns-clause-loss g c few = IfOk-weaker _ (λ r. r ≡ beside_of c.args.s.now c.args.t.now) (λ r. table_loss r ≤ table_loss c.args.s.now + table_loss c.args.t.now + 2 ^ 13)
    (λ r is. most (table-loss r _ _ _ _ (within g c) is) (omega arith)) c.filled_beside.ensures.value

pub returns-clause-reach : goal.returns-clause-reach
returns-clause-reach g c few = IfOk-weaker _ (λ r. r ≡ beside_of c.args.s.now c.args.t.now) (λ r. table_reach r ≤ table_reach c.args.s.now + table_reach c.args.t.now + 1)
    (λ r is. table-reach r _ _ _ _ (table_reach c.args.s.now + table_reach c.args.t.now + 1) (within g c) (omega arith) is) c.filled_beside.ensures.value

pub returns-clause-at_most : goal.returns-clause-at_most
returns-clause-at_most g c =
    let s = c.args.s.now in
    let live : ℕ = min (live_rows s) (live_rows c.args.t.now) in
    omega (arith, c.filled_beside.ensures.few, start_rises s.cells live s.cells (omega (arith, live_rows-most s)), start_twice s.cells s.cells 0 (omega arith))
