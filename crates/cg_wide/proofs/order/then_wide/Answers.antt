use Rattle.std.proofs.Common.{◌≡◌, ◌+◌, ◌*◌, ◌^◌, ◌≤◌, arith}
use Rattle.std.proofs.lemmas.Result.{IfOk-weaker}
use Rattle.cg_table.specs.Exact.{exact_then}
use Rattle.cg_table.specs.Formulas.{then_entry, then_of}
use Rattle.cg_table.specs.Table.{EnclosesTable, entry, table_loss, table_reach}
use Rattle.cg_table.proofs.FormulaLemmas.{then-within, then-encloses}
use Rattle.cg_table.proofs.TableLemmas.{AreWithin, table-loss, table-reach, table-encloses, most}
use Rattle.cg_table.proofs.WithinLemmas.{entry-within}
use Rattle.cg_wide.proofs.order.then_wide.Goals as goal
use Rattle.cg_wide.proofs.order.then_wide.Goals.{After-filled_then}
use Rattle.cg_wide.proofs.order.then_wide.Given.{Over}

pub returns-clause-encloses : goal.returns-clause-encloses
returns-clause-encloses g c x y d e some some' h h' = IfOk-weaker _ (λ r. r ≡ then_of c.args.p.now c.args.t.now) (λ r. EnclosesTable r (exact_then x y) (d * e))
    (λ r is. table-encloses r c.args.p.now.cells (then_entry (entry c.args.p.now) (entry c.args.t.now)) (exact_then x y) (d * e)
    (λ a b le less. then-encloses (entry c.args.p.now) (entry c.args.t.now) x y d e (table_loss c.args.p.now) (table_reach c.args.p.now * 2 ^ 31) (table_loss c.args.t.now) (table_reach c.args.t.now * 2 ^ 31) c.args.p.now.cells a b some some' (λ a b. entry-within c.args.p.now a b c.filled_then.ensures.operands.0) (λ a b. entry-within c.args.t.now a b c.filled_then.ensures.operands.1) h.at (λ a b le less. h'.at a b le (omega (arith, c.requires.cells, less))) le less) is) c.filled_then.ensures.value

-- what each entry is within
within : (g : Over) (c : After-filled_then g) → AreWithin c.args.p.now.cells (then_entry (entry c.args.p.now) (entry c.args.t.now)) (table_loss c.args.p.now + table_loss c.args.t.now + 3 * c.args.p.now.cells + 3) (table_reach c.args.p.now * 2 ^ 31 + table_reach c.args.t.now * 2 ^ 31 + c.args.p.now.cells + 63)
within g c a b le less = then-within (entry c.args.p.now) (entry c.args.t.now) (table_loss c.args.p.now) (table_reach c.args.p.now * 2 ^ 31) (table_loss c.args.t.now) (table_reach c.args.t.now * 2 ^ 31) c.args.p.now.cells a b (λ a b. entry-within c.args.p.now a b c.filled_then.ensures.operands.0) (λ a b. entry-within c.args.t.now a b c.filled_then.ensures.operands.1) le less

pub returns-clause-loss : goal.returns-clause-loss
returns-clause-loss g c few = IfOk-weaker _ (λ r. r ≡ then_of c.args.p.now c.args.t.now) (λ r. table_loss r ≤ table_loss c.args.p.now + table_loss c.args.t.now + 2 ^ 13)
    (λ r is. most (table-loss r _ _ _ _ (within g c) is) (omega arith)) c.filled_then.ensures.value

pub returns-clause-reach : goal.returns-clause-reach
returns-clause-reach g c few = IfOk-weaker _ (λ r. r ≡ then_of c.args.p.now c.args.t.now) (λ r. table_reach r ≤ table_reach c.args.p.now + table_reach c.args.t.now + 1)
    (λ r is. table-reach r _ _ _ _ (table_reach c.args.p.now + table_reach c.args.t.now + 1) (within g c) (omega arith) is) c.filled_then.ensures.value
