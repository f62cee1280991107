use Rattle.std.proofs.Common.{◌≡◌, ◌+◌, ◌*◌, ◌^◌, ◌≤◌, arith}
use Rattle.std.proofs.lemmas.Result.{IfOk-weaker}
use Rattle.cg_table.specs.Exact.{exact_after}
use Rattle.cg_table.specs.Formulas.{after_entry, after_of}
use Rattle.cg_table.specs.Table.{EnclosesTable, entry, table_loss, table_reach}
use Rattle.cg_table.proofs.FormulaLemmas.{after-within, after-encloses}
use Rattle.cg_table.proofs.TableLemmas.{AreWithin, table-loss, table-reach, table-encloses, most}
use Rattle.cg_table.proofs.WithinLemmas.{entry-within}
use Rattle.cg_table.proofs.groups.after_group.Goals as goal
use Rattle.cg_table.proofs.groups.after_group.Goals.{After-filled_after}

pub returns-clause-encloses : goal.returns-clause-encloses
returns-clause-encloses c x d some h = IfOk-weaker _ (λ r. r ≡ after_of c.args.t.now) (λ r. EnclosesTable r (exact_after x) d)
    (λ r is. table-encloses r c.args.t.now.cells (after_entry (entry c.args.t.now)) (exact_after x) d
    (λ a b le less. after-encloses (entry c.args.t.now) x d (table_loss c.args.t.now) (table_reach c.args.t.now * 2 ^ 31) c.args.t.now.cells a b some (λ a b. entry-within c.args.t.now a b c.filled_after.ensures.operand) h.at le less) is) c.filled_after.ensures.value

-- what each entry is within
within : (c : After-filled_after) → AreWithin c.args.t.now.cells (after_entry (entry c.args.t.now)) (table_loss c.args.t.now + 3 * c.args.t.now.cells) (table_reach c.args.t.now * 2 ^ 31 + c.args.t.now.cells)
within c a b le less = after-within (entry c.args.t.now) (table_loss c.args.t.now) (table_reach c.args.t.now * 2 ^ 31) c.args.t.now.cells a b (λ a b. entry-within c.args.t.now a b c.filled_after.ensures.operand) le less

pub returns-clause-loss : goal.returns-clause-loss
returns-clause-loss c few = IfOk-weaker _ (λ r. r ≡ after_of c.args.t.now) (λ r. table_loss r ≤ table_loss c.args.t.now + 2 ^ 13)
    (λ r is. most (table-loss r _ _ _ _ (within c) is) (omega arith)) c.filled_after.ensures.value

pub returns-clause-reach : goal.returns-clause-reach
returns-clause-reach c few = IfOk-weaker _ (λ r. r ≡ after_of c.args.t.now) (λ r. table_reach r ≤ table_reach c.args.t.now + 1)
    (λ r is. table-reach r _ _ _ _ (table_reach c.args.t.now + 1) (within c) (omega arith) is) c.filled_after.ensures.value
