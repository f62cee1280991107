use Rattle.std.proofs.Common.{◌≡◌, ◌+◌, ◌*◌, ◌^◌, ◌≤◌, arith}
use Rattle.std.proofs.lemmas.Result.{IfOk-weaker}
use Rattle.cg_table.specs.Exact.{exact_before}
use Rattle.cg_table.specs.Formulas.{before_entry, before_of}
use Rattle.cg_table.specs.Table.{EnclosesTable, entry, table_loss, table_reach}
use Rattle.cg_table.proofs.FormulaLemmas.{before-within, before-encloses}
use Rattle.cg_table.proofs.TableLemmas.{AreWithin, table-loss, table-reach, table-encloses, most}
use Rattle.cg_table.proofs.WithinLemmas.{entry-within}
use Rattle.cg_table.proofs.groups.before_group.Goals as goal
use Rattle.cg_table.proofs.groups.before_group.Goals.{After-filled_before}

pub returns-clause-encloses : goal.returns-clause-encloses
returns-clause-encloses c x d some h = IfOk-weaker _ (λ r. r ≡ before_of c.args.t.now) (λ r. EnclosesTable r (exact_before c.args.t.now.cells x) d)
    (λ r is. table-encloses r c.args.t.now.cells (before_entry c.args.t.now.cells (entry c.args.t.now)) (exact_before c.args.t.now.cells x) d
    (λ a b le less. before-encloses (entry c.args.t.now) x d (table_loss c.args.t.now) (table_reach c.args.t.now * 2 ^ 31) c.args.t.now.cells a b some (λ a b. entry-within c.args.t.now a b c.filled_before.ensures.operand) h.at le less) is) c.filled_before.ensures.value

-- what each entry is within
within : (c : After-filled_before) → AreWithin c.args.t.now.cells (before_entry c.args.t.now.cells (entry c.args.t.now)) (table_loss c.args.t.now + 3 * c.args.t.now.cells) (table_reach c.args.t.now * 2 ^ 31 + c.args.t.now.cells)
within c a b le less = before-within (entry c.args.t.now) (table_loss c.args.t.now) (table_reach c.args.t.now * 2 ^ 31) c.args.t.now.cells a b (λ a b. entry-within c.args.t.now a b c.filled_before.ensures.operand)

pub returns-clause-loss : goal.returns-clause-loss
returns-clause-loss c few = IfOk-weaker _ (λ r. r ≡ before_of c.args.t.now) (λ r. table_loss r ≤ table_loss c.args.t.now + 2 ^ 13)
    (λ r is. most (table-loss r _ _ _ _ (within c) is) (omega arith)) c.filled_before.ensures.value

pub returns-clause-reach : goal.returns-clause-reach
returns-clause-reach c few = IfOk-weaker _ (λ r. r ≡ before_of c.args.t.now) (λ r. table_reach r ≤ table_reach c.args.t.now + 1)
    (λ r is. table-reach r _ _ _ _ (table_reach c.args.t.now + 1) (within c) (omega arith) is) c.filled_before.ensures.value
