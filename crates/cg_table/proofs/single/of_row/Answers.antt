use Rattle.std.proofs.Common.{◌≡◌, ◌≤◌, ◌*◌, ◌^◌, length, arith}
use Rattle.std.proofs.lemmas.Result.{IfOk-weaker}
use Rattle.cg_table.specs.Exact.{exact_row_table}
use Rattle.cg_table.specs.Formulas.{row_table}
use Rattle.cg_table.specs.Losses.{greatest_loss, greatest_reach}
use Rattle.cg_table.specs.Table.{EnclosesTable, row_entry, table_loss, table_reach}
use Rattle.cg_table.proofs.WithinLemmas.{row_entry-within}
use Rattle.cg_table.proofs.TableLemmas.{table-loss, table-reach, table-encloses}
use Rattle.cg_table.proofs.single.of_row.Goals as goal

pub returns-clause-encloses : goal.returns-clause-encloses
returns-clause-encloses c y d h = IfOk-weaker _ (λ t. t ≡ row_table c.args.w.now) (λ t. EnclosesTable t (exact_row_table y) d)
    (λ t is. table-encloses t (length c.args.w.now) (λ a b. row_entry c.args.w.now b) (exact_row_table y) d (λ a b le less. h.at b less) is) c.filled_row.ensures.value

pub returns-clause-loss : goal.returns-clause-loss
returns-clause-loss c = IfOk-weaker _ (λ t. t ≡ row_table c.args.w.now) (λ t. table_loss t ≤ greatest_loss c.args.w.now)
    (λ t is. table-loss t (length c.args.w.now) (λ a b. row_entry c.args.w.now b) (greatest_loss c.args.w.now) (greatest_reach c.args.w.now * 2 ^ 31) (λ a b le less. row_entry-within c.args.w.now b c.filled_row.ensures.entries) is) c.filled_row.ensures.value

pub returns-clause-reach : goal.returns-clause-reach
returns-clause-reach c = IfOk-weaker _ (λ t. t ≡ row_table c.args.w.now) (λ t. table_reach t ≤ greatest_reach c.args.w.now)
    (λ t is. table-reach t (length c.args.w.now) (λ a b. row_entry c.args.w.now b) (greatest_loss c.args.w.now) (greatest_reach c.args.w.now * 2 ^ 31) (greatest_reach c.args.w.now) (λ a b le less. row_entry-within c.args.w.now b c.filled_row.ensures.entries) (omega arith) is) c.filled_row.ensures.value
