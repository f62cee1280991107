use Rattle.std.proofs.Common.{◌≡◌, ◌≤◌, arith}
use Rattle.std.proofs.lemmas.Result.{IfOk-weaker}
use Rattle.cg_path.specs.Contexts as exact
use Rattle.cg_table.specs.Table.{EnclosesTable, table_loss, table_reach}
use Rattle.cg_table.proofs.TableLemmas.{table-loss, table-reach, table-encloses}
use Rattle.cg_context.specs.Formulas.{root_entry, root_context}
use Rattle.cg_context.proofs.CallLemmas.{root-within, root-encloses}
use Rattle.cg_context.proofs.tree.root.Goals as goal

pub returns-clause-encloses : goal.returns-clause-encloses
returns-clause-encloses c = IfOk-weaker _ (λ x. x ≡ root_context c.args.cells) (λ x. EnclosesTable x exact.root 1)
    (λ x is. table-encloses x c.args.cells root_entry exact.root 1 (λ a b le less. root-encloses a b) is) c.filled_root.ensures

pub returns-clause-loss : goal.returns-clause-loss
returns-clause-loss c = IfOk-weaker _ (λ x. x ≡ root_context c.args.cells) (λ x. table_loss x ≡ 0)
    (λ x is. let none = table-loss x c.args.cells root_entry 0 66 (λ a b le less. root-within a b) is in omega (arith, none)) c.filled_root.ensures

pub returns-clause-reach : goal.returns-clause-reach
returns-clause-reach c = IfOk-weaker _ (λ x. x ≡ root_context c.args.cells) (λ x. table_reach x ≤ 1)
    (λ x is. table-reach x c.args.cells root_entry 0 66 1 (λ a b le less. root-within a b) (omega arith) is) c.filled_root.ensures
