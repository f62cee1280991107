use Rattle.std.proofs.Common.{◌≡◌, ◌-◌, ◌*◌, ◌^◌, arith}
use Rattle.cg_table.specs.Table.{entry, table_loss, table_reach}
use Rattle.cg_table.proofs.FormulaLemmas.{row_sum-encloses}
use Rattle.cg_table.proofs.WithinLemmas.{entry-within}
use Rattle.cg_table.proofs.single.total.Goals as goal

pub returns-clause-encloses : goal.returns-clause-encloses
returns-clause-encloses c x d some h =
    let all : c.args.t.now.cells - 0 ≡ c.args.t.now.cells = omega arith in
    rw (c.summed.ensures, c.cells.ensures.value, all)
    (row_sum-encloses (entry c.args.t.now) x d (table_loss c.args.t.now) (table_reach c.args.t.now * 2 ^ 31) c.args.t.now.cells 0 0 c.args.t.now.cells some (λ a b. entry-within c.args.t.now a b c.cells.ensures.table) h.at (omega arith) (omega arith))
