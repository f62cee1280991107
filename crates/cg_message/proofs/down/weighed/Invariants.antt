use Rattle.std.proofs.Common.{◌≡◌}
use Rattle.cg_enc.specs.Rounding.{times}
use Rattle.cg_table.specs.Table.{row_entry}
use Rattle.cg_context.specs.Formulas.{row_by}
use Rattle.cg_message.specs.Pass.{pass_of}
use Rattle.cg_message.proofs.down.weighed.Given as goal

-- the cells so far
abbrev pub invariant-loop-cell : goal.invariant-loop-cell
invariant-loop-cell l = l.parts ≡ row_by l.cell (λ cell. times (row_entry l.row cell) (row_entry ((pass_of l.pass).rows l.number) cell))
