use Rattle.std.proofs.Common.{arith}
use Rattle.std.proofs.lemmas.Bool.{false≢true}
use Rattle.std.proofs.lemmas.Int.{ints}
use Rattle.cg_model.proofs.grid.Grid.new.Goals as goal
use Rattle.cg_model.proofs.grid.Grid.new.Goals.{in_default-via-then-cells-lt1, in_default-via-else-cells-lt1+else-cells-lt513}

pub returns-in_default-clause-fits : goal.returns-in_default-clause-fits
returns-in_default-clause-fits c = elim c.in_default.branch [
  | in_default-via-then-cells-lt1 w ↦ ((λ e. absurd (false≢true e)), (λ h. absurd (omega (arith, ints, h.0))))
  | in_default-via-else-cells-lt1+else-cells-lt513 w ↦ ((λ e. absurd (false≢true e)), (λ h. absurd (omega (arith, ints, h.1))))
]
