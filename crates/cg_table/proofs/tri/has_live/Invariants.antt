use Rattle.std.proofs.Common.{◌≡◌, take}
use Rattle.std.specs.List.{All}
use Rattle.cg_enc.specs.Enclosure.{exact_zero}
use Rattle.cg_table.proofs.tri.has_live.Given as goal

abbrev pub invariant-loop-e : goal.invariant-loop-e
invariant-loop-e l = All (λ e. e ≡ exact_zero) (take l.e-index l.row)
