use Rattle.std.proofs.Common.{◌≡◌, replicate}
use Rattle.cg_enc.specs.Rounding.{of_whole}
use Rattle.cg_context.proofs.tree.ones.Given as goal

abbrev pub invariant-loop : goal.invariant-loop
invariant-loop l = l.row.items ≡ replicate l.counter (of_whole 1)
