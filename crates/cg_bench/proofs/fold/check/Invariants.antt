use Rattle.std.proofs.Common.{◌≡◌}
use Rattle.cg_bench.specs.Fold.{check_of}
use Rattle.cg_bench.proofs.fold.check.Given as goal

abbrev pub invariant-loop-a : goal.invariant-loop-a
invariant-loop-a l = l.sum ≡ check_of l.t l.a
