use Rattle.std.proofs.Common.{◌≡◌, ◌^◌, ◌≤◌}
use Rattle.cg_exp.specs.Exponential.{horner_after}
use Rattle.cg_exp.proofs.series.series.Given as goal

abbrev pub invariant-loop-done : goal.invariant-loop-done
invariant-loop-done l = record {
  value : l.value ≡ horner_after l.y.below l.y.above l.last l.done;
  most : l.value ≤ 2 ^ 62;
}
