use Rattle.std.proofs.Common.{◌≡◌, ◌+◌, ◌*◌, map}
use Rattle.std.specs.List.{range_with_len}
use Rattle.cg_table.specs.Formulas.{span_power}
use Rattle.cg_table.proofs.span.powers.Given as goal

abbrev pub invariant-loop-passed : goal.invariant-loop-passed
invariant-loop-passed g l = record {
  front : l.powers.items ≡ map (λ s. span_power (s + 1) l.n) (range_with_len 0 l.passed);
  ticks : l.steps ≡ l.initial.steps + l.passed * l.n;
}
