use Rattle.std.proofs.Common.{◌≡◌, ◌+◌}
use Rattle.cg_table.specs.Formulas.{span_power}
use Rattle.cg_table.proofs.span.power.Given as goal

abbrev pub invariant-loop : goal.invariant-loop
invariant-loop g l = record {
  value : l.power ≡ span_power l.span l.counter;
  ticks : l.steps ≡ l.initial.steps + l.counter;
}
