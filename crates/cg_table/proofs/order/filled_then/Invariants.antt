use Rattle.std.proofs.Common.{◌≡◌, ◌≤◌, ◌+◌, ◌-◌, ◌*◌}
use Rattle.cg_table.specs.Formulas.{then_entry}
use Rattle.cg_table.specs.Table.{rows, entry}
use Rattle.cg_table.proofs.order.filled_then.Given as goal

abbrev pub invariant-loop-a : goal.invariant-loop-a
invariant-loop-a g l = record {
  front : l.entries.items ≡ rows l.p.cells (then_entry (entry l.p) (entry l.t)) l.a;
  ticks : 6 * l.steps + (l.p.cells - l.a) * (l.p.cells - l.a + 1) * (l.p.cells - l.a + 2) ≤ 6 * l.initial.steps + l.p.cells * (l.p.cells + 1) * (l.p.cells + 2);
}
