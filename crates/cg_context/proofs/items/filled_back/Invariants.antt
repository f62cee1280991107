use Rattle.std.proofs.Common.{◌≡◌, ◌≤◌, ◌+◌, ◌-◌, ◌*◌}
use Rattle.cg_table.specs.Table.{rows, entry}
use Rattle.cg_context.specs.Formulas.{back_entry}
use Rattle.cg_context.proofs.items.filled_back.Given as goal

abbrev pub invariant-loop-a : goal.invariant-loop-a
invariant-loop-a g l = record {
  front : l.entries.items ≡ rows l.v.cells (back_entry l.v.cells (entry l.v) (entry l.t)) l.a;
  ticks : 6 * l.steps + (l.v.cells - l.a) * (l.v.cells - l.a + 1) * (l.v.cells - l.a + 2) ≤ 6 * l.initial.steps + l.v.cells * (l.v.cells + 1) * (l.v.cells + 2);
}
