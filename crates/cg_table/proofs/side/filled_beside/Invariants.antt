use Rattle.std.proofs.Common.{◌≡◌, ◌+◌, ◌*◌}
use Rattle.cg_table.specs.Formulas.{beside_entry}
use Rattle.cg_table.specs.Table.{rows, start, entry}
use Rattle.cg_table.proofs.side.filled_beside.Given as goal

abbrev pub invariant-loop-a : goal.invariant-loop-a
invariant-loop-a g l = record {
  front : l.entries.items ≡ rows l.s.cells (beside_entry (entry l.s) (entry l.t)) l.a;
  ticks : l.steps ≡ l.initial.steps + 2 * start l.s.cells l.a;
}
