use Rattle.std.proofs.Common.{◌≡◌, ◌+◌, ◌*◌}
use Rattle.cg_table.specs.Table.{rows, start, entry}
use Rattle.cg_context.specs.Formulas.{into_phase_entry}
use Rattle.cg_context.proofs.side.filled_phase.Given as goal

abbrev pub invariant-loop-a : goal.invariant-loop-a
invariant-loop-a g l = record {
  front : l.entries.items ≡ rows l.x.cells (into_phase_entry l.x.cells (entry l.x) (entry l.others)) l.a;
  ticks : l.steps ≡ l.initial.steps + 2 * start l.x.cells l.a;
}
