use Rattle.std.proofs.Common.{◌≡◌, ◌+◌, ◌-◌, ◌*◌, ◌≤◌}
use Rattle.cg_table.specs.Table.{rows, entry}
use Rattle.cg_context.specs.Formulas.{into_sequence_entry}
use Rattle.cg_context.proofs.sequence.filled_sequence.Given as goal

abbrev pub invariant-loop-c : goal.invariant-loop-c
invariant-loop-c g l = record {
  front : l.entries.items ≡ rows l.p.cells (into_sequence_entry (entry l.p) (entry l.v)) l.c;
  ticks : 6 * l.steps ≤ 6 * l.initial.steps + l.c * (l.c + 1) * (3 * (l.p.cells - l.c) + l.c + 2);
}
