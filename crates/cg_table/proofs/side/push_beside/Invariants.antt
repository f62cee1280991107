use Rattle.std.proofs.Common.{◌≡◌, ◌+◌, ◌-◌, ◌*◌, ◌++◌, map}
use Rattle.std.specs.List.{range_with_len}
use Rattle.cg_table.specs.Formulas.{beside_entry}
use Rattle.cg_table.specs.Sums.{sum_of}
use Rattle.cg_table.specs.Table.{entry}
use Rattle.cg_table.proofs.side.push_beside.Given as goal

abbrev pub invariant-loop-b : goal.invariant-loop-b
invariant-loop-b g l = record {
  front : l.entries.items ≡ l.initial.entries.items ++ map (beside_entry (entry l.s) (entry l.t) l.a) (range_with_len l.a (l.b - l.a));
  before : l.before ≡ sum_of (entry l.s l.a) l.a (l.b - l.a);
  reached : l.reached ≡ sum_of (entry l.t l.a) l.a (l.b - l.a);
  ticks : l.steps ≡ l.initial.steps + 2 * (l.b - l.a);
}
