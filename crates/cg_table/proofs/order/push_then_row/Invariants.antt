use Rattle.std.proofs.Common.{◌≡◌, ◌+◌, ◌-◌, ◌++◌, map}
use Rattle.std.specs.List.{range_with_len}
use Rattle.cg_table.specs.Formulas.{then_row_entry}
use Rattle.cg_table.specs.Sums.{sum_of}
use Rattle.cg_table.specs.Table.{entry, row_entry}
use Rattle.cg_table.proofs.order.push_then_row.Given as goal

abbrev pub invariant-loop-b : goal.invariant-loop-b
invariant-loop-b g l = record {
  front : l.entries.items ≡ l.initial.entries.items ++ map (then_row_entry (entry l.p) (row_entry l.w) l.a) (range_with_len l.a (l.b - l.a));
  sum : l.sum ≡ sum_of (entry l.p l.a) l.a (l.b - l.a);
  ticks : l.steps ≡ l.initial.steps + (l.b - l.a);
}
