use Rattle.std.proofs.Common.{◌≡◌, ◌-◌, ◌++◌, map}
use Rattle.std.specs.List.{range_with_len}
use Rattle.cg_table.specs.Table.{row_entry}
use Rattle.cg_table.proofs.single.push_row.Given as goal

abbrev pub invariant-loop-b : goal.invariant-loop-b
invariant-loop-b l = l.entries.items ≡ l.initial.entries.items ++ map (row_entry l.w) (range_with_len l.a (l.b - l.a))
