use Rattle.std.proofs.Common.{◌≡◌, ◌-◌, ◌++◌, map}
use Rattle.std.specs.List.{range_with_len}
use Rattle.cg_table.specs.Formulas.{before_entry}
use Rattle.cg_table.specs.Table.{entry}
use Rattle.cg_table.proofs.groups.push_before.Given as goal

abbrev pub invariant-loop-b : goal.invariant-loop-b
invariant-loop-b l = l.entries.items ≡ l.initial.entries.items ++ map (before_entry l.t.cells (entry l.t) l.a) (range_with_len l.a (l.b - l.a))
