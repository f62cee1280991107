use Rattle.std.proofs.Common.{◌≡◌, ◌-◌, ◌++◌, map}
use Rattle.std.specs.List.{range_with_len}
use Rattle.cg_table.specs.Formulas.{after_entry}
use Rattle.cg_table.specs.Table.{entry}
use Rattle.cg_table.proofs.groups.push_after.Given as goal

abbrev pub invariant-loop-b : goal.invariant-loop-b
invariant-loop-b l = l.entries.items ≡ l.initial.entries.items ++ map (after_entry (entry l.t) l.a) (range_with_len l.a (l.b - l.a))
