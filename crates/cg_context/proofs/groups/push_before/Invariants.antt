use Rattle.std.proofs.Common.{◌≡◌, ◌-◌, ◌++◌, map}
use Rattle.std.specs.List.{range_with_len}
use Rattle.cg_table.specs.Table.{entry}
use Rattle.cg_context.specs.Formulas.{into_before_entry}
use Rattle.cg_context.proofs.groups.push_before.Given as goal

abbrev pub invariant-loop : goal.invariant-loop
invariant-loop l = l.entries.items ≡ l.initial.entries.items ++ map (into_before_entry (entry l.x) l.a) (range_with_len l.a (l.counter - l.a))
