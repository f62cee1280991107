use Rattle.std.proofs.Common.{◌≡◌, ◌-◌, ◌++◌, map}
use Rattle.std.specs.List.{range_with_len}
use Rattle.cg_table.specs.Formulas.{identity_entry}
use Rattle.cg_table.proofs.single.push_identity.Given as goal

abbrev pub invariant-loop-b : goal.invariant-loop-b
invariant-loop-b l = l.entries.items ≡ l.initial.entries.items ++ map (identity_entry l.a) (range_with_len l.a (l.b - l.a))
