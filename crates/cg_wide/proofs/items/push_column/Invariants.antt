use Rattle.std.proofs.Common.{◌≡◌, ◌++◌, map}
use Rattle.std.specs.List.{range_with_len}
use Rattle.cg_table.specs.Table.{entry}
use Rattle.cg_wide.proofs.items.push_column.Given as goal

abbrev pub invariant-loop-c : goal.invariant-loop-c
invariant-loop-c l = l.entries.items ≡ l.initial.entries.items ++ map (λ c. entry l.t c l.d) (range_with_len 0 l.c)
