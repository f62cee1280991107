use Rattle.std.proofs.Common.{◌≡◌}
use Rattle.cg_table.specs.Table.{entry}
use Rattle.cg_context.specs.Columns.{by_columns}
use Rattle.cg_wide.proofs.items.columns_of.Given as goal

abbrev pub invariant-loop-d : goal.invariant-loop-d
invariant-loop-d l = l.entries.items ≡ by_columns (entry l.t) l.d
