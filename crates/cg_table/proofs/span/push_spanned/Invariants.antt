use Rattle.std.proofs.Common.{◌≡◌, ◌+◌, ◌-◌, ◌++◌, map}
use Rattle.std.specs.List.{range_with_len}
use Rattle.cg_table.specs.Formulas.{spanned_entry}
use Rattle.cg_table.specs.Sums.{sum_of}
use Rattle.cg_table.specs.Table.{entry}
use Rattle.cg_table.proofs.span.push_spanned.Given as goal

abbrev pub invariant-loop-b : goal.invariant-loop-b
invariant-loop-b g l = record {
  front : l.entries.items ≡ l.initial.entries.items ++ map (spanned_entry (entry l.m) l.n l.a) (range_with_len l.a (l.b - l.a));
  sum : l.sum ≡ sum_of (entry l.m l.a) l.a (l.b - l.a);
  ticks : l.steps ≡ l.initial.steps + (l.b - l.a);
}
