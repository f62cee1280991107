use Rattle.std.proofs.Common.{◌≡◌, ◌+◌, ◌-◌, ◌++◌, map}
use Rattle.std.specs.List.{range_with_len}
use Rattle.cg_table.specs.Sums.{sum_of}
use Rattle.cg_table.specs.Table.{entry}
use Rattle.cg_context.proofs.PhaseLemmas.{own-term}
use Rattle.cg_context.proofs.side.push_own.Given as goal

abbrev pub invariant-loop-d : goal.invariant-loop-d
invariant-loop-d g l = record {
  front : l.entries.items ≡ l.initial.entries.items ++ map (own-term l.x l.others l.a) (range_with_len l.a (l.d - l.a));
  reached : l.reached ≡ sum_of (entry l.others l.a) l.a (l.d - l.a);
  ticks : l.steps ≡ l.initial.steps + (l.d - l.a);
}
