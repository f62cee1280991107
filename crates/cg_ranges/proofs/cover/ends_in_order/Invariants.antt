use Rattle.std.proofs.Common.{◌≡◌, map}
use Rattle.std.specs.List.{range_with_len}
use Rattle.cg_ranges.proofs.EndLemmas.{end_at}
use Rattle.cg_ranges.proofs.cover.ends_in_order.Given as goal

abbrev pub invariant-loop-cell : goal.invariant-loop-cell
invariant-loop-cell l = l.ends.items ≡ map (end_at l.pairs) (range_with_len 0 l.cell)
