use Rattle.std.proofs.Common.{◌≡◌, false, get_or}
use Rattle.std.specs.List.{filter, range_with_len}
use Rattle.cg_ranges.specs.Runs.{runs_of}
use Rattle.cg_ranges.proofs.runs.runs.Given as goal

abbrev pub invariant-loop-cell : goal.invariant-loop-cell
invariant-loop-cell l = l.runs.items ≡ runs_of (filter (λ cell. get_or l.marks cell false) (range_with_len 0 l.cell))
