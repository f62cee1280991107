use Rattle.std.proofs.Common.{◌≡◌, ◌-◌, map, fold}
use Rattle.std.specs.List.{range_with_len}
use Rattle.cg_table.specs.Table.{entry}
use Rattle.cg_bench.specs.Fold.{mixed}
use Rattle.cg_bench.proofs.fold.mix.Given as goal

abbrev pub invariant-loop-b : goal.invariant-loop-b
invariant-loop-b l = l.sum ≡ fold mixed l.initial.sum-2 (map (entry l.t l.a) (range_with_len l.a (l.b - l.a)))
