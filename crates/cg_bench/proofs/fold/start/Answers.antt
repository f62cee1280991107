use Rattle.std.proofs.Common.{arith}
use Rattle.cg_table.proofs.PlaceLemmas.{start_twice}
use Rattle.cg_bench.proofs.fold.start.Goals as goal

pub returns : goal.returns
returns c = omega (arith, start_twice c.args.cells c.args.cells 0 (omega arith))
