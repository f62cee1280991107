use Rattle.std.proofs.Common.{arith}
use Rattle.cg_table.proofs.PlaceLemmas.{start_code, half_start}
use Rattle.cg_table.proofs.tri.start_of.Goals as goal

pub overflow_mul-result-2 : goal.overflow_mul-result-2
overflow_mul-result-2 c = rw (start_code c.args.cells c.args.a c.requires.within) (record { fits = omega (arith, c.requires.len, c.ranges.len.fits) })

pub overflow_cast-result-4 : goal.overflow_cast-result-4
overflow_cast-result-4 c = rw (half_start c.args.cells c.args.a c.requires.within) (record { fits = omega (arith, c.requires.len, c.ranges.len.fits) })

pub returns : goal.returns
returns c = half_start c.args.cells c.args.a c.requires.within
