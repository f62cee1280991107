use Rattle.std.proofs.Common.{arith, refl}
use Rattle.cg_table.specs.Table.{entry}
use Rattle.cg_bench.proofs.FoldLemmas.{mixed_more}
use Rattle.cg_bench.proofs.fold.mix.Goals as goal

pub loop-b-preserved : goal.loop-b-preserved
loop-b-preserved c =
    mixed_more c.args.sum c.loop-b.sum _ c.get-e.result (entry c.args.t.now c.args.a) c.args.a c.loop-b.b (omega arith) c.get-e.ensures.value c.loop-b.invariant
    (rw (c.lo.ensures.value, c.hi.ensures.value) refl)
