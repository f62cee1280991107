use Rattle.std.proofs.Common.{◌∙◌, fold, ap, refl}
use Rattle.cg_table.specs.Table.{entry, row}
use Rattle.cg_bench.specs.Fold.{check_of, mixed}
use Rattle.cg_bench.proofs.FoldLemmas.{check_more}
use Rattle.cg_bench.proofs.fold.check.Goals as goal

pub loop-a-init : goal.loop-a-init
unfolding check_of
loop-a-init c = refl

pub loop-a-preserved : goal.loop-a-preserved
loop-a-preserved c = c.mix-sum.ensures ∙ ap (λ n. fold mixed n (row c.args.t.now.cells (entry c.args.t.now) c.loop-a.a)) c.loop-a.invariant ∙ check_more c.args.t.now c.loop-a.a
