use Rattle.std.proofs.Common.{◌-◌, ◌∙◌, arith}
use Rattle.cg_table.specs.Table.{entry}
use Rattle.cg_table.proofs.WithinLemmas.{sum-near, sum_of-more}
use Rattle.cg_table.proofs.single.summed.Goals as goal

pub plus-sum-requires-clause-left : goal.plus-sum-requires-clause-left
plus-sum-requires-clause-left c = sum-near c.args.t.now c.args.a c.args.from (c.loop-b.b - c.args.from) c.loop-b.sum c.get.ensures.table c.requires.reach (omega arith) c.loop-b.invariant

pub loop-b-preserved : goal.loop-b-preserved
loop-b-preserved c = c.plus-sum.ensures.value ∙ sum_of-more (entry c.args.t.now c.args.a) c.args.from c.loop-b.b c.loop-b.sum c.get.result (omega arith) c.loop-b.invariant c.get.ensures.value
