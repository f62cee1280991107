use Rattle.std.proofs.Common.{◌∙◌, arith, refl, add-one}
use Rattle.cg_table.proofs.FormulaLemmas.{power-near}
use Rattle.cg_table.proofs.span.power.Goals as goal

pub times-power-requires-clause-left : goal.times-power-requires-clause-left
times-power-requires-clause-left g c = power-near c.args.span c.loop.counter c.loop.power c.requires.some c.requires.few (omega arith) c.loop.invariant.value

pub loop-preserved : goal.loop-preserved
loop-preserved g c = record {
  value = c.times-power.ensures.value ∙ rw (add-one, c.loop.invariant.value, c.share_of-share.ensures.value) refl;
  ticks = omega arith;
}
