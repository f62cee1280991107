use Rattle.std.proofs.Common.{arith}
use Rattle.cg_table.proofs.FormulaLemmas.{powers_more}
use Rattle.cg_table.proofs.span.powers.Goals as goal

pub loop-passed-preserved : goal.loop-passed-preserved
loop-passed-preserved g c = record {
  front = powers_more c.args.n c.loop-passed.passed c.loop-passed.powers.items c.push.new.self.items c.power.result c.in_ok-push.ensures.items c.loop-passed.invariant.front c.power.ensures.value;
  ticks = omega (arith, c.loop-passed.invariant.ticks, c.power.ensures.ticks);
}
