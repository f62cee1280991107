use Rattle.std.proofs.Common.{◌∙◌, length-drop, arith}
use Rattle.cg_io.proofs.SinkLemmas.{Takes-rest}
use Rattle.cg_io.proofs.sink.write_whole.Goals as goal

pub loop-taken-preserved : goal.loop-taken-preserved
loop-taken-preserved g c = record {
  within = omega (arith, c.in-Ok.ensures.some.1, length-drop c.loop-taken.taken c.args.text.now);
  took = Takes-rest _ _ _ c.loop-taken.taken c.in-Ok.more c.args.text.now c.loop-taken.invariant.took c.in-Ok.ensures.taken;
  sound = c.in-Ok.ensures.counted ∙ c.loop-taken.invariant.sound;
}
