use Rattle.cg_table.proofs.JoinLemmas.{zeros_more}
use Rattle.cg_table.proofs.join.push_zeros.Goals as goal

pub loop-preserved : goal.loop-preserved
loop-preserved c = record { zeros = zeros_more c.args.entries.now.items c.loop.entries.items c.push.new.self.items c.zero.result c.loop.counter c.loop.invariant.zeros c.zero.ensures.value c.in_ok-push.ensures.items }
