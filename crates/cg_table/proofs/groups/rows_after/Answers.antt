use Rattle.std.proofs.Common.{arith}
use Rattle.cg_table.proofs.DeadLemmas.{after-dead}
use Rattle.cg_table.proofs.groups.rows_after.Goals as goal

pub returns-then-live-eq0-clause-dead : goal.returns-then-live-eq0-clause-dead
returns-then-live-eq0-clause-dead c = λ a b low le less. after-dead c.args.t.now a b (λ d more within. c.live.ensures.dead 0 d (omega arith) more within) le less
