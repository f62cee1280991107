use Rattle.std.proofs.Common.{◌≡◌}
use Rattle.cg_table.specs.Losses.{greatest_loss}
use Rattle.cg_table.proofs.LossLemmas.{greatest_loss-HasLoss, greatest_loss-least}
use Rattle.cg_table.proofs.row.Row.loss.Goals as goal

kept : (c : goal.After-self) → c.self.inside.loss ≡ greatest_loss c.args.self.now
kept c = cc

pub returns-clause-each : goal.returns-clause-each
returns-clause-each c = rw (kept c) (greatest_loss-HasLoss c.args.self.now)

pub returns-clause-least : goal.returns-clause-least
returns-clause-least c = rw (kept c) (greatest_loss-least c.args.self.now)
