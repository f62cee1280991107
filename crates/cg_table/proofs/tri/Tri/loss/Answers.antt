use Rattle.std.proofs.Common.{◌≡◌, ◌∙◌, ap}
use Rattle.cg_table.specs.Losses.{greatest_loss}
use Rattle.cg_table.specs.Table.{Table, table_loss}
use Rattle.cg_table.proofs.LossLemmas.{greatest_loss-HasLoss, greatest_loss-least}
use Rattle.cg_table.proofs.tri.Tri.loss.Goals as goal

kept : (c : goal.After-self) → c.self.inside.loss ≡ greatest_loss c.args.self.now.entries
kept c = c.self.invariant.3 ∙ ap (λ (t : Table). table_loss t) c.self.view_is

pub returns-clause-each : goal.returns-clause-each
returns-clause-each c = rw (kept c) (greatest_loss-HasLoss c.args.self.now.entries)

pub returns-clause-least : goal.returns-clause-least
returns-clause-least c = rw (kept c) (greatest_loss-least c.args.self.now.entries)
