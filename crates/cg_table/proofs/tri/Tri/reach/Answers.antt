use Rattle.std.proofs.Common.{◌≡◌, ◌∙◌, ap}
use Rattle.cg_table.specs.Losses.{greatest_reach}
use Rattle.cg_table.specs.Table.{Table, table_reach}
use Rattle.cg_table.proofs.ReachLemmas.{greatest_reach-IsExponent, greatest_reach-least}
use Rattle.cg_table.proofs.tri.Tri.reach.Goals as goal

kept : (c : goal.After-self) → c.self.inside.reach ≡ greatest_reach c.args.self.now.entries
kept c = c.self.invariant.4 ∙ ap (λ (t : Table). table_reach t) c.self.view_is

pub returns-clause-each : goal.returns-clause-each
returns-clause-each c = rw (kept c) (greatest_reach-IsExponent c.args.self.now.entries)

pub returns-clause-least : goal.returns-clause-least
returns-clause-least c = rw (kept c) (greatest_reach-least c.args.self.now.entries)
