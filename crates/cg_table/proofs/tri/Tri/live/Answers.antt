use Rattle.std.proofs.Common.{◌≡◌, ◌∙◌, ap, subst, arith}
use Rattle.cg_table.specs.Live.{live_rows}
use Rattle.cg_table.specs.Table.{Table, IsTable}
use Rattle.cg_table.proofs.LiveLemmas.{dead-zero, live_rows-most}
use Rattle.cg_table.proofs.tri.Tri.live.Goals as goal

kept : (c : goal.After-self) → c.self.inside.live ≡ live_rows c.args.self.now
kept c = c.self.invariant.2 ∙ ap (λ (t : Table). live_rows t) c.self.view_is

pub returns-clause-within : goal.returns-clause-within
returns-clause-within c = omega (arith, kept c, live_rows-most c.args.self.now)

pub returns-clause-dead : goal.returns-clause-dead
returns-clause-dead c = λ a b dead le less. dead-zero c.args.self.now a b (subst IsTable c.self.view_is c.self.invariant.0) (omega (arith, kept c, dead)) le less
