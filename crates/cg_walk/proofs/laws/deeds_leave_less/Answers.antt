use Rattle.cg_walk.proofs.WalkLemmas.{weight-turned}
use Rattle.cg_walk.proofs.laws.deeds_leave_less.Goals as goal

pub returns : goal.returns
returns c = weight-turned
