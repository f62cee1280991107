use Rattle.cg_walk.proofs.GetsLemmas.{print_most}
use Rattle.cg_walk.proofs.laws.prints_are_short.Goals as goal

pub returns : goal.returns
returns c = print_most
