use Rattle.cg_sharing.proofs.TurnLemmas.{turns_decide_all}
use Rattle.cg_sharing.proofs.laws.turns_decide.Goals as goal

pub returns : goal.returns
returns c = turns_decide_all
