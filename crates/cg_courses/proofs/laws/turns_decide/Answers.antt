use Rattle.cg_courses.proofs.RunLemmas.{turns_decide_all}
use Rattle.cg_courses.proofs.laws.turns_decide.Goals as goal

pub returns : goal.returns
returns c = turns_decide_all
