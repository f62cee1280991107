use Rattle.cg_courses.proofs.TakenLemmas.{prints_walked}
use Rattle.cg_courses.proofs.laws.prints_are_walked.Goals as goal

pub returns : goal.returns
returns c = prints_walked
