use Rattle.cg_courses.proofs.ClosedLemmas.{claims_closed}
use Rattle.cg_courses.proofs.laws.claims_are_closed.Goals as goal

pub returns : goal.returns
returns c = claims_closed
