use Rattle.cg_courses.proofs.TurnLemmas.{all_of_sessions}
use Rattle.cg_courses.proofs.laws.entries_are_of_sessions.Goals as goal

pub returns : goal.returns
returns c = all_of_sessions
