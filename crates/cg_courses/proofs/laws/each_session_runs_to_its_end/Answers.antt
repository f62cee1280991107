use Rattle.cg_courses.proofs.InterleavingLemmas.{each_runs_to_its_end}
use Rattle.cg_courses.proofs.laws.each_session_runs_to_its_end.Goals as goal

pub returns : goal.returns
returns c = each_runs_to_its_end
