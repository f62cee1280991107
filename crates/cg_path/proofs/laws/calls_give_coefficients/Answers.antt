use Rattle.cg_path.proofs.Calls.{calls}
use Rattle.cg_path.proofs.laws.calls_give_coefficients.Goals as goal

pub returns : goal.returns
returns c = calls
