use Rattle.cg_part.proofs.Factorials.{exact-spans}
use Rattle.cg_part.proofs.laws.spans_are_exact.Goals as goal

pub returns : goal.returns
returns c = exact-spans
