use Rattle.cg_part.proofs.Totals.{closed-spans}
use Rattle.cg_part.proofs.laws.closed_spans_are_spanned.Goals as goal

pub returns : goal.returns
returns c = closed-spans
