use Rattle.cg_part.proofs.Totals.{totals}
use Rattle.cg_part.proofs.laws.total_is_by_tables.Goals as goal

pub returns : goal.returns
returns c = totals
