use Rattle.cg_path.proofs.Down.{totals}
use Rattle.cg_path.proofs.laws.entries_are_totals.Goals as goal

pub returns : goal.returns
returns c = totals
