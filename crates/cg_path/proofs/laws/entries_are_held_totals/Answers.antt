use Rattle.cg_path.proofs.Down.{held_totals}
use Rattle.cg_path.proofs.laws.entries_are_held_totals.Goals as goal

pub returns : goal.returns
returns c = held_totals
