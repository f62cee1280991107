use Rattle.cg_part.proofs.Totals.{pinned}
use Rattle.cg_part.proofs.laws.pinned_total_is_by_tables.Goals as goal

pub returns : goal.returns
returns c = pinned
