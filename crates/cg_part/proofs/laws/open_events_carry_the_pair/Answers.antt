use Rattle.cg_part.proofs.Totals.{open-events}
use Rattle.cg_part.proofs.laws.open_events_carry_the_pair.Goals as goal

pub returns : goal.returns
returns c = open-events
