use Rattle.cg_part.proofs.HasEvents.{has-events}
use Rattle.cg_part.proofs.laws.elements_have_the_events.Goals as goal

pub returns : goal.returns
returns c = has-events
