use Rattle.cg_prints.proofs.PrintLemmas.{founded}
use Rattle.cg_prints.proofs.laws.prints_are_founded.Goals as goal

pub returns : goal.returns
returns c = founded c.changed_models_are_models.ensures
