use Rattle.cg_edit.proofs.KeptLemmas.{kept}
use Rattle.cg_edit.proofs.law.changed_models_are_models.Goals as goal

pub returns : goal.returns
returns c = kept
