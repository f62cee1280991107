use Rattle.cg_edit.proofs.StaysLemmas.{all_else-stays}
use Rattle.cg_edit.proofs.law.all_else_stays.Goals as goal

pub returns : goal.returns
returns c = all_else-stays
