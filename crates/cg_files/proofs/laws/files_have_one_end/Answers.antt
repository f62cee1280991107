use Rattle.cg_files.proofs.OneEndLemmas.{have_one_end}
use Rattle.cg_files.proofs.laws.files_have_one_end.Goals as goal

pub returns : goal.returns
returns c = have_one_end
