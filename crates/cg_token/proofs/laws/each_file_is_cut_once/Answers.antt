use Rattle.cg_token.proofs.CutLemmas.{cut-once}
use Rattle.cg_token.proofs.laws.each_file_is_cut_once.Goals as goal

pub returns : goal.returns
returns c = cut-once
