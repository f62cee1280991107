use Rattle.cg_curve.proofs.DecidedLemmas.{each_is_decided}
use Rattle.cg_curve.proofs.laws.each_file_is_decided.Goals as goal

pub returns : goal.returns
returns c = each_is_decided
