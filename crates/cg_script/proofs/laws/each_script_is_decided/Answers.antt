use Rattle.cg_script.proofs.DecidedLemmas.{each_is_decided}
use Rattle.cg_script.proofs.laws.each_script_is_decided.Goals as goal

pub returns : goal.returns
returns c = each_is_decided
