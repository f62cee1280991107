use Rattle.cg_grammar.proofs.DecidedLemmas.{decided}
use Rattle.cg_grammar.proofs.laws.each_file_is_decided.Goals as goal

pub returns : goal.returns
returns c = decided
