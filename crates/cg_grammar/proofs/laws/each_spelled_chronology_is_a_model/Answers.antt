use Rattle.cg_grammar.proofs.LimitLemmas.{each-spelled}
use Rattle.cg_grammar.proofs.laws.each_spelled_chronology_is_a_model.Goals as goal

pub returns : goal.returns
returns c = each-spelled
