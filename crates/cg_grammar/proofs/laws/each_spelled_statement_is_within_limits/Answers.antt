use Rattle.cg_grammar.proofs.LimitLemmas.{each-statement}
use Rattle.cg_grammar.proofs.laws.each_spelled_statement_is_within_limits.Goals as goal

pub returns : goal.returns
returns c = each-statement
