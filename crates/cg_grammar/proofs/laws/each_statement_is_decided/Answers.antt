use Rattle.cg_grammar.proofs.StatementLemmas.{statement-decided}
use Rattle.cg_grammar.proofs.laws.each_statement_is_decided.Goals as goal

pub returns : goal.returns
returns c = statement-decided
