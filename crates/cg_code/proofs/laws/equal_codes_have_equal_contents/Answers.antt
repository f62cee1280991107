use Rattle.cg_code.proofs.CodeLemmas.{equal_codes}
use Rattle.cg_code.proofs.laws.equal_codes_have_equal_contents.Goals as goal

pub returns : goal.returns
returns c = equal_codes
