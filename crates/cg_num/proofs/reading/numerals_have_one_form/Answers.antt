use Rattle.cg_num.proofs.NumeralLemmas.{parts_are_found}
use Rattle.cg_num.proofs.reading.numerals_have_one_form.Goals as goal

pub returns : goal.returns
returns c = parts_are_found
