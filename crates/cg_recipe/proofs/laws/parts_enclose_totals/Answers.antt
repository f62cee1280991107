use Rattle.cg_recipe.proofs.PathLemmas.{part-totals}
use Rattle.cg_recipe.proofs.laws.parts_enclose_totals.Goals as goal

pub returns : goal.returns
returns c = part-totals
