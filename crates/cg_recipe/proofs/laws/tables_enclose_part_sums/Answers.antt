use Rattle.cg_recipe.proofs.TreeLemmas.{part-sums}
use Rattle.cg_recipe.proofs.laws.tables_enclose_part_sums.Goals as goal

pub returns : goal.returns
returns c = part-sums
