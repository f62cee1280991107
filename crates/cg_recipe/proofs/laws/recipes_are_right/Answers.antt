use Rattle.cg_recipe.proofs.RightLemmas.{right-by}
use Rattle.cg_recipe.proofs.laws.recipes_are_right.Goals as goal

pub returns : goal.returns
returns c = right-by c.weights_enclose.ensures
