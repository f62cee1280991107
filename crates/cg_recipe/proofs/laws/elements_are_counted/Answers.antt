use Rattle.cg_recipe.proofs.CountLemmas.{counted}
use Rattle.cg_recipe.proofs.laws.elements_are_counted.Goals as goal

pub returns : goal.returns
returns c = counted
