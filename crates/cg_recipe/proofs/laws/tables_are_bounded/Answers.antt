use Rattle.cg_recipe.proofs.BoundsElements.{bounded}
use Rattle.cg_recipe.proofs.laws.tables_are_bounded.Goals as goal

pub returns : goal.returns
returns c = bounded
