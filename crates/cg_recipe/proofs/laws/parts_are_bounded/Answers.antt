use Rattle.cg_recipe.proofs.BoundsPath.{parts-bounded}
use Rattle.cg_recipe.proofs.laws.parts_are_bounded.Goals as goal

pub returns : goal.returns
returns c = parts-bounded
