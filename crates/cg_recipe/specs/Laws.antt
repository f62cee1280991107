-- What holds of the recipe. chron's own.
use Rattle.std.specs.Prelude.{ℕ, ◌<◌, IfSome}
use Rattle.cg_marginal.specs.Pairs.{ArePairs}
use Rattle.cg_meaning.specs.Tree.{Tree, Chronology, root_of, count}
use Rattle.cg_meaning.specs.Scene.{Scene}
use Rattle.cg_meaning.specs.Cover.{AreCovered}
use Rattle.cg_meaning.specs.Posterior.{IsMarginal}
use Rattle.cg_model.specs.Limits.{IsModel}
use Rattle.cg_like.specs.Likelihood.{IsScene}
use Rattle.cg_recipe.specs.Recipe.{recipe}

-- What the marginal that the recipe gives of an event is worth: it holds for every admitted weighting, and is none exactly
-- where no dating is allowed; and its pairs are at most 3 wide.
pub record IsRight (tree : Tree) (scene : Scene) (event : ℕ) : Type 0 where
  pub holds : IsMarginal tree scene event (recipe tree scene event)
  pub narrow : IfSome (recipe tree scene event) ArePairs

-- of every model, on every grid and curve on which all its datings can be weighed, and of each of its events
abbrev pub RecipesAreRight : Type 0
RecipesAreRight =
    (chronology : Chronology) (scene : Scene) (event : ℕ) → IsModel chronology.top → IsScene scene →
    AreCovered (root_of chronology) scene → event < count (root_of chronology) →
    IsRight (root_of chronology) scene event
