-- Rows of datings that can be weighed lose and reach little.
use Rattle.std.proofs.Common.{ℕ, List, length, get_or, inl, inr, refl, sym, subst}
use Rattle.std.specs.Prelude.{All}
use Rattle.std.proofs.lemmas.Bool.{cases_lt}
use lib.ListN.{get_or-eq_default}
use Rattle.cg_meaning.specs.Cover.{IsCovered}
use Rattle.cg_meaning.specs.Scene.{Scene}
use Rattle.cg_meaning.specs.Tree.{Dating, Free}
use Rattle.cg_model.specs.Limits.{IsInRange}
use Rattle.cg_like.specs.Likelihood.{IsScene, IsLikelihood, WeightsEnclose}
use Rattle.cg_recipe.specs.Bounds.{AreLight}
use Rattle.cg_message.specs.Pass.{rows_by}

-- what holds of each dating and of a free one holds of that of any number
at_any : (P : Dating → Type 0) (datings : List Dating) (number : ℕ) → P Free → All P datings → P (get_or datings number Free)
at_any P datings number free all =
    elim (cases_lt number (length datings)) [
      | inl inside ↦ all number Free inside
      | inr past ↦ subst P (sym (get_or-eq_default datings Free past)) free
    ]

likelihood : (scene : Scene) (datings : List Dating) (number : ℕ) → WeightsEnclose → IsScene scene → All IsInRange datings → All (IsCovered scene) datings →
    IsLikelihood scene (get_or datings number Free) (rows_by scene datings number)
likelihood scene datings number weigh is ranged covered =
    (weigh scene (get_or datings number Free) is (at_any IsInRange datings number tt ranged) (at_any (IsCovered scene) datings number refl covered)).0

pub light-by : (scene : Scene) (datings : List Dating) → WeightsEnclose → IsScene scene → All IsInRange datings → All (IsCovered scene) datings → AreLight scene.grid.cells (rows_by scene datings)
light-by scene datings weigh is ranged covered = record {
  each = λ number. (likelihood scene datings number weigh is ranged covered).each;
  entries = λ number. (likelihood scene datings number weigh is ranged covered).entries;
  loss = λ number. (likelihood scene datings number weigh is ranged covered).loss;
  reach = λ number. (likelihood scene datings number weigh is ranged covered).reach;
}
