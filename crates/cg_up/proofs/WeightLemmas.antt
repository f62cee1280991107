-- The rows of weights of a model's events.
use Rattle.std.proofs.Common.{◌≡◌, ℕ, ◌+◌, ◌*◌, ◌^◌, ◌≤◌, List, [], ◌∷◌, ◌++◌, take, Some, length, map, arith, inl, inr, sym, subst, ap, ◌∙◌}
use mathlib.Core.Path.{fun_ext}
use Rattle.std.specs.Prelude.{slice_get}
use Rattle.std.specs.List.{All}
use Rattle.std.proofs.lemmas.List.{length-map, map-append, take_all, take_more}
use Rattle.std.proofs.lemmas.Option.{slice_get_within, get_or_from_slice_get}
use Rattle.std.proofs.lemmas.Bool.{cases_lt}
use Rattle.std.proofs.lemmas.List.Elements.{All-get_or, All-push}
use Rattle.std.proofs.lemmas.List.FromFn.{length-map-range_with_len}
use lib.ListN.{get_or-eq_default}
use Rattle.std.proofs.Math.ListN.{get_or-map}
use Rattle.cg_enc.specs.Enclosure.{Enclosure, IsEnclosure, IsExponent, HasLoss}
use Rattle.cg_enc.specs.Rounding.{of_whole}
use Rattle.cg_table.proofs.LossLemmas.{greatest_loss-least}
use Rattle.cg_table.proofs.ReachLemmas.{greatest_reach-least, IsExponent-more}
use Rattle.cg_table.proofs.WithinLemmas.{IsWithin, whole-within}
use Rattle.cg_meaning.specs.Tree.{Tree, Trees, Dating, Free, count_all, datings_of, datings_of_all}
use Rattle.cg_meaning.specs.Scene.{Scene}
use Rattle.cg_model.proofs.TreeLemmas.{length-datings_of_all}
use Rattle.cg_like.specs.Likelihood.{weights_of, IsLikelihood, HasWeights}
use Rattle.cg_recipe.specs.Recipe.{rows_in}
use Rattle.cg_recipe.specs.Bounds.{AreLight, weight_loss}
use Rattle.cg_recipe.proofs.BoundsTables.{IsBoundedRow}
use Rattle.cg_up.proofs.RowLemmas.{All-cells}
use Rattle.cg_up.specs.Weighable.{IsWeighable, AreWeighable}
use Rattle.cg_up.specs.Pass.{ones, rows_of}

-- a row of ones loses nothing
ones-bounded : (cells : ℕ) → IsBoundedRow cells weight_loss 1 (ones cells)
ones-bounded cells =
    let one : IsWithin (of_whole 1) 0 66 = whole-within 1 (omega arith) in
    let lost = greatest_loss-least (ones cells) 0 (All-cells (λ e. HasLoss e 0) cells (λ _. of_whole 1) (λ c less. one.loss)) in
    record {
      each = length-map-range_with_len (λ _. of_whole 1) 0 cells;
      entries = record {
        valid = All-cells IsEnclosure cells (λ _. of_whole 1) (λ c less. one.valid);
        near = All-cells (λ e. IsExponent (2 ^ 60) e.exp) cells (λ _. of_whole 1) (λ c less. IsExponent-more (of_whole 1).exp 66 (2 ^ 60) (omega arith) one.near);
      };
      lost = omega (arith, lost);
      reached = greatest_reach-least (ones cells) 1 (All-cells (λ e. IsExponent (1 * 2 ^ 31) e.exp) cells (λ _. of_whole 1) (λ c less. IsExponent-more (of_whole 1).exp 66 (1 * 2 ^ 31) (omega arith) one.near));
    }

-- rows that lose little, and ones for any other event
row-bounded : (cells : ℕ) (rows : List (List Enclosure)) → All (IsBoundedRow cells weight_loss 1) rows → (number : ℕ) → IsBoundedRow cells weight_loss 1 (rows_of cells rows number)
row-bounded cells rows all number =
    elim (cases_lt number (length rows)) [
      | inl inside ↦ All-get_or (IsBoundedRow cells weight_loss 1) rows number (ones cells) inside all
      | inr past ↦ subst (IsBoundedRow cells weight_loss 1) (sym (get_or-eq_default rows (ones cells) past)) (ones-bounded cells)
    ]

-- all rows
pub rows-light : (cells : ℕ) (rows : List (List Enclosure)) → All (IsBoundedRow cells weight_loss 1) rows → AreLight cells (rows_of cells rows)
rows-light cells rows all = record {
  each = λ number. (row-bounded cells rows all number).each;
  entries = λ number. (row-bounded cells rows all number).entries;
  loss = λ number. (row-bounded cells rows all number).lost;
  reach = λ number. (row-bounded cells rows all number).reached;
}

-- a row of weights is one of these
pub likelihood-bounded : (scene : Scene) (dating : Dating) (row : List Enclosure) → IsLikelihood scene dating row → IsBoundedRow scene.grid.cells weight_loss 1 row
likelihood-bounded scene dating row h = record { each = h.each; entries = h.entries; lost = h.loss; reached = h.reach }

-- the rows of the recipe
pub rows-are : (scene : Scene) (tree : Tree) (rows : List (List Enclosure)) → rows ≡ map (weights_of scene) (datings_of tree) → rows_of scene.grid.cells rows ≡ rows_in scene tree
rows-are scene tree rows is = rw is (fun_ext (λ number. get_or-map (weights_of scene) (datings_of tree) number Free))

-- one more dating
take-next : (datings : List Dating) (event : ℕ) (dating : Dating) → slice_get datings event ≡ Some dating → take (event + 1) datings ≡ take event datings ++ dating ∷ []
take-next datings event dating here =
    take_more datings event dating (slice_get_within datings event dating here) ∙ ap (λ d. take event datings ++ d ∷ []) (get_or_from_slice_get datings event dating dating here)

-- the row of one more event
pub weights-next : (scene : Scene) (datings : List Dating) (event : ℕ) (dating : Dating) (rows : List (List Enclosure)) (row : List Enclosure) → slice_get datings event ≡ Some dating →
    row ≡ weights_of scene dating → rows ≡ map (weights_of scene) (take event datings) → rows ++ row ∷ [] ≡ map (weights_of scene) (take (event + 1) datings)
weights-next scene datings event dating rows row here is all =
    let next = take-next datings event dating here in
    rw (all, is, next) (sym (map-append (weights_of scene) (take event datings) (dating ∷ [])))

-- those of all
pub weights-all : (scene : Scene) (datings : List Dating) (event : ℕ) (rows : List (List Enclosure)) → length datings ≤ event → rows ≡ map (weights_of scene) (take event datings) → rows ≡ map (weights_of scene) datings
weights-all scene datings event rows past all = all ∙ ap (map (weights_of scene)) (take_all event datings past)

-- as many rows as events
pub rows-count : (scene : Scene) (ts top : Trees) (rows given : List (List Enclosure)) → given ≡ rows → top ≡ ts → rows ≡ map (weights_of scene) (datings_of_all ts) → length given ≡ count_all top
rows-count scene ts top rows given given_is top_is is = rw (given_is, top_is, is) (length-map (datings_of_all ts) (weights_of scene) ∙ length-datings_of_all ts)

-- so can one more
pub weighable-next : (scene : Scene) (datings : List Dating) (event : ℕ) (dating : Dating) (row : List Enclosure) → slice_get datings event ≡ Some dating → row ≡ weights_of scene dating →
    IsLikelihood scene dating row → HasWeights scene dating → AreWeighable scene (take event datings) → AreWeighable scene (take (event + 1) datings)
weighable-next scene datings event dating row here is likelihood some all =
    subst (AreWeighable scene) (sym (take-next datings event dating here))
    (All-push (λ d. IsWeighable scene d) (take event datings) dating all (subst (λ (r : List Enclosure). IsLikelihood scene dating r) is likelihood, some))

-- so can all
pub weighable-all : (scene : Scene) (datings : List Dating) (event : ℕ) → length datings ≤ event → AreWeighable scene (take event datings) → AreWeighable scene datings
weighable-all scene datings event past all = subst (AreWeighable scene) (take_all event datings past) all
