-- The rows of weights of a tree's events, and the weightings that are admitted.
use Rattle.std.proofs.Common.{◌≡◌, ℕ, suc, ◌+◌, ◌<◌, List, [], ◌∷◌, length, arith, refl, sym, subst, zero-add, inl, inr, Option, Some, None}
use Rattle.std.specs.Prelude.{slice_get, slice_index_or}
use Rattle.std.specs.List.{All}
use Rattle.std.proofs.lemmas.Bool.{cases_lt}
use Rattle.std.proofs.lemmas.Option.{slice_get-get_or, get_or_from_slice_get}
use Rattle.std.proofs.Math.Nat.{mul-pos}
use lib.ListN.{get_or-eq_default}
use Rattle.cg_table.specs.Table.{EnclosesRow}
use Rattle.cg_meaning.specs.Tree.{Tree, Dating, Free, count, datings_of}
use Rattle.cg_meaning.specs.Scene.{Scene}
use Rattle.cg_meaning.specs.Cover.{AreCovered, IsCovered}
use Rattle.cg_meaning.specs.Weights.{Weighting, IsAdmitted, AreAdmitted}
use Rattle.cg_meaning.specs.Sums.{product_from}
use Rattle.cg_meaning.specs.Pairs.{boundary_pairs}
use Rattle.cg_meaning.specs.Posterior.{weight_of}
use Rattle.cg_meaning.proofs.Sums.{AreCells}
use Rattle.cg_meaning.proofs.Counts.{length-datings_of}
use Rattle.cg_model.specs.Limits.{IsInRange}
use Rattle.cg_part.specs.Tables.{row_of}
use Rattle.cg_like.specs.Likelihood.{weights_of, IsLikelihood, HasWeights}
use Rattle.cg_like.proofs.RowLemmas.{weights-IsLikelihood, weights-HasWeights}
use Rattle.cg_recipe.specs.Recipe.{rows_in}
use Rattle.cg_recipe.specs.Enclosed.{IsWeighed, AreWeighed}
use Rattle.cg_recipe.specs.Bounds.{AreLight}
use Rattle.cg_recipe.proofs.SpanLemmas.{spans-some}
use Rattle.cg_recipe.proofs.WeightLemmas.{admitted-some}

-- the row of a dating encloses all admitted weights, of which there are some
abbrev pub IsWeighable : Scene → Dating → Type 0
IsWeighable scene dating = IsLikelihood scene dating (weights_of scene dating) × HasWeights scene dating

-- What is known of a tree on a scene: each event can be weighed there.
pub record IsKnown (tree : Tree) (scene : Scene) : Type 0 where
  pub weighable : All (λ dating. IsWeighable scene dating) (datings_of tree)
  pub ranged : All IsInRange (datings_of tree)
  pub covered : AreCovered tree scene

-- the dating of an event, by its number
abbrev pub dating_at : Tree → ℕ → Dating
dating_at tree number = slice_index_or (datings_of tree) number Free

-- what holds of each dating, and of none, holds at any number
anywhere : (P : Dating → Type 0) (ds : List Dating) (i : ℕ) → P Free → All P ds → P (slice_index_or ds i Free)
anywhere P ds i free all =
    elim (cases_lt i (length ds)) [
      | inl inside ↦ all i Free inside
      | inr past ↦ subst P (sym (get_or-eq_default ds Free past)) free
    ]

ranged-at : (tree : Tree) (scene : Scene) (number : ℕ) → IsKnown tree scene → IsInRange (dating_at tree number)
ranged-at tree scene number known = anywhere IsInRange (datings_of tree) number tt known.ranged

covered-at : (tree : Tree) (scene : Scene) (number : ℕ) → IsKnown tree scene → IsCovered scene (dating_at tree number)
covered-at tree scene number known = anywhere (λ d. IsCovered scene d) (datings_of tree) number refl known.covered

-- the row of any number
likelihood : (tree : Tree) (scene : Scene) (number : ℕ) → IsKnown tree scene →
    IsLikelihood scene (dating_at tree number) (rows_in scene tree number) × HasWeights scene (dating_at tree number)
likelihood tree scene number known =
    anywhere (λ dating. IsWeighable scene dating) (datings_of tree) number
    (weights-IsLikelihood scene Free tt tt refl, weights-HasWeights scene Free tt tt refl) known.weighable

-- The rows lose and reach little.
pub rows-light : (tree : Tree) (scene : Scene) → IsKnown tree scene → AreLight scene.grid.cells (rows_in scene tree)
rows-light tree scene known = record {
  each = λ number. (likelihood tree scene number known).0.each;
  entries = λ number. (likelihood tree scene number known).0.entries;
  loss = λ number. (likelihood tree scene number known).0.loss;
  reach = λ number. (likelihood tree scene number known).0.reach;
}

-- an event's own dating
is_dating : (tree : Tree) (number : ℕ) (dating : Dating) → slice_get (datings_of tree) number ≡ Some dating → dating_at tree number ≡ dating
is_dating tree number dating here = get_or_from_slice_get (datings_of tree) number dating Free here

-- a multiplier of an event's row
abbrev IsMultiplier : Tree → Scene → Weighting → ℕ → ℕ → Type 0
IsMultiplier tree scene w number m =
    (dating : Dating) → slice_get (datings_of tree) number ≡ Some dating → (0 < m) × EnclosesRow (rows_in scene tree number) (row_of scene w number dating) m

find : (tree : Tree) (scene : Scene) (w : Weighting) (number : ℕ) (found : Option Dating) → IsKnown tree scene → AreAdmitted tree scene w →
    slice_get (datings_of tree) number ≡ found → (m : ℕ) × IsMultiplier tree scene w number m
find tree scene w number None known admitted is = (1, λ dating here. absurd (cc))
find tree scene w number (Some d) known admitted is =
    let own = is_dating tree number d is in
    let e = (likelihood tree scene number known).0.encloses (w number)
    (subst (λ (x : Dating). IsAdmitted scene x (w number)) (sym own) (admitted number d is)) in (
      e.multiplier,
      λ dating here. (
        e.some,
        subst (λ (x : Dating). EnclosesRow (rows_in scene tree number) (row_of scene w number x) e.multiplier) (is_dating tree number dating here) e.encloses,
      ),
    )

-- The multiplier of each row, under an admitted weighting.
pub multiplier : (tree : Tree) (scene : Scene) (w : Weighting) → IsKnown tree scene → AreAdmitted tree scene w → ℕ → ℕ
multiplier tree scene w known admitted number = (find tree scene w number (slice_get (datings_of tree) number) known admitted refl).0

-- The rows enclose the weights of each admitted weighting.
pub rows-weighed : (tree : Tree) (scene : Scene) (w : Weighting) (known : IsKnown tree scene) (admitted : AreAdmitted tree scene w) →
    AreWeighed scene w (rows_in scene tree) (multiplier tree scene w known admitted) 0 tree
unfolding multiplier
rows-weighed tree scene w known admitted event dating here =
    let row = likelihood tree scene event known in
    let m = find tree scene w event (slice_get (datings_of tree) event) known admitted refl in
    let is = m.1 dating here in
    subst (λ (k : ℕ). IsWeighed scene w (rows_in scene tree) (multiplier tree scene w known admitted) k dating) (sym (zero-add event)) (record {
      admitted = admitted event dating here;
      some = is.0;
      each = row.0.each;
      entries = row.0.entries;
      encloses = is.1;
    })

-- Some weighting is admitted.
pub some_weighting : (tree : Tree) (scene : Scene) → IsKnown tree scene → Weighting
some_weighting tree scene known number = (likelihood tree scene number known).1.weights

pub some-admitted : (tree : Tree) (scene : Scene) (known : IsKnown tree scene) → AreAdmitted tree scene (some_weighting tree scene known)
unfolding some_weighting
some-admitted tree scene known event dating here =
    subst (λ (d : Dating). IsAdmitted scene d (some_weighting tree scene known event)) (is_dating tree event dating here)
    (likelihood tree scene event known).1.admitted

-- a product of factors above 0
product-some : (g k : ℕ) (w : Weighting) (cells : List ℕ) → AreCells g cells → ((i cell : ℕ) → i < length cells → cell < g → 0 < w (k + i) cell) →
    0 < product_from k w cells
unfolding AreCells
product-some g k w [] all some = omega arith
product-some g k w (c ∷ cs) all some =
    let first : k + 0 ≡ k = omega arith in
    mul-pos (subst (λ (e : ℕ). 0 < w e c) first (some 0 c (omega arith) all.0))
    (product-some g (k + 1) w cs all.1 (λ i cell h l. subst (λ (e : ℕ). 0 < w e cell) (omega arith) (some (suc i) cell (omega arith) l)))

-- On the grid each dating has a weight above 0 under an admitted weighting.
pub weight_of-some : (tree : Tree) (scene : Scene) (w : Weighting) (cells : List ℕ) → IsKnown tree scene → AreAdmitted tree scene w →
    length cells ≡ count tree → AreCells scene.grid.cells cells → 0 < weight_of tree scene w cells
weight_of-some tree scene w cells known admitted l all =
    mul-pos
    (product-some scene.grid.cells 0 w cells all
    (λ i cell h within.
    let inside : i < length (datings_of tree) = omega (arith, length-datings_of tree) in
    subst (λ (e : ℕ). 0 < w e cell) (sym (zero-add i))
    (admitted-some scene (dating_at tree i) (w i) cell (ranged-at tree scene i known) (covered-at tree scene i known)
    (admitted i (dating_at tree i) (slice_get-get_or (datings_of tree) i Free inside)) within)))
    (spans-some scene.grid.cells cells (boundary_pairs tree) all)
