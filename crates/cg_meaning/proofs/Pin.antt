-- An event held at one cell, by its weights.
use Rattle.std.proofs.Common.{◌≡◌, ℕ, zero, suc, ◌<◌, ◌+◌, ◌*◌, Bool, true, false, cond, ◌&&◌, eqb, ne_eqb, eq-eqb, List, [], ◌∷◌, length, get_or, refl, sym, ap, ◌∙◌, arith}
use Rattle.cg_meaning.specs.Tree.{Tree, count}
use Rattle.cg_meaning.specs.Scene.{Scene}
use Rattle.cg_meaning.specs.Sums.{product_from, product_by}
use Rattle.cg_meaning.specs.Pairs.{boundary_pairs, pair_at, span_weight}
use Rattle.cg_meaning.specs.Weights.{Weighting, held_at}
use Rattle.cg_meaning.specs.Posterior.{allows, weight_of, total, total_at}
use Rattle.cg_meaning.proofs.Sums.{sum_over-same}

-- the events after it keep their weights
product_after : (event cell k : ℕ) (w : Weighting) (cells : List ℕ) → event < k →
    product_from k (held_at event cell w) cells ≡ product_from k w cells
product_after event cell k w [] h = refl
product_after event cell k w (c ∷ cs) h =
    let other : eqb k event ≡ false = ne_eqb k event (λ same. absurd (omega arith)) in
    rw other (ap (λ a. w k c * a) (product_after event cell (k + 1) w cs (omega arith)))

-- a condition on a factor is one on the product
pub cond-times : (b : Bool) (x y : ℕ) → cond b x 0 * y ≡ cond b (x * y) 0
cond-times true x y = refl
cond-times false x y = omega arith

-- of the second factor
pub times-cond : (b : Bool) (x y : ℕ) → x * cond b y 0 ≡ cond b (x * y) 0
times-cond true x y = refl
times-cond false x y = omega arith

-- the product keeps its value where the event is at the cell, and is 0 elsewhere
product_held : (i cell k : ℕ) (w : Weighting) (cells : List ℕ) → i < length cells →
    product_from k (held_at (k + i) cell w) cells ≡ cond (eqb (get_or cells i 0) cell) (product_from k w cells) 0
product_held i cell k w [] h = absurd (omega arith)
product_held zero cell k w (c ∷ cs) h =
    let here : eqb k (k + 0) ≡ true = eq-eqb k (k + 0) (omega arith) in
    rw here (
    ap (λ a. cond (eqb c cell) (w k c) 0 * a) (product_after (k + 0) cell (k + 1) w cs (omega arith))
    ∙ cond-times (eqb c cell) (w k c) (product_from (k + 1) w cs))
product_held (suc i) cell k w (c ∷ cs) h =
    let other : eqb k (k + suc i) ≡ false = ne_eqb k (k + suc i) (λ same. absurd (omega arith)) in
    let next : k + suc i ≡ k + 1 + i = omega arith in
    rw other (
    ap (λ a. w k c * a) (ap (λ n. product_from (k + 1) (held_at n cell w) cs) next ∙ product_held i cell (k + 1) w cs (omega arith))
    ∙ times-cond (eqb (get_or cs i 0) cell) (w k c) (product_from (k + 1) w cs))

-- both conditions, with the weight of the spans
both : (a p : Bool) (x s : ℕ) → cond a (cond p x 0 * s) 0 ≡ cond (a && p) (x * s) 0
both true p x s = cond-times p x s
both false p x s = refl

-- The sum over the datings with the event at the cell is that over all, under the weighting that holds it there.
pub total_held : (tree : Tree) (scene : Scene) (w : Weighting) (event cell : ℕ) → event < count tree →
    total tree scene (held_at event cell w) ≡ total_at tree scene w event cell
total_held tree scene w event cell h =
    let spans : List ℕ → ℕ = λ cells. product_by (λ pair. span_weight scene.grid.cells (pair_at cells pair)) (boundary_pairs tree) in
    sum_over-same scene.grid.cells (count tree) (λ cells. cond (allows tree scene cells) (weight_of tree scene (held_at event cell w) cells) 0)
    (λ cells. cond (allows tree scene cells && eqb (get_or cells event 0) cell) (weight_of tree scene w cells) 0)
    (λ cells l all.
    let from_first : 0 + event ≡ event = omega arith in
    ap (λ p. cond (allows tree scene cells) (p * spans cells) 0)
    (ap (λ n. product_from 0 (held_at n cell w) cells) (sym from_first) ∙ product_held event cell 0 w cells (omega arith))
    ∙ both (allows tree scene cells) (eqb (get_or cells event 0) cell) (product_from 0 w cells) (spans cells))
