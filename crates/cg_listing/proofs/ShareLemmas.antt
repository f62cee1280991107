-- What a list of cells adds to the sum, and its bound.
use Rattle.std.proofs.Common.{◌≡◌, ℕ, ◌+◌, ◌*◌, ◌^◌, ◌≤◌, Bool, true, false, cond, List, [], ◌∷◌, length, Option, None, refl, sym, ap, ◌∙◌, arith}
use Rattle.std.proofs.Math.Nat.{pow-le-pow_left, mul-le-mul_right, one-mul}
use Rattle.std.proofs.lemmas.Nat.{mul-pow}
use Rattle.cg_meaning.specs.Tree.{Tree, count}
use Rattle.cg_meaning.specs.Scene.{Scene}
use Rattle.cg_meaning.specs.Pairs.{factorial, span_weight, boundary_pairs, pair_at}
use Rattle.cg_listing.proofs.PairLemmas.{length-pairs_of}
use Rattle.cg_meaning.specs.Sums.{product_from, product_by}
use Rattle.cg_meaning.specs.Posterior.{weight_of}
use Rattle.cg_meaning.specs.Weights.{ones}
use Rattle.cg_listing.specs.Listing.{largest_sum, is_listed, share_of}
use Rattle.cg_listing.proofs.SizeLemmas.{product_by-le}

-- the weights of the datings themselves
product_from-ones : (place : ℕ) (cells : List ℕ) → product_from place ones cells ≡ 1
product_from-ones place [] = refl
product_from-ones place (c ∷ cs) = omega (arith, product_from-ones (place + 1) cs)

-- the weight is the product of the span weights
weight_of-ones : (tree : Tree) (scene : Scene) (cells : List ℕ) →
    weight_of tree scene ones cells ≡ product_by (λ pair. span_weight scene.grid.cells (pair_at cells pair)) (boundary_pairs tree)
weight_of-ones tree scene cells =
    ap (λ n. n * product_by (λ pair. span_weight scene.grid.cells (pair_at cells pair)) (boundary_pairs tree)) (product_from-ones 0 cells) ∙ one-mul _

-- what an allowed dating adds
pub share_of-listed : (tree : Tree) (scene : Scene) (held : Option (ℕ × ℕ)) (cells : List ℕ) (pairs : List (Option (ℕ × ℕ))) (share : ℕ) →
    is_listed tree scene held cells ≡ true → pairs ≡ boundary_pairs tree →
    share ≡ product_by (λ pair. span_weight scene.grid.cells (pair_at cells pair)) pairs → share ≡ share_of tree scene held cells
share_of-listed tree scene held cells pairs share listed pairs_are is =
    rw listed (is ∙ ap (λ ps. product_by (λ pair. span_weight scene.grid.cells (pair_at cells pair)) ps) pairs_are ∙ sym (weight_of-ones tree scene cells))

cond-le : (b : Bool) (m n : ℕ) → m ≤ n → cond b m 0 ≤ n
cond-le true m n le = le
cond-le false m n le = omega arith

-- no list adds more than a power of the factorial
pub share_of-le : (tree : Tree) (scene : Scene) (held : Option (ℕ × ℕ)) (cells : List ℕ) →
    share_of tree scene held cells ≤ factorial scene.grid.cells ^ count tree
share_of-le tree scene held cells =
    let long : length (boundary_pairs tree) ≡ count tree = length-pairs_of None 0 tree in
    let most : product_by (λ pair. span_weight scene.grid.cells (pair_at cells pair)) (boundary_pairs tree) ≤ factorial scene.grid.cells ^ count tree =
    rw (← long) (product_by-le scene.grid.cells cells (boundary_pairs tree)) in
    cond-le (is_listed tree scene held cells) (weight_of tree scene ones cells) (factorial scene.grid.cells ^ count tree) (rw (weight_of-ones tree scene cells) most)

-- the bound of the sum, as that of the lists and that of their weights
pub largest_sum-parts : (cells events : ℕ) → largest_sum cells events ≡ cells ^ events * factorial cells ^ events
largest_sum-parts cells events = mul-pow cells (factorial cells) events

-- the bound of the weights is within that of the sum
pub largest_sum-weights : (cells events : ℕ) → 1 ≤ cells → factorial cells ^ events ≤ largest_sum cells events
largest_sum-weights cells events some = pow-le-pow_left (omega (arith, mul-le-mul_right (factorial cells) some)) events
