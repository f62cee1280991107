-- What a node contributes: the datings of its own events, by where they begin and what they reach. chron's own.
use Rattle.std.specs.Prelude.{ℕ, ◌*◌, max, Bool, ◌&&◌, ◌||◌, ◌==◌, cond, nat_le, List, [], ◌∷◌, if◌then◌else◌}
use Rattle.std.specs.List.{list_all, zip}
use Rattle.cg_meaning.specs.Tree.{Tree, Step, count, paths_of}
use Rattle.cg_meaning.specs.Order.{passes_after, passes_before}
use Rattle.cg_meaning.specs.Scene.{Scene}
use Rattle.cg_meaning.specs.Weights.{Weighting}
use Rattle.cg_meaning.specs.Pairs.{boundary_pairs, pair_at, span_weight}
use Rattle.cg_meaning.specs.Sums.{sum_over, product_from, product_by}
use Rattle.cg_meaning.specs.Posterior.{allows}

-- each event that is not under an After group is at a or later
abbrev pub begins : ℕ → List (List Step × ℕ) → Bool
begins a placed = list_all (λ x. passes_after x.0 || nat_le a x.1) placed

-- the greatest of a and the cells of the events that are not under a Before group
abbrev pub reaches : ℕ → List (List Step × ℕ) → ℕ
reaches a [] = a
reaches a (x ∷ xs) = reaches (if passes_before x.0 then a else max a x.1) xs

-- an allowed dating of the node's own events, which begins at a and reaches b
abbrev pub suits : Tree → Scene → ℕ → ℕ → List ℕ → Bool
suits tree scene a b cells =
    let placed = zip (paths_of tree) cells in (allows tree scene cells && begins a placed) && reaches a placed == b

-- the product, over the node's events, of the weight at the event's cell and of its span weight, for pairs within the
-- node; the events are numbered from `number`
abbrev pub own_weight : Scene → Weighting → ℕ → Tree → List ℕ → ℕ
own_weight scene weighting number tree cells =
    product_from number weighting cells * product_by (λ pair. span_weight scene.grid.cells (pair_at cells pair)) (boundary_pairs tree)

-- the part sum of a node: the sum of these products
abbrev pub part : Scene → Weighting → ℕ → Tree → ℕ → ℕ → ℕ
part scene weighting number tree a b =
    sum_over scene.grid.cells (count tree) (λ cells. cond (suits tree scene a b cells) (own_weight scene weighting number tree cells) 0)
