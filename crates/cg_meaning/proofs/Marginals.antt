-- The sum over all allowed datings is the sum over the cells of any one event, and it is 0 just where no dating is allowed.
use Rattle.std.proofs.Common.{◌≡◌, ℕ, zero, suc, ◌<◌, ◌≤◌, Bool, true, false, cond, ◌&&◌, ◌⊎◌, inl, inr, eqb, ne_eqb, eq-eqb, List, [], ◌∷◌, length, get_or, refl, sym, ap, ◌∙◌, arith, le_trans}
use Rattle.std.specs.Prelude.{IsFalse}
use Rattle.std.specs.List.{All}
use Rattle.std.proofs.lemmas.Bool.{cases_lt, cond-false}
use Rattle.cg_meaning.specs.Sums.{sum_below, sum_over}
use Rattle.cg_meaning.specs.Tree.{Tree, count}
use Rattle.cg_meaning.specs.Scene.{Scene}
use Rattle.cg_meaning.specs.Weights.{Weighting}
use Rattle.cg_meaning.specs.Posterior.{allows, weight_of, total, total_at, IsImpossible, IsDating}
use Rattle.cg_meaning.proofs.Sums.{sum_below-zero, sum_over-same, sum_over-below_swap, AreCells}

-- the term at c, by whether c is the last
sum_below-pick_at : (n c : ℕ) (f : ℕ → ℕ) → (c < n) ⊎ (n ≤ c) → c < suc n →
    (c < n → sum_below n (λ k. cond (eqb c k) (f k) 0) ≡ f c) → sum_below (suc n) (λ k. cond (eqb c k) (f k) 0) ≡ f c
sum_below-pick_at n c f (inl below) within before =
    let other : eqb c n ≡ false = ne_eqb c n (λ same. absurd (omega arith)) in
    rw other (omega (arith, before below))
sum_below-pick_at n c f (inr last) within before =
    let here : eqb c n ≡ true = eq-eqb c n (omega arith) in
    let none : sum_below n (λ k. cond (eqb c k) (f k) 0) ≡ 0 =
    sum_below-zero n (λ k. cond (eqb c k) (f k) 0) (λ k h. cond-false (eqb c k) (f k) 0 (ne_eqb c k (λ same. absurd (omega arith)))) in
    let same : c ≡ n = omega arith in
    rw here (omega (arith, none, ap f same))

-- a sum in which only the term at c counts
pub sum_below-pick : (n c : ℕ) (f : ℕ → ℕ) → c < n → sum_below n (λ k. cond (eqb c k) (f k) 0) ≡ f c
sum_below-pick zero c f h = absurd (omega arith)
sum_below-pick (suc n) c f h = sum_below-pick_at n c f (cases_lt c n) h (sum_below-pick n c f)

-- the cell of an event is one of the grid's
pub cell_within : (g : ℕ) (cells : List ℕ) (event : ℕ) → AreCells g cells → event < length cells → get_or cells event 0 < g
unfolding AreCells
cell_within g [] event all h = absurd (omega arith)
cell_within g (c ∷ cs) zero all h = all.0
cell_within g (c ∷ cs) (suc event) all h = cell_within g cs event all.1 (omega arith)

-- a dating has its event at just one cell
at_one_cell : (b : Bool) (g c x : ℕ) → c < g → cond b x 0 ≡ sum_below g (λ k. cond (b && eqb c k) x 0)
at_one_cell true g c x h = sym (sum_below-pick g c (λ k. x) h)
at_one_cell false g c x h = sym (sum_below-zero g (λ k. 0) (λ k l. refl))

-- The sum over all allowed datings is that over the cells of an event.
pub total_by_cell : (tree : Tree) (scene : Scene) (w : Weighting) (event : ℕ) → event < count tree →
    total tree scene w ≡ sum_below scene.grid.cells (λ cell. total_at tree scene w event cell)
total_by_cell tree scene w event h =
    let g = scene.grid.cells in
    let one : List ℕ → ℕ → ℕ = λ cells k. cond (allows tree scene cells && eqb (get_or cells event 0) k) (weight_of tree scene w cells) 0 in
    sum_over-same g (count tree) (λ cells. cond (allows tree scene cells) (weight_of tree scene w cells) 0) (λ cells. sum_below g (one cells))
    (λ cells l all.
    at_one_cell (allows tree scene cells) g (get_or cells event 0) (weight_of tree scene w cells) (cell_within g cells event all (omega arith)))
    ∙ sum_over-below_swap g (count tree) g one

-- a term is no greater than the sum, by whether it is the last
term_at : (n k : ℕ) (f : ℕ → ℕ) → (k < n) ⊎ (n ≤ k) → k < suc n → (k < n → f k ≤ sum_below n f) → f k ≤ sum_below (suc n) f
term_at n k f (inl below) within before = omega (arith, before below)
term_at n k f (inr last) within before = let same : k ≡ n = omega arith in omega (arith, ap f same)

-- no term is greater than the sum
pub sum_below-term : (n k : ℕ) (f : ℕ → ℕ) → k < n → f k ≤ sum_below n f
sum_below-term zero k f h = absurd (omega arith)
sum_below-term (suc n) k f h = term_at n k f (cases_lt k n) h (sum_below-term n k f)

-- no term is greater than the sum
pub sum_over-term : (g : ℕ) (f : List ℕ → ℕ) (cells : List ℕ) → AreCells g cells → f cells ≤ sum_over g (length cells) f
unfolding AreCells
sum_over-term g f [] all = omega arith
sum_over-term g f (c ∷ cs) all =
    le_trans (sum_over-term g (λ ds. f (c ∷ ds)) cs all.1) (sum_below-term g c (λ d. sum_over g (length cs) (λ ds. f (d ∷ ds))) all.0)

-- a term that counts, by whether it is the last
some_at : (n : ℕ) (f : ℕ → ℕ) → 0 < sum_below (suc n) f → (0 < f n) ⊎ (f n ≤ 0) →
    (0 < sum_below n f → (k : ℕ) × (k < n) × (0 < f k)) → (k : ℕ) × (k < suc n) × (0 < f k)
some_at n f some (inl last) before = (n, omega arith, last)
some_at n f some (inr none) before = let p = before (omega arith) in (p.0, omega (arith, p.1), p.2)

-- a sum that is not 0 has a term that is not 0
pub sum_below-some : (n : ℕ) (f : ℕ → ℕ) → 0 < sum_below n f → (k : ℕ) × (k < n) × (0 < f k)
sum_below-some zero f some = absurd (omega arith)
sum_below-some (suc n) f some = some_at n f some (cases_lt 0 (f n)) (sum_below-some n f)

-- a sum that is not 0 has a term that is not 0
pub sum_over-some : (g n : ℕ) (f : List ℕ → ℕ) → 0 < sum_over g n f → (cells : List ℕ) × (length cells ≡ n) × AreCells g cells × (0 < f cells)
unfolding AreCells
sum_over-some g zero f some = ([], refl, tt, some)
sum_over-some g (suc n) f some =
    let p = sum_below-some g (λ c. sum_over g n (λ cs. f (c ∷ cs))) some in
    let q = sum_over-some g n (λ cs. f (p.0 ∷ cs)) p.2 in
    (p.0 ∷ q.0, ap (λ k. suc k) q.1, (p.1, q.2), q.3)

-- the cells of a placed list, one by one
pub AreCells-from_All : (g : ℕ) (cells : List ℕ) → All (λ c. c < g) cells → AreCells g cells
unfolding AreCells
AreCells-from_All g [] all = tt
AreCells-from_All g (c ∷ cs) all = (all 0 c (omega arith), AreCells-from_All g cs (λ k d h. all (suc k) d (omega arith)))

-- the other way round
pub All-from_AreCells : (g : ℕ) (cells : List ℕ) → AreCells g cells → All (λ c. c < g) cells
unfolding AreCells
All-from_AreCells g [] all k d h = absurd (omega arith)
All-from_AreCells g (c ∷ cs) all zero d h = all.0
All-from_AreCells g (c ∷ cs) all (suc k) d h = All-from_AreCells g cs all.1 k d (omega arith)

-- a weight that does not count
not_allowed : (b : Bool) (x : ℕ) → cond b x 0 ≤ 0 → 0 < x → IsFalse b
not_allowed true x none some = absurd (omega arith)
not_allowed false x none some = refl

-- Where the sum is 0 under a weighting that gives each list of cells a weight, no dating is allowed.
pub impossible : (tree : Tree) (scene : Scene) (w : Weighting) →
    ((cells : List ℕ) → length cells ≡ count tree → 0 < weight_of tree scene w cells) → total tree scene w ≡ 0 → IsImpossible tree scene
impossible tree scene w some none cells placed =
    let all : AreCells scene.grid.cells cells = AreCells-from_All scene.grid.cells cells placed.within in
    let f : List ℕ → ℕ = λ cs. cond (allows tree scene cs) (weight_of tree scene w cs) 0 in
    let small : f cells ≤ 0 = omega (arith, sum_over-term scene.grid.cells f cells all, ap (λ n. sum_over scene.grid.cells n f) placed.each, none) in
    not_allowed (allows tree scene cells) (weight_of tree scene w cells) small (some cells placed.each)

-- a weight that counts
is_allowed : (b : Bool) (x : ℕ) → 0 < cond b x 0 → b ≡ true
is_allowed true x some = refl
is_allowed false x some = absurd (omega arith)

-- Where the sum is not 0, some dating is allowed.
pub possible : (tree : Tree) (scene : Scene) (w : Weighting) → 0 < total tree scene w → (cells : List ℕ) × IsDating tree scene cells
possible tree scene w some =
    let g = scene.grid.cells in
    let p = sum_over-some g (count tree) (λ cells. cond (allows tree scene cells) (weight_of tree scene w cells) 0) some in (
      p.0,
      record {
        placed = record { each = p.1; within = All-from_AreCells g p.0 p.2 };
        allowed = is_allowed (allows tree scene p.0) (weight_of tree scene w p.0) p.3;
      },
    )
