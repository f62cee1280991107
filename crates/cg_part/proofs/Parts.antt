-- Sums over the datings of some events that begin at a, by what they reach, and those of two blocks of events.
use Rattle.std.proofs.Common.{◌≡◌, ℕ, suc, ◌<◌, ◌≤◌, max, Bool, true, false, cond, ◌&&◌, inl, inr, leb, le-leb, eqb, ne_eqb, List, [], ◌∷◌, ◌++◌, map, length, refl, sym, ap, ◌∙◌, arith}
use Rattle.std.proofs.lemmas.Bool.{cases_lt, cond-false, lt-leb}
use Rattle.std.proofs.Math.Bool.{and_assoc}
use Rattle.std.specs.List.{zip}
use Rattle.std.specs.Prelude.{if◌then◌else◌}
use Rattle.cg_meaning.specs.Tree.{Kind, Step, Dating}
use Rattle.cg_meaning.specs.Order.{is_ordered, passes_before}
use Rattle.cg_meaning.specs.Scene.{Scene, Grid, is_dated, admits}
use Rattle.cg_meaning.specs.Sums.{sum_below, sum_over}
use Rattle.cg_meaning.proofs.Sums.{sum_below-same, sum_below-zero, sum_over-same, sum_over-zero, sum_over-below_swap, AreCells}
use Rattle.cg_meaning.proofs.Marginals.{sum_below-pick}
use Rattle.cg_part.specs.Part.{begins, reaches}
use Rattle.cg_part.specs.Tables.{sum_from}
use Rattle.cg_part.proofs.Ranges.{by_order}
use Rattle.cg_part.proofs.Blocks.{under, IsBeyond, AreBeyond, and_false, reaches-later}

-- a dating of these events, by their paths and datings, that begins at a
abbrev pub starts : Scene → List (List Step) → List Dating → ℕ → List ℕ → Bool
starts scene paths datings a cells = (is_ordered paths cells && is_dated scene.grid datings cells) && begins a (zip paths cells)

-- the sum of the weights of those that reach a cell with the property
abbrev pub part_by : Scene → (List ℕ → ℕ) → List (List Step) → List Dating → ℕ → (ℕ → Bool) → ℕ
part_by scene weight paths datings a test =
    sum_over scene.grid.cells (length paths) (λ cells. cond (starts scene paths datings a cells && test (reaches a (zip paths cells)))
    (weight cells) 0)

-- those that reach just this cell
abbrev pub at : Scene → (List ℕ → ℕ) → List (List Step) → List Dating → ℕ → ℕ → ℕ
at scene weight paths datings a b = part_by scene weight paths datings a (λ c. eqb c b)

-- those that reach this cell at the latest
abbrev pub up_to : Scene → (List ℕ → ℕ) → List (List Step) → List Dating → ℕ → ℕ → ℕ
up_to scene weight paths datings a b = part_by scene weight paths datings a (λ c. leb c b)

-- equal weights, equal sums
pub up_to-same : (scene : Scene) (v w : List ℕ → ℕ) (ps : List (List Step)) (ds : List Dating) (a b : ℕ) →
    ((cells : List ℕ) → length cells ≡ length ps → v cells ≡ w cells) →
    up_to scene v ps ds a b ≡ up_to scene w ps ds a b
up_to-same scene v w ps ds a b same =
    sum_over-same scene.grid.cells (length ps) (λ cells. cond (starts scene ps ds a cells && leb (reaches a (zip ps cells)) b) (v cells) 0)
    (λ cells. cond (starts scene ps ds a cells && leb (reaches a (zip ps cells)) b) (w cells) 0)
    (λ cells l all. ap (λ x. cond (starts scene ps ds a cells && leb (reaches a (zip ps cells)) b) x 0) (same cells l))

-- the paths lead to later members of a group of this kind
abbrev pub LeadBeyond : Kind → ℕ → List (List Step) → Type 0
LeadBeyond kind k [] = Unit {0}
LeadBeyond kind k (q ∷ qs) = IsBeyond kind k q × LeadBeyond kind k qs

-- and so do those of events with their cells
pub beyond : (kind : Kind) (k : ℕ) (qs : List (List Step)) (cells : List ℕ) → LeadBeyond kind k qs → AreBeyond kind k (zip qs cells)
beyond kind k [] cells h = tt
beyond kind k (q ∷ qs) [] h = tt
beyond kind k (q ∷ qs) (c ∷ cs) h = (h.0, beyond kind k qs cs h.1)

-- a member's events and later ones, with their cells
pub zip_under : (s : Step) (ps qs : List (List Step)) (xs ys : List ℕ) → length xs ≡ length ps →
    zip (map (λ p. s ∷ p) ps ++ qs) (xs ++ ys) ≡ under s (zip ps xs) ++ zip qs ys
zip_under s [] qs [] ys l = refl
zip_under s [] qs (x ∷ xs) ys l = absurd (omega arith)
zip_under s (p ∷ ps) qs [] ys l = absurd (omega arith)
zip_under s (p ∷ ps) qs (x ∷ xs) ys l = ap (λ zs. (s ∷ p, x) ∷ zs) (zip_under s ps qs xs ys (omega arith))

-- the datings of two blocks
pub dated_append : (grid : Grid) (ds es : List Dating) (xs ys : List ℕ) → length xs ≡ length ds →
    is_dated grid (ds ++ es) (xs ++ ys) ≡ (is_dated grid ds xs && is_dated grid es ys)
dated_append grid [] es [] ys l = refl
dated_append grid [] es (x ∷ xs) ys l = absurd (omega arith)
dated_append grid (d ∷ ds) es [] ys l = absurd (omega arith)
dated_append grid (d ∷ ds) es (x ∷ xs) ys l =
    ap (λ b. admits grid d x && b) (dated_append grid ds es xs ys (omega arith))
    ∙ sym (and_assoc (admits grid d x) (is_dated grid ds xs) (is_dated grid es ys))

-- one cell more
reach_within : (q : Bool) (g a c : ℕ) → a < g → c < g → (if q then a else max a c) < g
reach_within true g a c h l = h
reach_within false g a c h l = omega arith

-- a reach is a cell of the grid
pub reaches-within : (g a : ℕ) (ps : List (List Step)) (cells : List ℕ) → AreCells g cells → a < g → reaches a (zip ps cells) < g
unfolding AreCells
reaches-within g a [] cells all h = h
reaches-within g a (p ∷ ps) [] all h = h
reaches-within g a (p ∷ ps) (c ∷ cs) all h =
    reaches-within g (if passes_before p then a else max a c) ps cs all.1 (reach_within (passes_before p) g a c h all.0)

-- no dating reaches less than where it begins
below_reach : (st : Bool) (r a c v : ℕ) → a ≤ r → c < a → cond (st && eqb r c) v 0 ≡ 0
below_reach st r a c v h l = rw (ne_eqb r c (λ same. absurd (omega arith)), and_false) refl

-- so the sum of these is 0
pub at-low : (scene : Scene) (weight : List ℕ → ℕ) (ps : List (List Step)) (ds : List Dating) (a b : ℕ) → b < a → at scene weight ps ds a b ≡ 0
at-low scene weight ps ds a b h =
    sum_over-zero scene.grid.cells (length ps) (λ cells. cond (starts scene ps ds a cells && eqb (reaches a (zip ps cells)) b) (weight cells) 0)
    (λ cells l all. below_reach (starts scene ps ds a cells) (reaches a (zip ps cells)) a b (weight cells) (reaches-later a (zip ps cells)) h)

-- nor up to a cell before it
above_reach : (st : Bool) (r a b v : ℕ) → a ≤ r → b < a → cond (st && leb r b) v 0 ≡ 0
above_reach st r a b v h l = rw (lt-leb r b (omega arith), and_false) refl

-- and the sum of these
pub up_to-low : (scene : Scene) (weight : List ℕ → ℕ) (ps : List (List Step)) (ds : List Dating) (a b : ℕ) → b < a → up_to scene weight ps ds a b ≡ 0
up_to-low scene weight ps ds a b h =
    sum_over-zero scene.grid.cells (length ps) (λ cells. cond (starts scene ps ds a cells && leb (reaches a (zip ps cells)) b) (weight cells) 0)
    (λ cells l all. above_reach (starts scene ps ds a cells) (reaches a (zip ps cells)) a b (weight cells) (reaches-later a (zip ps cells)) h)

-- a reach is one of the cells up to b, or a later one
one_reach : (st : Bool) (r b v : ℕ) → sum_below (suc b) (λ c. cond (st && eqb r c) v 0) ≡ cond (st && leb r b) v 0
one_reach false r b v = sum_below-zero (suc b) (λ c. 0) (λ c l. refl)
one_reach true r b v =
    elim (cases_lt b r) as (λ w. sum_below (suc b) (λ c. cond (eqb r c) v 0) ≡ cond (leb r b) v 0) [
      | inl h ↦ rw (lt-leb r b h)
          (sum_below-zero (suc b) (λ c. cond (eqb r c) v 0) (λ c l. cond-false (eqb r c) v 0 (ne_eqb r c (λ same. absurd (omega arith)))))
      | inr h ↦ rw (le-leb r b h) (sum_below-pick (suc b) r (λ c. v) (omega arith))
    ]

-- The sums by what is reached add up to those up to a cell.
pub at-sum : (scene : Scene) (weight : List ℕ → ℕ) (ps : List (List Step)) (ds : List Dating) (a b : ℕ) →
    sum_from a b (λ c. at scene weight ps ds a c) ≡ up_to scene weight ps ds a b
at-sum scene weight ps ds a b =
    let g = scene.grid.cells in
    let u : List ℕ → ℕ → ℕ = λ cells c. cond (starts scene ps ds a cells && eqb (reaches a (zip ps cells)) c) (weight cells) 0 in
    sum_below-same (suc b) (λ c. cond (leb a c) (at scene weight ps ds a c) 0) (λ c. at scene weight ps ds a c)
    (λ c h. by_order a c (at scene weight ps ds a c) (at scene weight ps ds a c) (λ l. refl) (λ l. sym (at-low scene weight ps ds a c l)))
    ∙ sym (sum_over-below_swap g (length ps) (suc b) u)
    ∙ sum_over-same g (length ps) (λ cells. sum_below (suc b) (u cells))
    (λ cells. cond (starts scene ps ds a cells && leb (reaches a (zip ps cells)) b) (weight cells) 0)
    (λ cells l all. one_reach (starts scene ps ds a cells) (reaches a (zip ps cells)) b (weight cells))
