-- After and Before groups, by the Phase of the same members.
use Rattle.std.proofs.Common.{◌≡◌, ℕ, ◌<◌, ◌≤◌, ◌+◌, ◌-◌, max, Bool, true, false, cond, ◌&&◌, ◌||◌, leb, le-leb, List, [], ◌∷◌, ◌++◌, map, length, refl, sym, ap, ap₂, ◌∙◌, arith}
use Rattle.std.proofs.lemmas.List.{length-map}
use Rattle.std.specs.List.{zip, list_all}
use Rattle.std.specs.Prelude.{if◌then◌else◌}
use Rattle.cg_meaning.specs.Tree.{Kind, Phase, After, Before, Step, Dating, Trees, none, more, paths_of, paths_of_all}
use Rattle.cg_meaning.specs.Order.{keeps_order, passes_before, passes_after, is_sequence}
use Rattle.cg_meaning.specs.Scene.{Scene}
use Rattle.cg_meaning.specs.Sums.{sum_over}
use Rattle.cg_meaning.proofs.Sums.{sum_over-same}
use Rattle.cg_part.specs.Part.{begins, reaches}
use Rattle.cg_part.proofs.Blocks.{Placed, cross, step, or_true}
use Rattle.cg_part.proofs.Beside.{leb-max_left}
use Rattle.cg_part.proofs.Parts.{starts, up_to, reaches-within}

-- the same path, from a group of this kind
abbrev pub from : Kind → List Step → List Step
from kind [] = []
from kind (s ∷ q) = step kind s.place ∷ q

-- each path begins in a Phase
abbrev pub AreInPhase : List (List Step) → Type 0
AreInPhase [] = Unit {0}
AreInPhase ([] ∷ ps) = ⊥
AreInPhase ((s ∷ q) ∷ ps) = (s.kind ≡ Phase) × AreInPhase ps

-- one after the other
map-map : {A B C : Type 0} (f : B → C) (g : A → B) (xs : List A) → map f (map g xs) ≡ map (λ x. f (g x)) xs
map-map f g [] = refl
map-map f g (x ∷ xs) = ap (λ ys. f (g x) ∷ ys) (map-map f g xs)

-- of two lists
map-append : {A B : Type 0} (f : A → B) (xs ys : List A) → map f (xs ++ ys) ≡ map f xs ++ map f ys
map-append f [] ys = refl
map-append f (x ∷ xs) ys = ap (λ zs. f x ∷ zs) (map-append f xs ys)

-- the paths of members, by those of the same members in a Phase
pub paths_from : (kind : Kind) (k : ℕ) (ts : Trees) → paths_of_all kind k ts ≡ map (λ p. from kind p) (paths_of_all Phase k ts)
paths_from kind k none = refl
paths_from kind k (more t ts) =
    ap₂ (λ ps qs. ps ++ qs) (sym (map-map (λ p. from kind p) (λ p. step Phase k ∷ p) (paths_of t))) (paths_from kind (k + 1) ts)
    ∙ sym (map-append (λ p. from kind p) (map (λ p. step Phase k ∷ p) (paths_of t)) (paths_of_all Phase (k + 1) ts))

-- with the paths of a member
in_phase-append : (k : ℕ) (ps qs : List (List Step)) → AreInPhase qs → AreInPhase (map (λ p. step Phase k ∷ p) ps ++ qs)
in_phase-append k [] qs h = h
in_phase-append k (p ∷ ps) qs h = (refl, in_phase-append k ps qs h)

-- the paths of a Phase begin in it
pub in_phase : (k : ℕ) (ts : Trees) → AreInPhase (paths_of_all Phase k ts)
in_phase k none = tt
in_phase k (more t ts) = in_phase-append k (paths_of t) (paths_of_all Phase (k + 1) ts) (in_phase (k + 1) ts)

-- outside a Sequence the order is the same in each kind of group
row_from : (kind : Kind) (s : Step) (p : List Step) (c : ℕ) (qs : List (List Step)) (cells : List ℕ) → is_sequence kind ≡ false → s.kind ≡ Phase →
    list_all (λ y. keeps_order (step kind s.place ∷ p, c) y) (zip (map (λ q. from kind q) qs) cells)
    ≡ list_all (λ y. keeps_order (s ∷ p, c) y) (zip qs cells)
row_from kind s p c [] cells free h = refl
row_from kind s p c (q ∷ qs) [] free h = refl
row_from kind s p c ([] ∷ qs) (d ∷ ds) free h = row_from kind s p c qs ds free h
row_from kind s p c ((t ∷ q) ∷ qs) (d ∷ ds) free h =
    let one : keeps_order (step kind s.place ∷ p, c) (step kind t.place ∷ q, d) ≡ keeps_order (s ∷ p, c) (t ∷ q, d) = rw (free, h) refl in
    ap₂ (λ a b. a && b) one (row_from kind s p c qs ds free h)

-- of two blocks
cross_from : (kind : Kind) (ps qs : List (List Step)) (xs ys : List ℕ) → is_sequence kind ≡ false → AreInPhase ps →
    cross (zip (map (λ p. from kind p) ps) xs) (zip (map (λ q. from kind q) qs) ys) ≡ cross (zip ps xs) (zip qs ys)
cross_from kind [] qs xs ys free h = refl
cross_from kind (p ∷ ps) qs [] ys free h = refl
cross_from kind ([] ∷ ps) qs (x ∷ xs) ys free h = absurd h
cross_from kind ((s ∷ p) ∷ ps) qs (x ∷ xs) ys free h = ap₂ (λ a b. a && b) (row_from kind s p x qs ys free h.0) (cross_from kind ps qs xs ys free h.1)

-- an After group begins anywhere
begins_after : (a : ℕ) (ps : List (List Step)) (xs : List ℕ) → AreInPhase ps → begins a (zip (map (λ p. from After p) ps) xs) ≡ true
begins_after a [] xs h = refl
begins_after a (p ∷ ps) [] h = refl
begins_after a ([] ∷ ps) (x ∷ xs) h = absurd h
begins_after a ((s ∷ q) ∷ ps) (x ∷ xs) h = begins_after a ps xs h.1

-- a reach and two cells
reach_moved : (q : Bool) (a c x : ℕ) → (if q then max a c else max (max a c) x) ≡ max a (if q then c else max c x)
reach_moved true a c x = refl
reach_moved false a c x = omega arith

-- and reaches what its Phase reaches by itself, but no less than a
reaches_after : (a c : ℕ) (ps : List (List Step)) (xs : List ℕ) → AreInPhase ps →
    reaches (max a c) (zip (map (λ p. from After p) ps) xs) ≡ max a (reaches c (zip ps xs))
reaches_after a c [] xs h = refl
reaches_after a c (p ∷ ps) [] h = refl
reaches_after a c ([] ∷ ps) (x ∷ xs) h = absurd h
reaches_after a c ((s ∷ q) ∷ ps) (x ∷ xs) h =
    rw h.0 (ap (λ n. reaches n (zip (map (λ p. from After p) ps) xs)) (reach_moved (passes_before q) a c x)
    ∙ reaches_after a (if passes_before q then c else max c x) ps xs h.1)

-- a Before group begins as its Phase
begins_before : (a : ℕ) (ps : List (List Step)) (xs : List ℕ) → AreInPhase ps → begins a (zip (map (λ p. from Before p) ps) xs) ≡ begins a (zip ps xs)
begins_before a [] xs h = refl
begins_before a (p ∷ ps) [] h = refl
begins_before a ([] ∷ ps) (x ∷ xs) h = absurd h
begins_before a ((s ∷ q) ∷ ps) (x ∷ xs) h = rw h.0 (ap (λ t. (passes_after q || leb a x) && t) (begins_before a ps xs h.1))

-- and reaches nothing
reaches_before : (a : ℕ) (ps : List (List Step)) (xs : List ℕ) → AreInPhase ps → reaches a (zip (map (λ p. from Before p) ps) xs) ≡ a
reaches_before a [] xs h = refl
reaches_before a (p ∷ ps) [] h = refl
reaches_before a ([] ∷ ps) (x ∷ xs) h = absurd h
reaches_before a ((s ∷ q) ∷ ps) (x ∷ xs) h = reaches_before a ps xs h.1

-- all begins at the oldest cell
pub begins-zero : (placed : Placed) → begins 0 placed ≡ true
begins-zero [] = refl
begins-zero (x ∷ xs) = rw (le-leb 0 x.1 (omega arith), or_true (passes_after x.0)) (begins-zero xs)

-- An After group has the sums of its Phase from the oldest cell.
pub part_after : (scene : Scene) (weight : List ℕ → ℕ) (ps : List (List Step)) (ds : List Dating) (a b : ℕ) → AreInPhase ps → a ≤ b →
    up_to scene weight (map (λ p. from After p) ps) ds a b ≡ up_to scene weight ps ds 0 b
part_after scene weight ps ds a b h l =
    let g = scene.grid.cells in
    let qs : List (List Step) = map (λ p. from After p) ps in
    let w : List ℕ → ℕ = λ cells. cond (starts scene qs ds a cells && leb (reaches a (zip qs cells)) b) (weight cells) 0 in
    let same : max a 0 ≡ a = omega arith in
    ap (λ k. sum_over g k w) (length-map ps (λ p. from After p))
    ∙ sum_over-same g (length ps) w (λ cells. cond (starts scene ps ds 0 cells && leb (reaches 0 (zip ps cells)) b) (weight cells) 0)
    (λ cells m all.
    let reach : reaches a (zip qs cells) ≡ max a (reaches 0 (zip ps cells)) =
    ap (λ n. reaches n (zip qs cells)) (sym same) ∙ reaches_after a 0 ps cells h in
    rw (cross_from After ps ps cells cells refl h, begins_after a ps cells h, reach, leb-max_left, le-leb a b l, begins-zero (zip ps cells)) refl)

-- A Before group has, wherever it is to reach, the sum of its Phase up to the youngest cell.
pub part_before : (scene : Scene) (weight : List ℕ → ℕ) (ps : List (List Step)) (ds : List Dating) (a b : ℕ) → AreInPhase ps → a ≤ b →
    a < scene.grid.cells →
    up_to scene weight (map (λ p. from Before p) ps) ds a b ≡ up_to scene weight ps ds a (scene.grid.cells - 1)
part_before scene weight ps ds a b h l within =
    let g = scene.grid.cells in
    let qs : List (List Step) = map (λ p. from Before p) ps in
    let w : List ℕ → ℕ = λ cells. cond (starts scene qs ds a cells && leb (reaches a (zip qs cells)) b) (weight cells) 0 in
    ap (λ k. sum_over g k w) (length-map ps (λ p. from Before p))
    ∙ sum_over-same g (length ps) w (λ cells. cond (starts scene ps ds a cells && leb (reaches a (zip ps cells)) (g - 1)) (weight cells) 0)
    (λ cells m all.
    let inside : reaches a (zip ps cells) < g = reaches-within g a ps cells all within in
    rw (
      cross_from Before ps ps cells cells refl h,
      begins_before a ps cells h,
      reaches_before a ps cells h,
      le-leb a b l,
      le-leb (reaches a (zip ps cells)) (g - 1) (omega arith),
    ) refl)
