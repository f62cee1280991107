-- A member of a Sequence and the later members: the sums of both.
use Rattle.std.proofs.Common.{◌≡◌, ℕ, ◌<◌, ◌≤◌, ◌+◌, ◌*◌, Bool, true, false, cond, ◌&&◌, ◌||◌, leb, eqb, List, ◌∷◌, ◌++◌, map, length, refl, sym, ap, ◌∙◌, arith, length-append}
use Rattle.std.proofs.lemmas.List.{length-map}
use Rattle.std.proofs.lemmas.List.Folds.{list_all-append}
use Rattle.std.specs.List.{zip}
use Rattle.cg_meaning.specs.Tree.{Sequence, Step, Dating}
use Rattle.cg_meaning.specs.Order.{passes_after}
use Rattle.cg_meaning.specs.Scene.{Scene, is_dated}
use Rattle.cg_meaning.specs.Sums.{sum_below, sum_over}
use Rattle.cg_meaning.proofs.Sums.{sum_below-same, sum_below-zero, sum_over-same, sum_over-append, sum_over-below_swap, sum_over-times}
use Rattle.cg_meaning.proofs.Marginals.{sum_below-pick}
use Rattle.cg_meaning.proofs.Pin.{cond-times}
use Rattle.cg_part.specs.Part.{begins, reaches}
use Rattle.cg_part.specs.Tables.{sum_from}
use Rattle.cg_part.proofs.Ranges.{sum_below-range}
use Rattle.cg_part.proofs.Blocks.{cross, step, under, clears, and_false, and_true, ordered-append, cross-under, cross-back, cross-ahead, begins-reaches, begins-under, reaches-append, reaches-under}
use Rattle.cg_part.proofs.Parts.{starts, at, up_to, LeadBeyond, beyond, zip_under, dated_append, reaches-within, at-low, up_to-low}

-- the tests of a member of a Sequence and of later members, sorted by block
sorted : (o1 cl o2 d1 d2 ba by r : Bool) →
    (((((o1 && cl) && (true && o2)) && (d1 && d2)) && (ba && by)) && r) ≡ (((o1 && d1) && ba) && (((o2 && d2) && (by && cl)) && r))
sorted false cl o2 d1 d2 ba by r = refl
sorted true false o2 d1 d2 ba by r = rw (and_false by, and_false (o2 && d2), and_false (d1 && ba)) refl
sorted true true false d1 d2 ba by r = rw (and_false (d1 && ba)) refl
sorted true true true false d2 ba by r = refl
sorted true true true true false ba by r = rw (and_false ba) refl
sorted true true true true true false by r = refl
sorted true true true true true true by r = rw and_true refl

-- In a Sequence both blocks suit where the second begins at what the first reaches.
starts_then : (scene : Scene) (k a : ℕ) (test : ℕ → Bool) (ps qs : List (List Step)) (ds es : List Dating) (xs ys : List ℕ) →
    length xs ≡ length ps → length xs ≡ length ds → LeadBeyond Sequence k qs →
    (starts scene (map (λ p. step Sequence k ∷ p) ps ++ qs) (ds ++ es) a (xs ++ ys)
    && test (reaches a (zip (map (λ p. step Sequence k ∷ p) ps ++ qs) (xs ++ ys))))
    ≡ (starts scene ps ds a xs && (starts scene qs es (reaches a (zip ps xs)) ys && test (reaches (reaches a (zip ps xs)) (zip qs ys))))
starts_then scene k a test ps qs ds es xs ys l m h =
    let s = step Sequence k in
    let grid = scene.grid in
    let X = zip ps xs in
    let Y = zip qs ys in
    rw (zip_under s ps qs xs ys l) (
    rw (ordered-append (under s X) Y) (
    rw (cross-under s X X) (
    rw (cross-ahead k X Y (beyond Sequence k qs ys h)) (
    rw (cross-back Sequence k X Y (beyond Sequence k qs ys h)) (
    rw (dated_append grid ds es xs ys m) (
    rw (list_all-append (λ x. passes_after x.0 || leb a x.1) (under s X) Y) (
    rw (begins-under s a X refl) (
    rw (reaches-append a (under s X) Y) (
    rw (reaches-under s a X refl)
    (sorted (cross X X) (clears X Y) (cross Y Y) (is_dated grid ds xs) (is_dated grid es ys) (begins a X) (begins a Y)
    (test (reaches (reaches a X) Y))
    ∙ ap (λ t. ((cross X X && is_dated grid ds xs) && begins a X) && (((cross Y Y && is_dated grid es ys) && t) && test (reaches (reaches a X) Y)))
    (begins-reaches a X Y)))))))))))

-- a weight under a condition, in two factors
factored : (b : Bool) (p q v : ℕ) → v ≡ p * q → cond b v 0 ≡ p * cond b q 0
factored true p q v e = e
factored false p q v e = omega arith

-- one reach of the first block carries a whole product
by_reach : (g c p v : ℕ) (st : Bool) (f : ℕ → Bool) (q : ℕ → ℕ) → c < g → (st ≡ true → v ≡ p * q c) →
    cond (st && f c) v 0 ≡ sum_below g (λ i. cond (st && eqb c i) p 0 * cond (f i) (q i) 0)
by_reach g c p v false f q h e = sym (sum_below-zero g (λ i. 0 * cond (f i) (q i) 0) (λ i l. omega arith))
by_reach g c p v true f q h e =
    factored (f c) p (q c) v (e refl) ∙ sym (sum_below-pick g c (λ i. p * cond (f i) (q i) 0) h)
    ∙ sum_below-same g (λ i. cond (eqb c i) (p * cond (f i) (q i) 0) 0) (λ i. cond (eqb c i) p 0 * cond (f i) (q i) 0)
    (λ i l. sym (cond-times (eqb c i) p (cond (f i) (q i) 0)))

-- sums over two lists, of the products with a sum over cells
over_two : (g m n : ℕ) (u v : ℕ → List ℕ → ℕ) →
    sum_over g m (λ xs. sum_over g n (λ ys. sum_below g (λ c. u c xs * v c ys))) ≡ sum_below g (λ c. sum_over g m (u c) * sum_over g n (v c))
over_two g m n u v =
    sum_over-same g m (λ xs. sum_over g n (λ ys. sum_below g (λ c. u c xs * v c ys))) (λ xs. sum_below g (λ c. sum_over g n (λ ys. u c xs * v c ys)))
    (λ xs l all. sum_over-below_swap g n g (λ ys c. u c xs * v c ys))
    ∙ sum_over-below_swap g m g (λ xs c. sum_over g n (λ ys. u c xs * v c ys))
    ∙ sum_below-same g (λ c. sum_over g m (λ xs. sum_over g n (λ ys. u c xs * v c ys))) (λ c. sum_over g m (u c) * sum_over g n (v c))
    (λ c h. sym (sum_over-times g m n (u c) (v c)))

-- A member of a Sequence and the later members: the first reaches a cell, and the others begin there. The weight of
-- the others may depend on that cell.
pub part_then : (scene : Scene) (k a b : ℕ) (ps qs : List (List Step)) (ds es : List Dating) (whole first : List ℕ → ℕ) (second : ℕ → List ℕ → ℕ) →
    length ds ≡ length ps → LeadBeyond Sequence k qs → a ≤ b → b < scene.grid.cells →
    ((xs ys : List ℕ) → length xs ≡ length ps → length ys ≡ length qs → starts scene ps ds a xs ≡ true →
    whole (xs ++ ys) ≡ first xs * second (reaches a (zip ps xs)) ys) →
    up_to scene whole (map (λ p. step Sequence k ∷ p) ps ++ qs) (ds ++ es) a b
    ≡ sum_from a b (λ c. at scene first ps ds a c * up_to scene (second c) qs es c b)
part_then scene k a b ps qs ds es whole first second l h ordered within weigh =
    let g = scene.grid.cells in
    let all : List (List Step) = map (λ p. step Sequence k ∷ p) ps ++ qs in
    let w : List ℕ → ℕ = λ cells. cond (starts scene all (ds ++ es) a cells && leb (reaches a (zip all cells)) b) (whole cells) 0 in
    let u : ℕ → List ℕ → ℕ = λ c xs. cond (starts scene ps ds a xs && eqb (reaches a (zip ps xs)) c) (first xs) 0 in
    let v : ℕ → List ℕ → ℕ = λ c ys. cond (starts scene qs es c ys && leb (reaches c (zip qs ys)) b) (second c ys) 0 in
    let size : length all ≡ length ps + length qs = rw (length-append, length-map) refl in
    ap (λ i. sum_over g i w) size
    ∙ sum_over-append g (length ps) (length qs) w
    ∙ sum_over-same g (length ps) (λ xs. sum_over g (length qs) (λ ys. w (xs ++ ys)))
    (λ xs. sum_over g (length qs) (λ ys. sum_below g (λ c. u c xs * v c ys)))
    (λ xs lx ax.
    sum_over-same g (length qs) (λ ys. w (xs ++ ys)) (λ ys. sum_below g (λ c. u c xs * v c ys))
    (λ ys ly ay.
    ap (λ t. cond t (whole (xs ++ ys)) 0) (starts_then scene k a (λ c. leb c b) ps qs ds es xs ys lx (omega arith) h)
    ∙ by_reach g (reaches a (zip ps xs)) (first xs) (whole (xs ++ ys)) (starts scene ps ds a xs)
    (λ c. starts scene qs es c ys && leb (reaches c (zip qs ys)) b) (λ c. second c ys) (reaches-within g a ps xs ax (omega arith))
    (weigh xs ys lx ly)))
    ∙ over_two g (length ps) (length qs) u v
    ∙ sum_below-range g a b (λ c. sum_over g (length ps) (u c) * sum_over g (length qs) (v c)) within
    (λ c m. ap (λ x. x * sum_over g (length qs) (v c)) (at-low scene first ps ds a c m) ∙ omega arith)
    (λ c m. ap (λ x. sum_over g (length ps) (u c) * x) (up_to-low scene (second c) qs es c b m) ∙ omega arith)
