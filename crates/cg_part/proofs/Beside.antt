-- A member of a Phase and the later members: the sums of both.
use Rattle.std.proofs.Common.{◌≡◌, ℕ, ◌+◌, ◌*◌, max, Bool, true, false, cond, ◌&&◌, ◌||◌, inl, inr, leb, le-leb, List, ◌∷◌, ◌++◌, map, length, refl, sym, ap, ap₂, ◌∙◌, arith, length-append}
use Rattle.std.proofs.lemmas.List.{length-map}
use Rattle.std.proofs.lemmas.List.Folds.{list_all-append}
use Rattle.std.proofs.lemmas.Bool.{cases_lt, lt-leb}
use Rattle.std.specs.List.{zip}
use Rattle.cg_meaning.specs.Tree.{Kind, Step, Dating}
use Rattle.cg_meaning.specs.Order.{is_sequence, is_before, is_after, passes_after}
use Rattle.cg_meaning.specs.Scene.{Scene, is_dated}
use Rattle.cg_meaning.specs.Sums.{sum_over}
use Rattle.cg_meaning.proofs.Sums.{sum_over-same, sum_over-append, sum_over-times}
use Rattle.cg_meaning.proofs.Pin.{times-cond}
use Rattle.cg_part.specs.Part.{begins, reaches}
use Rattle.cg_part.proofs.Blocks.{cross, step, under, and_false, ordered-append, cross-under, cross-back, cross-free, begins-under, reaches-append, reaches-under, reaches-both}
use Rattle.cg_part.proofs.Parts.{starts, up_to, LeadBeyond, beyond, zip_under, dated_append}

-- the tests of a member of a Phase and of later members, sorted by block
sorted_free : (o1 o2 d1 d2 ba by r1 r2 : Bool) →
    (((((o1 && true) && (true && o2)) && (d1 && d2)) && (ba && by)) && (r1 && r2)) ≡ ((((o1 && d1) && ba) && r1) && (((o2 && d2) && by) && r2))
sorted_free false o2 d1 d2 ba by r1 r2 = refl
sorted_free true false d1 d2 ba by r1 r2 = rw and_false refl
sorted_free true true false d2 ba by r1 r2 = refl
sorted_free true true true false ba by r1 r2 = rw and_false refl
sorted_free true true true true false by r1 r2 = refl
sorted_free true true true true true false r1 r2 = rw and_false refl
sorted_free true true true true true true r1 r2 = refl

-- both are no later than b
pub leb-max_left : (r s b : ℕ) → leb (max r s) b ≡ (leb r b && leb s b)
leb-max_left r s b =
    elim (cases_lt b r) as (λ w. leb (max r s) b ≡ (leb r b && leb s b)) [
      | inl h ↦ rw (lt-leb r b h, lt-leb (max r s) b (omega arith)) refl
      | inr h ↦ elim (cases_lt b s) as (λ w. leb (max r s) b ≡ (leb r b && leb s b)) [
        | inl k ↦ rw (le-leb r b h, lt-leb s b k, lt-leb (max r s) b (omega arith)) refl
        | inr k ↦ rw (le-leb r b h, le-leb s b k, le-leb (max r s) b (omega arith)) refl
      ]
    ]

-- Outside a Sequence both blocks suit by themselves.
starts_beside : (scene : Scene) (kind : Kind) (k a b : ℕ) (ps qs : List (List Step)) (ds es : List Dating) (xs ys : List ℕ) →
    is_sequence kind ≡ false → is_after kind ≡ false → is_before kind ≡ false →
    length xs ≡ length ps → length xs ≡ length ds → LeadBeyond kind k qs →
    (starts scene (map (λ p. step kind k ∷ p) ps ++ qs) (ds ++ es) a (xs ++ ys)
    && leb (reaches a (zip (map (λ p. step kind k ∷ p) ps ++ qs) (xs ++ ys))) b)
    ≡ ((starts scene ps ds a xs && leb (reaches a (zip ps xs)) b) && (starts scene qs es a ys && leb (reaches a (zip qs ys)) b))
starts_beside scene kind k a b ps qs ds es xs ys free no_after no_before l m h =
    let s = step kind k in
    let grid = scene.grid in
    let X = zip ps xs in
    let Y = zip qs ys in
    rw (zip_under s ps qs xs ys l) (
    rw (ordered-append (under s X) Y) (
    rw (cross-under s X X) (
    rw (cross-free kind k X Y free (beyond kind k qs ys h)) (
    rw (cross-back kind k X Y (beyond kind k qs ys h)) (
    rw (dated_append grid ds es xs ys m) (
    rw (list_all-append (λ x. passes_after x.0 || leb a x.1) (under s X) Y) (
    rw (begins-under s a X no_after) (
    rw (reaches-append a (under s X) Y) (
    rw (reaches-under s a X no_before) (
    rw (reaches-both a X Y) (
    rw (leb-max_left (reaches a X) (reaches a Y) b)
    (sorted_free (cross X X) (cross Y Y) (is_dated grid ds xs) (is_dated grid es ys) (begins a X) (begins a Y) (leb (reaches a X) b)
    (leb (reaches a Y) b)))))))))))))

-- a product of two terms under their conditions
both : (s t : Bool) (x y : ℕ) → cond (s && t) (x * y) 0 ≡ cond s x 0 * cond t y 0
both true t x y = sym (times-cond t x y)
both false t x y = omega arith

-- A member of a Phase and the later members: up to a cell their sums are multiplied.
pub part_beside : (scene : Scene) (kind : Kind) (k a b : ℕ) (ps qs : List (List Step)) (ds es : List Dating) (whole first second : List ℕ → ℕ) →
    is_sequence kind ≡ false → is_after kind ≡ false → is_before kind ≡ false →
    length ds ≡ length ps → LeadBeyond kind k qs →
    ((xs ys : List ℕ) → length xs ≡ length ps → length ys ≡ length qs → whole (xs ++ ys) ≡ first xs * second ys) →
    up_to scene whole (map (λ p. step kind k ∷ p) ps ++ qs) (ds ++ es) a b ≡ up_to scene first ps ds a b * up_to scene second qs es a b
part_beside scene kind k a b ps qs ds es whole first second free no_after no_before l h weigh =
    let g = scene.grid.cells in
    let all : List (List Step) = map (λ p. step kind k ∷ p) ps ++ qs in
    let w : List ℕ → ℕ = λ cells. cond (starts scene all (ds ++ es) a cells && leb (reaches a (zip all cells)) b) (whole cells) 0 in
    let u : List ℕ → ℕ = λ xs. cond (starts scene ps ds a xs && leb (reaches a (zip ps xs)) b) (first xs) 0 in
    let v : List ℕ → ℕ = λ ys. cond (starts scene qs es a ys && leb (reaches a (zip qs ys)) b) (second ys) 0 in
    let size : length all ≡ length ps + length qs = rw (length-append, length-map) refl in
    ap (λ i. sum_over g i w) size
    ∙ sum_over-append g (length ps) (length qs) w
    ∙ sum_over-same g (length ps) (λ xs. sum_over g (length qs) (λ ys. w (xs ++ ys))) (λ xs. sum_over g (length qs) (λ ys. u xs * v ys))
    (λ xs lx ax.
    sum_over-same g (length qs) (λ ys. w (xs ++ ys)) (λ ys. u xs * v ys)
    (λ ys ly ay.
    ap₂ (λ t x. cond t x 0) (starts_beside scene kind k a b ps qs ds es xs ys free no_after no_before lx (omega arith) h) (weigh xs ys lx ly)
    ∙ both (starts scene ps ds a xs && leb (reaches a (zip ps xs)) b) (starts scene qs es a ys && leb (reaches a (zip qs ys)) b) (first xs)
    (second ys)))
    ∙ sym (sum_over-times g (length ps) (length qs) u v)
