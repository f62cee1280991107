-- The weights of a dating's events and spans, by the members of a group.
use Rattle.std.proofs.Common.{◌≡◌, ℕ, suc, ◌+◌, ◌*◌, ◌^◌, Bool, true, false, List, [], ◌∷◌, ◌++◌, length, take, drop, refl, sym, ap, ap₂, ◌∙◌, arith, Option, Some, None, add-zero}
use Rattle.std.proofs.Math.Nat.{mul_comm, mul_assoc, mul-mul-mul_comm}
use Rattle.std.proofs.Math.Seq.{take-append_seam, drop-append_seam}
use Rattle.std.proofs.lemmas.Nat.{pow-add}
use Rattle.std.proofs.lemmas.Bool.{false≢true}
use Rattle.cg_meaning.specs.Tree.{Tree, Trees, Leaf, Boundary, Group, none, more, count, count_all}
use Rattle.cg_meaning.specs.Scene.{Scene}
use Rattle.cg_meaning.specs.Weights.{Weighting}
use Rattle.cg_meaning.specs.Sums.{product_from}
use Rattle.cg_meaning.specs.Pairs.{pair_of, span_weight}
use Rattle.cg_part.proofs.CellPairs.{boundary_at, pairs_at, pairs_at_all, pairs_at_sequence}
use Rattle.cg_part.specs.Elements.{element_of, open_events}
use Rattle.cg_part.proofs.Items.{has_boundary}
use Rattle.cg_part.proofs.Open.{spans, spans-append, spans-open}

-- the weight of a node's own events, which are numbered from here
abbrev pub node_weight : Scene → Weighting → ℕ → Tree → List ℕ → ℕ
node_weight scene w n t cells = product_from n w cells * spans scene.grid.cells (pairs_at None t cells)

-- that of members of a Phase
abbrev pub beside_weight : Scene → Weighting → ℕ → Trees → List ℕ → ℕ
beside_weight scene w n ts cells = product_from n w cells * spans scene.grid.cells (pairs_at_all None ts cells)

-- that of members of a Sequence, with the nearest Boundary before them
abbrev pub ordered_weight : Scene → Weighting → ℕ → Option ℕ → Trees → List ℕ → ℕ
ordered_weight scene w n before ts cells = product_from n w cells * spans scene.grid.cells (pairs_at_sequence None before ts cells)

-- the weight of so many open events between the Boundary at c and the next one
abbrev pub closing : Scene → ℕ → ℕ → Option ℕ → ℕ
closing scene opened c next = span_weight scene.grid.cells (pair_of (Some c) next None) ^ opened

-- that of members behind a Boundary at c, and of so many open events before them in the same segment
abbrev pub segment_weight : Scene → Weighting → ℕ → ℕ → ℕ → Trees → List ℕ → ℕ
segment_weight scene w n opened c ts cells = ordered_weight scene w n (Some c) ts cells * closing scene opened c (boundary_at ts cells)

-- the weights of two blocks
product-append : (w : Weighting) (k : ℕ) (xs ys : List ℕ) →
    product_from k w (xs ++ ys) ≡ product_from k w xs * product_from (k + length xs) w ys
product-append w k [] ys = omega (arith, ap (λ j. product_from j w ys) (sym (add-zero k)))
product-append w k (x ∷ xs) ys =
    let next : k + 1 + length xs ≡ k + suc (length xs) = omega arith in
    ap (λ a. w k x * a) (product-append w (k + 1) xs ys)
    ∙ sym (mul_assoc (w k x) (product_from (k + 1) w xs) (product_from (k + 1 + length xs) w ys))
    ∙ ap (λ j. w k x * product_from (k + 1) w xs * product_from j w ys) next

-- the first n of both, and the rest
taken : (n : ℕ) (xs ys : List ℕ) → length xs ≡ n → take n (xs ++ ys) ≡ xs
taken n xs ys l = ap (λ k. take k (xs ++ ys)) (sym l) ∙ take-append_seam xs ys

dropped : (n : ℕ) (xs ys : List ℕ) → length xs ≡ n → drop n (xs ++ ys) ≡ ys
dropped n xs ys l = ap (λ k. drop k (xs ++ ys)) (sym l) ∙ drop-append_seam xs ys

-- two blocks, each with its spans
two_blocks : (scene : Scene) (w : Weighting) (n k : ℕ) (xs ys : List ℕ) (ps qs : List (Option (ℕ × ℕ))) → length xs ≡ k →
    product_from n w (xs ++ ys) * spans scene.grid.cells (ps ++ qs)
    ≡ (product_from n w xs * spans scene.grid.cells ps) * (product_from (n + k) w ys * spans scene.grid.cells qs)
two_blocks scene w n k xs ys ps qs l =
    let g = scene.grid.cells in
    ap₂ (λ x y. x * y) (product-append w n xs ys ∙ ap (λ i. product_from n w xs * product_from (n + i) w ys) l) (spans-append g ps qs)
    ∙ mul-mul-mul_comm (product_from n w xs) (product_from (n + k) w ys) (spans g ps) (spans g qs)

-- A member of a Phase and the later members.
pub beside-split : (scene : Scene) (w : Weighting) (n : ℕ) (t : Tree) (ts : Trees) (xs ys : List ℕ) → length xs ≡ count t →
    beside_weight scene w n (more t ts) (xs ++ ys) ≡ node_weight scene w n t xs * beside_weight scene w (n + count t) ts ys
beside-split scene w n t ts xs ys l =
    rw (taken (count t) xs ys l, dropped (count t) xs ys l)
    (two_blocks scene w n (count t) xs ys (pairs_at None t xs) (pairs_at_all None ts ys) l)

-- whether a member is a Boundary
abbrev pub is_boundary : Tree → Bool
is_boundary (Leaf name d) = false
is_boundary (Boundary name) = true
is_boundary (Group kind name ts) = false

-- the pairs of a member of a Sequence that is no Boundary, and of the later members
member_pairs : (before : Option ℕ) (t : Tree) (ts : Trees) (xs ys : List ℕ) → is_boundary t ≡ false → length xs ≡ count t →
    pairs_at_sequence None before (more t ts) (xs ++ ys)
    ≡ pairs_at (pair_of before (boundary_at ts ys) None) t xs ++ pairs_at_sequence None before ts ys
member_pairs before (Leaf name d) ts xs ys m l = rw (dropped 1 xs ys l) refl
member_pairs before (Boundary name) ts xs ys m l = absurd (false≢true (sym m))
member_pairs before (Group kind name us) ts xs ys m l = rw (taken (count_all us) xs ys l, dropped (count_all us) xs ys l) refl

-- the next Boundary stands among the later members
next_boundary : (t : Tree) (ts : Trees) (xs ys : List ℕ) → is_boundary t ≡ false → length xs ≡ count t →
    boundary_at (more t ts) (xs ++ ys) ≡ boundary_at ts ys
next_boundary (Leaf name d) ts xs ys m l = ap (λ cells. boundary_at ts cells) (dropped 1 xs ys l)
next_boundary (Boundary name) ts xs ys m l = absurd (false≢true (sym m))
next_boundary (Group kind name us) ts xs ys m l = ap (λ cells. boundary_at ts cells) (dropped (count_all us) xs ys l)

-- A member of a Sequence before its first Boundary, and the later members.
pub ordered-split : (scene : Scene) (w : Weighting) (n : ℕ) (t : Tree) (ts : Trees) (xs ys : List ℕ) → is_boundary t ≡ false → length xs ≡ count t →
    ordered_weight scene w n None (more t ts) (xs ++ ys) ≡ node_weight scene w n t xs * ordered_weight scene w (n + count t) None ts ys
ordered-split scene w n t ts xs ys m l =
    ap (λ ps. product_from n w (xs ++ ys) * spans scene.grid.cells ps) (member_pairs None t ts xs ys m l)
    ∙ two_blocks scene w n (count t) xs ys (pairs_at None t xs) (pairs_at_sequence None None ts ys) l

-- the open events of two blocks with their factors
gathered : (p o a r b : ℕ) → ((p * (o * a)) * r) * b ≡ (p * o) * (r * (b * a))
gathered p o a r b =
    ap (λ x. (x * r) * b) (sym (mul_assoc p o a)) ∙ ap (λ x. x * b) (mul_assoc (p * o) a r) ∙ mul_assoc (p * o) (a * r) b
    ∙ ap (λ x. (p * o) * x) (ap (λ x. x * b) (mul_comm a r) ∙ mul_assoc r a b ∙ ap (λ x. r * x) (mul_comm a b))

-- A member of a segment, and the later members: its open events join those before.
pub segment-split : (scene : Scene) (w : Weighting) (n opened c : ℕ) (t : Tree) (ts : Trees) (xs ys : List ℕ) → is_boundary t ≡ false →
    length xs ≡ count t →
    segment_weight scene w n opened c (more t ts) (xs ++ ys)
    ≡ node_weight scene w n t xs * segment_weight scene w (n + count t) (opened + open_events (element_of n t)) c ts ys
segment-split scene w n opened c t ts xs ys m l =
    let g = scene.grid.cells in
    let pair = pair_of (Some c) (boundary_at ts ys) None in
    let f = span_weight g pair in
    let rest = ordered_weight scene w (n + count t) (Some c) ts ys in
    let own = open_events (element_of n t) in
    ap₂ (λ ps next. product_from n w (xs ++ ys) * spans g ps * closing scene opened c next) (member_pairs (Some c) t ts xs ys m l)
    (next_boundary t ts xs ys m l)
    ∙ ap (λ x. x * f ^ opened) (two_blocks scene w n (count t) xs ys (pairs_at pair t xs) (pairs_at_sequence None (Some c) ts ys) l)
    ∙ ap (λ x. product_from n w xs * x * rest * f ^ opened) (spans-open g pair n t xs l)
    ∙ gathered (product_from n w xs) (spans g (pairs_at None t xs)) (f ^ own) rest (f ^ opened)
    ∙ ap (λ x. node_weight scene w n t xs * (rest * x)) (sym (pow-add f opened own))

-- A Boundary, and the members behind it.
pub boundary-split : (scene : Scene) (w : Weighting) (n : ℕ) (before : Option ℕ) (name : List ℕ) (ts : Trees) (x : ℕ) (ys : List ℕ) →
    ordered_weight scene w n before (more (Boundary name) ts) (x ∷ ys) ≡ w n x * ordered_weight scene w (n + 1) (Some x) ts ys
boundary-split scene w n before name ts x ys =
    let p = product_from (n + 1) w ys in
    let s = spans scene.grid.cells (pairs_at_sequence None (Some x) ts ys) in
    mul_assoc (w n x) p (1 * s) ∙ ap (λ y. w n x * (p * y)) (omega arith)

-- where no Boundary follows, there is no pair
no_boundary_after : (ts : Trees) (cells : List ℕ) → has_boundary ts ≡ false → boundary_at ts cells ≡ None
no_boundary_after none cells h = refl
no_boundary_after (more (Leaf name d) ts) cells h = no_boundary_after ts (drop 1 cells) h
no_boundary_after (more (Boundary name) ts) cells h = absurd (false≢true (sym h))
no_boundary_after (more (Group kind name us) ts) cells h = no_boundary_after ts (drop (count_all us) cells) h

-- and no weight of a span
no_pair : (c : ℕ) (next : Option ℕ) → next ≡ None → pair_of (Some c) next None ≡ None
no_pair c next h = rw h refl

-- all pairs behind the last Boundary
pairs_behind_last : (c : ℕ) (ts : Trees) (cells : List ℕ) → has_boundary ts ≡ false →
    pairs_at_sequence None (Some c) ts cells ≡ pairs_at_sequence None None ts cells
pairs_behind_last c none cells h = refl
pairs_behind_last c (more (Leaf name d) ts) cells h =
    ap₂ (λ p ps. p ∷ ps) (no_pair c (boundary_at ts (drop 1 cells)) (no_boundary_after ts (drop 1 cells) h))
    (pairs_behind_last c ts (drop 1 cells) h)
pairs_behind_last c (more (Boundary name) ts) cells h = absurd (false≢true (sym h))
pairs_behind_last c (more (Group kind name us) ts) cells h =
    let k = count_all us in
    ap₂ (λ p ps. pairs_at p (Group kind name us) (take k cells) ++ ps)
    (no_pair c (boundary_at ts (drop k cells)) (no_boundary_after ts (drop k cells) h)) (pairs_behind_last c ts (drop k cells) h)

-- Behind the last Boundary the weights are as before the first.
pub last-weight : (scene : Scene) (w : Weighting) (n c : ℕ) (ts : Trees) (cells : List ℕ) → has_boundary ts ≡ false →
    ordered_weight scene w n (Some c) ts cells ≡ ordered_weight scene w n None ts cells
last-weight scene w n c ts cells h = ap (λ ps. product_from n w cells * spans scene.grid.cells ps) (pairs_behind_last c ts cells h)
