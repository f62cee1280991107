-- Two blocks of events of one group, the members of the second later: when both keep the order, and where they reach.
use Rattle.std.proofs.Common.{◌≡◌, ℕ, ◌<◌, ◌≤◌, max, Bool, true, false, not, ◌&&◌, ◌||◌, inl, inr, leb, le-leb, eqb, ltb, ne_eqb, eq-eqb, lt-ltb, le-ltb, List, [], ◌∷◌, ◌++◌, map, refl, sym, ap, ap₂, ◌∙◌, arith, le_trans}
use Rattle.std.proofs.lemmas.Bool.{cases_lt, lt-leb}
use Rattle.std.proofs.Math.Bool.{and_assoc}
use Rattle.std.proofs.lemmas.List.Folds.{list_all-append, list_all-map}
use Rattle.std.specs.List.{list_all}
use Rattle.std.specs.Prelude.{if◌then◌else◌}
use Rattle.cg_meaning.specs.Tree.{Kind, Sequence, Step}
use Rattle.cg_meaning.specs.Order.{keeps_order, passes_before, passes_after, is_sequence, is_before, is_after}
use Rattle.cg_part.specs.Part.{begins, reaches}

-- events, by their paths, with their cells
abbrev pub Placed : Type 0
Placed = List (List Step × ℕ)

-- each event of the first block keeps the order with each of the second
abbrev pub cross : Placed → Placed → Bool
cross xs ys = list_all (λ x. list_all (λ y. keeps_order x y) ys) xs

-- from a group of this kind to its member at this place
abbrev pub step : Kind → ℕ → Step
step kind place = record { kind = kind; place = place }

-- the same events, one group further in
abbrev pub under : Step → Placed → Placed
under s xs = map (λ x. (s ∷ x.0, x.1)) xs

-- the path leads to a later member of a group of this kind
abbrev pub IsBeyond : Kind → ℕ → List Step → Type 0
IsBeyond kind k [] = ⊥
IsBeyond kind k (s ∷ q) = (s.kind ≡ kind) × (k < s.place)

-- and so do those of all these events
abbrev pub AreBeyond : Kind → ℕ → Placed → Type 0
AreBeyond kind k [] = Unit {0}
AreBeyond kind k (y ∷ ys) = IsBeyond kind k y.0 × AreBeyond kind k ys

-- each event of the first block that is not under a Before group is no later than where the second begins
abbrev pub clears : Placed → Placed → Bool
clears xs ys = list_all (λ x. passes_before x.0 || begins x.1 ys) xs

-- false on the right, and true
pub and_false : (b : Bool) → (b && false) ≡ false
and_false true = refl
and_false false = refl

pub and_true : (b : Bool) → (b && true) ≡ b
and_true true = refl
and_true false = refl

pub or_true : (b : Bool) → (b || true) ≡ true
or_true true = refl
or_true false = refl

-- two tests of two blocks, by test or by block
and_turned : (a b c d : Bool) → ((a && b) && (c && d)) ≡ ((a && c) && (b && d))
and_turned false b c d = refl
and_turned true false false d = refl
and_turned true false true d = refl
and_turned true true c d = refl

-- both tests on each
list_all-and : {A : Type 0} (p q : A → Bool) (xs : List A) → list_all (λ x. p x && q x) xs ≡ (list_all p xs && list_all q xs)
list_all-and p q [] = refl
list_all-and p q (x ∷ xs) = ap (λ b. (p x && q x) && b) (list_all-and p q xs) ∙ and_turned (p x) (q x) (list_all p xs) (list_all q xs)

-- equal tests
list_all-same : {A : Type 0} (p q : A → Bool) (xs : List A) → ((x : A) → p x ≡ q x) → list_all p xs ≡ list_all q xs
list_all-same p q [] h = refl
list_all-same p q (x ∷ xs) h = ap₂ (λ a b. a && b) (h x) (list_all-same p q xs h)

-- against two blocks
cross-append : (xs ys zs : Placed) → cross xs (ys ++ zs) ≡ (cross xs ys && cross xs zs)
cross-append xs ys zs =
    list_all-same (λ x. list_all (λ y. keeps_order x y) (ys ++ zs)) (λ x. list_all (λ y. keeps_order x y) ys && list_all (λ y. keeps_order x y) zs) xs
    (λ x. list_all-append (λ y. keeps_order x y) ys zs)
    ∙ list_all-and (λ x. list_all (λ y. keeps_order x y) ys) (λ x. list_all (λ y. keeps_order x y) zs) xs

-- Two blocks keep the order where each does, and each with the other.
pub ordered-append : (xs ys : Placed) → cross (xs ++ ys) (xs ++ ys) ≡ ((cross xs xs && cross xs ys) && (cross ys xs && cross ys ys))
ordered-append xs ys =
    list_all-append (λ x. list_all (λ y. keeps_order x y) (xs ++ ys)) xs ys ∙ ap₂ (λ a b. a && b) (cross-append xs xs ys) (cross-append ys xs ys)

-- within one member the order is the member's own
keeps_under : (s : Step) (x y : List Step × ℕ) → keeps_order (s ∷ x.0, x.1) (s ∷ y.0, y.1) ≡ keeps_order x y
keeps_under s x y = let same : eqb s.place s.place ≡ true = eq-eqb s.place s.place refl in rw same

-- of all its events
pub cross-under : (s : Step) (xs ys : Placed) → cross (under s xs) (under s ys) ≡ cross xs ys
cross-under s xs ys =
    list_all-map (λ x. list_all (λ y. keeps_order x y) (under s ys)) (λ x. (s ∷ x.0, x.1)) xs
    ∙ list_all-same (λ x. list_all (λ y. keeps_order (s ∷ x.0, x.1) y) (under s ys)) (λ x. list_all (λ y. keeps_order x y) ys) xs
    (λ x. list_all-map (λ y. keeps_order (s ∷ x.0, x.1) y) (λ y. (s ∷ y.0, y.1)) ys
    ∙ list_all-same (λ y. keeps_order (s ∷ x.0, x.1) (s ∷ y.0, y.1)) (λ y. keeps_order x y) ys (λ y. keeps_under s x y))

-- an event of a later member never has to be earlier
keeps_back : (kind : Kind) (k c d : ℕ) (p q : List Step) → IsBeyond kind k q → keeps_order (q, d) (step kind k ∷ p, c) ≡ true
keeps_back kind k c d p [] h = absurd h
keeps_back kind k c d p (s ∷ q) h =
    let other : eqb s.place k ≡ false = ne_eqb s.place k (λ same. absurd (omega arith)) in
    let above : ltb s.place k ≡ false = le-ltb s.place k (omega arith) in
    rw (other, above, and_false) refl

-- against each of a member
row_back : (kind : Kind) (k d : ℕ) (q : List Step) (xs : Placed) → IsBeyond kind k q →
    list_all (λ x. keeps_order (q, d) x) (under (step kind k) xs) ≡ true
row_back kind k d q [] h = refl
row_back kind k d q (x ∷ xs) h = rw (keeps_back kind k x.1 d x.0 q h) (row_back kind k d q xs h)

-- Each of later members, against each of a member.
pub cross-back : (kind : Kind) (k : ℕ) (xs ys : Placed) → AreBeyond kind k ys → cross ys (under (step kind k) xs) ≡ true
cross-back kind k xs [] h = refl
cross-back kind k xs (y ∷ ys) h = rw (row_back kind k y.1 y.0 xs h.0) (cross-back kind k xs ys h.1)

-- outside a Sequence nothing is ordered
keeps_free : (kind : Kind) (k c d : ℕ) (p q : List Step) → is_sequence kind ≡ false → IsBeyond kind k q →
    keeps_order (step kind k ∷ p, c) (q, d) ≡ true
keeps_free kind k c d p [] free h = absurd h
keeps_free kind k c d p (s ∷ q) free h =
    let other : eqb k s.place ≡ false = ne_eqb k s.place (λ same. absurd (omega arith)) in
    rw (other, free) refl

-- against each of later members
row_free : (kind : Kind) (k c : ℕ) (p : List Step) (ys : Placed) → is_sequence kind ≡ false → AreBeyond kind k ys →
    list_all (λ y. keeps_order (step kind k ∷ p, c) y) ys ≡ true
row_free kind k c p [] free h = refl
row_free kind k c p (y ∷ ys) free h = rw (keeps_free kind k c y.1 p y.0 free h.0) (row_free kind k c p ys free h.1)

-- Outside a Sequence each of a member, against each of later members.
pub cross-free : (kind : Kind) (k : ℕ) (xs ys : Placed) → is_sequence kind ≡ false → AreBeyond kind k ys →
    cross (under (step kind k) xs) ys ≡ true
cross-free kind k [] ys free h = refl
cross-free kind k (x ∷ xs) ys free h = rw (row_free kind k x.1 x.0 ys free h) (cross-free kind k xs ys free h)

-- the order, by what frees a pair
or_of : (p q l : Bool) → (not (not p && not q) || l) ≡ (p || (q || l))
or_of true q l = refl
or_of false true l = refl
or_of false false l = refl

-- in a Sequence, unless freed, no later than an event of a later member
keeps_ahead : (k c d : ℕ) (p q : List Step) → IsBeyond Sequence k q →
    keeps_order (step Sequence k ∷ p, c) (q, d) ≡ (passes_before p || (passes_after q || leb c d))
keeps_ahead k c d p [] h = absurd h
keeps_ahead k c d p (s ∷ q) h =
    let other : eqb k s.place ≡ false = ne_eqb k s.place (λ same. absurd (omega arith)) in
    let below : ltb k s.place ≡ true = lt-ltb k s.place h.1 in
    rw (other, below, h.0) (or_of (passes_before p) (passes_after q) (leb c d))

-- a common part of two tests
or_and : (p a b : Bool) → ((p || a) && (p || b)) ≡ (p || (a && b))
or_and true a b = refl
or_and false a b = refl

-- against each of later members
row_ahead : (k c : ℕ) (p : List Step) (ys : Placed) → AreBeyond Sequence k ys →
    list_all (λ y. keeps_order (step Sequence k ∷ p, c) y) ys ≡ (passes_before p || begins c ys)
row_ahead k c p [] h = sym (or_true (passes_before p))
row_ahead k c p (y ∷ ys) h =
    ap₂ (λ a b. a && b) (keeps_ahead k c y.1 p y.0 h.0) (row_ahead k c p ys h.1)
    ∙ or_and (passes_before p) (passes_after y.0 || leb c y.1) (begins c ys)

-- In a Sequence each of a member, against each of later members.
pub cross-ahead : (k : ℕ) (xs ys : Placed) → AreBeyond Sequence k ys → cross (under (step Sequence k) xs) ys ≡ clears xs ys
cross-ahead k xs ys h =
    list_all-map (λ x. list_all (λ y. keeps_order x y) ys) (λ x. (step Sequence k ∷ x.0, x.1)) xs
    ∙ list_all-same (λ x. list_all (λ y. keeps_order (step Sequence k ∷ x.0, x.1) y) ys) (λ x. passes_before x.0 || begins x.1 ys) xs
    (λ x. row_ahead k x.1 x.0 ys h)

-- at or after two cells
leb-max : (a b y : ℕ) → (leb a y && leb b y) ≡ leb (max a b) y
leb-max a b y =
    elim (cases_lt y a) as (λ w. (leb a y && leb b y) ≡ leb (max a b) y) [
      | inl h ↦ rw (lt-leb a y h, lt-leb (max a b) y (omega arith)) refl
      | inr h ↦ elim (cases_lt y b) as (λ w. (leb a y && leb b y) ≡ leb (max a b) y) [
        | inl k ↦ rw (le-leb a y h, lt-leb b y k, lt-leb (max a b) y (omega arith)) refl
        | inr k ↦ rw (le-leb a y h, le-leb b y k, le-leb (max a b) y (omega arith)) refl
      ]
    ]

-- for an event that is bound, or not
begins_both : (p a b m : Bool) → (a && b) ≡ m → ((p || a) && (p || b)) ≡ (p || m)
begins_both true a b m h = refl
begins_both false a b m h = h

-- beginning at two cells is beginning at the later
begins-max : (a b : ℕ) (ys : Placed) → (begins a ys && begins b ys) ≡ begins (max a b) ys
begins-max a b ys =
    sym (list_all-and (λ y. passes_after y.0 || leb a y.1) (λ y. passes_after y.0 || leb b y.1) ys)
    ∙ list_all-same (λ y. (passes_after y.0 || leb a y.1) && (passes_after y.0 || leb b y.1)) (λ y. passes_after y.0 || leb (max a b) y.1) ys
    (λ y. begins_both (passes_after y.0) (leb a y.1) (leb b y.1) (leb (max a b) y.1) (leb-max a b y.1))

-- one event of the first block: where the second begins behind it
clears_step : (q : Bool) (a c : ℕ) (ys : Placed) (rest : Bool) →
    (begins a ys && ((q || begins c ys) && rest)) ≡ (begins (if q then a else max a c) ys && rest)
clears_step true a c ys rest = refl
clears_step false a c ys rest = sym (and_assoc (begins a ys) (begins c ys) rest) ∙ ap (λ b. b && rest) (begins-max a c ys)

-- The later members begin where the earlier ones reach.
pub begins-reaches : (a : ℕ) (xs ys : Placed) → (begins a ys && clears xs ys) ≡ begins (reaches a xs) ys
begins-reaches a [] ys = and_true (begins a ys)
begins-reaches a (x ∷ xs) ys =
    clears_step (passes_before x.0) a x.1 ys (clears xs ys) ∙ begins-reaches (if passes_before x.0 then a else max a x.1) xs ys

-- the second block reaches on from where the first does
pub reaches-append : (a : ℕ) (xs ys : Placed) → reaches a (xs ++ ys) ≡ reaches (reaches a xs) ys
reaches-append a [] ys = refl
reaches-append a (x ∷ xs) ys = reaches-append (if passes_before x.0 then a else max a x.1) xs ys

-- a step that is none of a Before group changes no reach
pub reaches-under : (s : Step) (a : ℕ) (xs : Placed) → is_before s.kind ≡ false → reaches a (under s xs) ≡ reaches a xs
reaches-under s a [] h = refl
reaches-under s a (x ∷ xs) h =
    ap (λ b. reaches (if (b || passes_before x.0) then a else max a x.1) (under s xs)) h
    ∙ reaches-under s (if passes_before x.0 then a else max a x.1) xs h

-- and one that is none of an After group no beginning
pub begins-under : (s : Step) (a : ℕ) (xs : Placed) → is_after s.kind ≡ false → begins a (under s xs) ≡ begins a xs
begins-under s a xs h =
    list_all-map (λ x. passes_after x.0 || leb a x.1) (λ x. (s ∷ x.0, x.1)) xs
    ∙ list_all-same (λ x. (is_after s.kind || passes_after x.0) || leb a x.1) (λ x. passes_after x.0 || leb a x.1) xs (λ x. rw h refl)

-- one event more reaches no less
reach_grows : (q : Bool) (a c : ℕ) → a ≤ (if q then a else max a c)
reach_grows true a c = omega arith
reach_grows false a c = omega arith

-- no reach is earlier than the beginning
pub reaches-later : (a : ℕ) (xs : Placed) → a ≤ reaches a xs
reaches-later a [] = omega arith
reaches-later a (x ∷ xs) = le_trans (reach_grows (passes_before x.0) a x.1) (reaches-later (if passes_before x.0 then a else max a x.1) xs)

-- a reach and two cells
reach_turned : (q : Bool) (a c y : ℕ) → (if q then max a c else max (max a c) y) ≡ max (if q then a else max a y) c
reach_turned true a c y = refl
reach_turned false a c y = omega arith

-- beginning later reaches that cell or what is reached anyway
reaches-max : (a c : ℕ) (ys : Placed) → reaches (max a c) ys ≡ max c (reaches a ys)
-- beginning later reaches that cell or what is reached anyway
reaches-max a c [] = omega arith
-- beginning later reaches that cell or what is reached anyway
reaches-max a c (y ∷ ys) =
    ap (λ n. reaches n ys) (reach_turned (passes_before y.0) a c y.1) ∙ reaches-max (if passes_before y.0 then a else max a y.1) c ys

-- side by side the later of two reaches counts
pub reaches-both : (a : ℕ) (xs ys : Placed) → reaches (reaches a xs) ys ≡ max (reaches a xs) (reaches a ys)
reaches-both a xs ys =
    let here : max a (reaches a xs) ≡ reaches a xs = omega (arith, reaches-later a xs) in
    ap (λ n. reaches n ys) (sym here) ∙ reaches-max a (reaches a xs) ys
