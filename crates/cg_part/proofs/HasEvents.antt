-- An element has the events of its node.
use Rattle.std.proofs.Common.{◌≡◌, ℕ, ◌+◌, Bool, false, ◌&&◌, ◌||◌, inl, inr, leb, le-leb, eqb, ne_eqb, eq-eqb, refl, ap, ap₂, ◌∙◌, arith}
use Rattle.std.proofs.Math.Dec.{ltb}
use Rattle.std.proofs.Math.Bool.{or_assoc}
use Rattle.std.proofs.lemmas.Bool.{cases_lt, lt-leb, lt-ltb, le-ltb}
use Rattle.cg_meaning.specs.Tree as tree
use Rattle.cg_meaning.specs.Tree.{Tree, Trees, Sequence, Phase, After, Before, count, count_all}
use Rattle.cg_part.specs.Elements.{Element, Event, Group, Span, Elements, none, more, put_before, element_of, members_of, items_of, items_behind, has, has_among}
use Rattle.cg_part.specs.Laws.{ElementsHaveTheEvents}

-- one of k numbers from n on
abbrev is_within : ℕ → ℕ → ℕ → Bool
is_within event n k = leb n event && ltb event (n + k)

-- of none
within_none : (event n : ℕ) → false ≡ is_within event n 0
within_none event n =
    elim (cases_lt event n) as (λ w. false ≡ is_within event n 0) [
      | inl h ↦ rw (lt-leb n event h) refl
      | inr h ↦ rw (le-leb n event h, le-ltb event (n + 0) (omega arith)) refl
    ]

-- of one
within_one : (event n : ℕ) → eqb event n ≡ is_within event n 1
within_one event n =
    elim (cases_lt event n) as (λ w. eqb event n ≡ is_within event n 1) [
      | inl h ↦ rw (lt-leb n event h, ne_eqb event n (λ same. absurd (omega arith))) refl
      | inr h ↦ elim (cases_lt n event) as (λ w. eqb event n ≡ is_within event n 1) [
        | inl k ↦ rw (le-leb n event h, le-ltb event (n + 1) (omega arith), ne_eqb event n (λ same. absurd (omega arith))) refl
        | inr k ↦ rw (le-leb n event h, lt-ltb event (n + 1) (omega arith), eq-eqb event n (omega arith)) refl
      ]
    ]

-- of the first j, or of those behind them
within_both : (event n j k : ℕ) → (is_within event n j || is_within event (n + j) k) ≡ is_within event n (j + k)
within_both event n j k =
    elim (cases_lt event n) as (λ w. (is_within event n j || is_within event (n + j) k) ≡ is_within event n (j + k)) [
      | inl h ↦ rw (lt-leb n event h, lt-leb (n + j) event (omega arith)) refl
      | inr h ↦ elim (cases_lt event (n + j)) as (λ w. (is_within event n j || is_within event (n + j) k) ≡ is_within event n (j + k)) [
        | inl l ↦ rw (le-leb n event h, lt-ltb event (n + j) l, lt-ltb event (n + (j + k)) (omega arith)) refl
        | inr l ↦ rw (le-leb n event h, le-leb (n + j) event l, le-ltb event (n + j) l)
            (ap (λ m. ltb event m) (omega arith))
      ]
    ]

-- what is put before elements is among them
has-put : (event : ℕ) (e : Element) (es : Elements) → has_among event (put_before e es) ≡ (has event e || has_among event es)
has-put event e none = refl
has-put event e (more (Event number) es) = refl
has-put event e (more (Group kind us) es) = refl
has-put event e (more (Span us closing) es) =
    ap (λ b. b || has_among event es) (or_assoc (has event e) (has_among event us) (eqb event closing))
    ∙ or_assoc (has event e) (has_among event us || eqb event closing) (has_among event es)

-- a member and the later ones
joined : (event n j k : ℕ) (first later : Bool) → first ≡ is_within event n j → later ≡ is_within event (n + j) k →
    (first || later) ≡ is_within event n (j + k)
joined event n j k first later f l = ap₂ (λ a b. a || b) f l ∙ within_both event n j k

mutual
  -- An element has the events of its node, and no other.
  pub has-events : ElementsHaveTheEvents
  has-events n (tree.Leaf name d) event = within_one event n
  has-events n (tree.Boundary name) event = within_one event n
  has-events n (tree.Group Sequence name ts) event = has-items event n ts
  has-events n (tree.Group Phase name ts) event = has-members event n ts
  has-events n (tree.Group After name ts) event = has-members event n ts
  has-events n (tree.Group Before name ts) event = has-members event n ts

  has-members : (event n : ℕ) (ts : Trees) → has_among event (members_of n ts) ≡ is_within event n (count_all ts)
  has-members event n tree.none = within_none event n
  has-members event n (tree.more t ts) =
      joined event n (count t) (count_all ts) (has event (element_of n t)) (has_among event (members_of (n + count t) ts))
      (has-events n t event) (has-members event (n + count t) ts)

  has-items : (event n : ℕ) (ts : Trees) → has_among event (items_of n ts) ≡ is_within event n (count_all ts)
  has-items event n tree.none = within_none event n
  has-items event n (tree.more (tree.Boundary name) ts) =
      joined event n 1 (count_all ts) (eqb event n) (has_among event (items_behind (n + 1) ts)) (within_one event n) (has-behind event (n + 1) ts)
  has-items event n (tree.more (tree.Leaf name d) ts) =
      joined event n 1 (count_all ts) (eqb event n) (has_among event (items_of (n + 1) ts)) (within_one event n) (has-items event (n + 1) ts)
  has-items event n (tree.more (tree.Group kind name us) ts) =
      let k = count_all us in
      joined event n k (count_all ts) (has event (element_of n (tree.Group kind name us))) (has_among event (items_of (n + k) ts))
      (has-events n (tree.Group kind name us) event) (has-items event (n + k) ts)

  has-behind : (event n : ℕ) (ts : Trees) → has_among event (items_behind n ts) ≡ is_within event n (count_all ts)
  has-behind event n tree.none = within_none event n
  has-behind event n (tree.more (tree.Boundary name) ts) =
      joined event n 1 (count_all ts) (eqb event n) (has_among event (items_behind (n + 1) ts)) (within_one event n) (has-behind event (n + 1) ts)
  has-behind event n (tree.more (tree.Leaf name d) ts) =
      has-put event (Event n) (items_behind (n + 1) ts)
      ∙ joined event n 1 (count_all ts) (eqb event n) (has_among event (items_behind (n + 1) ts)) (within_one event n) (has-behind event (n + 1) ts)
  has-behind event n (tree.more (tree.Group kind name us) ts) =
      let k = count_all us in
      let e = element_of n (tree.Group kind name us) in
      has-put event e (items_behind (n + k) ts)
      ∙ joined event n k (count_all ts) (has event e) (has_among event (items_behind (n + k) ts))
      (has-events n (tree.Group kind name us) event) (has-behind event (n + k) ts)
