-- How often an event stands in an element: once in the element of a tree that has it.
use Rattle.std.proofs.Common.{◌≡◌, ℕ, zero, suc, ◌+◌, ◌<◌, ◌≤◌, Bool, true, false, ◌&&◌, ◌||◌, cond, inl, inr, leb, le-leb, ltb, lt-ltb, le-ltb, eqb, ne_eqb, eq-eqb, refl, sym, ap, ap₂, ◌∙◌, arith}
use Rattle.std.proofs.lemmas.Bool.{cases_lt, cond-false, cond-true, lt-leb}
use Rattle.cg_meaning.specs.Tree as tree
use Rattle.cg_meaning.specs.Tree.{Tree, Trees, Sequence, Phase, After, Before, count, count_all}
use Rattle.cg_part.specs.Elements.{Element, Event, Group, Span, Elements, none, more, put_before, element_of, members_of, items_of, items_behind, has, has_among}

-- 1 where a test holds
abbrev pub counted : Bool → ℕ
counted true = 1
counted false = 0

-- how often an event stands in it
abbrev mutual
  pub times_in : ℕ → Element → ℕ
  times_in event (Event number) = counted (eqb event number)
  times_in event (Group kind es) = times_among event es
  times_in event (Span es closing) = times_among event es + counted (eqb event closing)

  -- among them
  pub times_among : ℕ → Elements → ℕ
  times_among event none = 0
  times_among event (more e es) = times_in event e + times_among event es

-- a test, by its number
by_test : (b : Bool) → b ≡ ltb 0 (counted b)
by_test true = refl
by_test false = refl

-- one of both is some where their sum is
some_of : (i j : ℕ) → (ltb 0 i || ltb 0 j) ≡ ltb 0 (i + j)
some_of zero j = ap (λ k. ltb 0 k) (let e : j ≡ 0 + j = omega arith in e)
some_of (suc i) j = rw (lt-ltb 0 (suc i) (omega arith)) (sym (lt-ltb 0 (suc i + j) (omega arith)))

mutual
  -- An element has the events that stand in it.
  has-times : (event : ℕ) (e : Element) → has event e ≡ ltb 0 (times_in event e)
  has-times event (Event number) = by_test (eqb event number)
  has-times event (Group kind es) = has_among-times event es
  has-times event (Span es closing) =
      ap₂ (λ b c. b || c) (has_among-times event es) (by_test (eqb event closing))
      ∙ some_of (times_among event es) (counted (eqb event closing))

  -- the same of elements
  has_among-times : (event : ℕ) (es : Elements) → has_among event es ≡ ltb 0 (times_among event es)
  has_among-times event none = refl
  has_among-times event (more e es) =
      ap₂ (λ b c. b || c) (has-times event e) (has_among-times event es) ∙ some_of (times_in event e) (times_among event es)

-- by whether the event is in an element
pub by_having : (event : ℕ) (e : Element) (u y z : ℕ) → (0 < times_in event e → u ≡ y) → (times_in event e ≡ 0 → u ≡ z) →
    u ≡ cond (has event e) y z
by_having event e u y z inside outside =
    elim (cases_lt 0 (times_in event e)) as (λ w. u ≡ cond (has event e) y z) [
      | inl some ↦ inside some ∙ sym (cond-true (has event e) y z (has-times event e ∙ lt-ltb 0 (times_in event e) some))
      | inr nowhere ↦ outside (omega arith) ∙ sym (cond-false (has event e) y z (has-times event e ∙ le-ltb 0 (times_in event e) nowhere))
    ]

-- once, for the numbers of these events
abbrev within : ℕ → ℕ → ℕ → ℕ
within event number events = counted (leb number event && ltb event (number + events))

-- one of them
within-inside : (event number events : ℕ) → number ≤ event → event < number + events → within event number events ≡ 1
within-inside event number events h l = rw (le-leb number event h) (rw (lt-ltb event (number + events) l) refl)

-- an earlier number
within-earlier : (event number events : ℕ) → event < number → within event number events ≡ 0
within-earlier event number events h = rw (lt-leb number event h) refl

-- where the second test fails
beyond : (b c : Bool) → c ≡ false → counted (b && c) ≡ 0
beyond true c e = rw e refl
beyond false c e = refl

-- a later number
within-later : (event number events : ℕ) → number + events ≤ event → within event number events ≡ 0
within-later event number events h = beyond (leb number event) (ltb event (number + events)) (le-ltb event (number + events) h)

-- of no events
within-none : (event number : ℕ) → within event number 0 ≡ 0
within-none event number =
    elim (cases_lt event number) as (λ w. within event number 0 ≡ 0) [
      | inl earlier ↦ within-earlier event number 0 earlier
      | inr later ↦ within-later event number 0 (omega arith)
    ]

-- of one event
within-one : (event number : ℕ) → counted (eqb event number) ≡ within event number 1
within-one event number =
    elim (cases_lt event number) as (λ w. counted (eqb event number) ≡ within event number 1) [
      | inl earlier ↦ ap counted (ne_eqb event number (λ same. absurd (omega arith)))
          ∙ sym (within-earlier event number 1 earlier)
      | inr h ↦ elim (cases_lt number event) as (λ w. counted (eqb event number) ≡ within event number 1) [
        | inl later ↦ ap counted (ne_eqb event number (λ same. absurd (omega arith)))
            ∙ sym (within-later event number 1 (omega arith))
        | inr l ↦ ap counted (eq-eqb event number (omega arith))
            ∙ sym (within-inside event number 1 h (omega arith))
      ]
    ]

-- among the first events or the rest
within-split : (event number i j : ℕ) → within event number i + within event (number + i) j ≡ within event number (i + j)
within-split event number i j =
    elim (cases_lt event number) as (λ w. within event number i + within event (number + i) j ≡ within event number (i + j)) [
      | inl earlier ↦ omega (
        arith,
        within-earlier event number i earlier,
        within-earlier event (number + i) j (omega arith),
        within-earlier event number (i + j) earlier,
      )
      | inr h ↦ elim (cases_lt event (number + i)) as (λ w. within event number i + within event (number + i) j ≡ within event number (i + j)) [
        | inl first ↦ omega (
          arith,
          within-inside event number i h first,
          within-earlier event (number + i) j first,
          within-inside event number (i + j) h (omega arith),
        )
        | inr l ↦ elim (cases_lt event (number + i + j)) as (λ w. within event number i + within event (number + i) j ≡ within event number (i + j)) [
          | inl rest ↦ omega (
            arith,
            within-later event number i l,
            within-inside event (number + i) j l rest,
            within-inside event number (i + j) h (omega arith),
          )
          | inr later ↦ omega (
            arith,
            within-later event number i l,
            within-later event (number + i) j later,
            within-later event number (i + j) (omega arith),
          )
        ]
      ]
    ]

-- put into a span or not, it is one more
times-put_before : (event : ℕ) (e : Element) (es : Elements) → times_among event (put_before e es) ≡ times_in event e + times_among event es
times-put_before event e none = refl
times-put_before event e (more (Event number) es) = refl
times-put_before event e (more (Group kind us) es) = refl
times-put_before event e (more (Span us closing) es) = omega arith

-- an event and those behind it
one_more : (event number times events : ℕ) → times ≡ within event (number + 1) events →
    counted (eqb event number) + times ≡ within event number (1 + events)
one_more event number times events rest = ap₂ (λ i j. i + j) (within-one event number) rest ∙ within-split event number 1 events

mutual
  -- Each number of a tree's events stands once in its element, and no other.
  pub times : (event number : ℕ) (t : Tree) → times_in event (element_of number t) ≡ within event number (count t)
  times event number (tree.Leaf name dating) = within-one event number
  times event number (tree.Boundary name) = within-one event number
  times event number (tree.Group Sequence name ts) = times-items event number ts
  times event number (tree.Group Phase name ts) = times-members event number ts
  times event number (tree.Group After name ts) = times-members event number ts
  times event number (tree.Group Before name ts) = times-members event number ts

  -- of members
  times-members : (event number : ℕ) (ts : Trees) → times_among event (members_of number ts) ≡ within event number (count_all ts)
  times-members event number tree.none = sym (within-none event number)
  times-members event number (tree.more t ts) =
      ap₂ (λ i j. i + j) (times event number t) (times-members event (number + count t) ts) ∙ within-split event number (count t) (count_all ts)

  -- of items
  times-items : (event number : ℕ) (ts : Trees) → times_among event (items_of number ts) ≡ within event number (count_all ts)
  times-items event number tree.none = sym (within-none event number)
  times-items event number (tree.more (tree.Leaf name dating) ts) =
      one_more event number (times_among event (items_of (number + 1) ts)) (count_all ts) (times-items event (number + 1) ts)
  times-items event number (tree.more (tree.Boundary name) ts) =
      one_more event number (times_among event (items_behind (number + 1) ts)) (count_all ts) (times-behind event (number + 1) ts)
  times-items event number (tree.more (tree.Group kind name us) ts) =
      ap₂ (λ i j. i + j) (times event number (tree.Group kind name us))
      (times-items event (number + count (tree.Group kind name us)) ts)
      ∙ within-split event number (count (tree.Group kind name us)) (count_all ts)

  -- of those behind a Boundary
  times-behind : (event number : ℕ) (ts : Trees) → times_among event (items_behind number ts) ≡ within event number (count_all ts)
  times-behind event number tree.none = sym (within-none event number)
  times-behind event number (tree.more (tree.Leaf name dating) ts) =
      times-put_before event (Event number) (items_behind (number + 1) ts)
      ∙ one_more event number (times_among event (items_behind (number + 1) ts)) (count_all ts) (times-behind event (number + 1) ts)
  times-behind event number (tree.more (tree.Boundary name) ts) =
      ap (λ i. i + times_among event (items_behind (number + 1) ts))
      (let e : 0 + counted (eqb event number) ≡ counted (eqb event number) = omega arith in e)
      ∙ one_more event number (times_among event (items_behind (number + 1) ts)) (count_all ts) (times-behind event (number + 1) ts)
  times-behind event number (tree.more (tree.Group kind name us) ts) =
      times-put_before event (element_of number (tree.Group kind name us)) (items_behind (number + count (tree.Group kind name us)) ts)
      ∙ ap₂ (λ i j. i + j) (times event number (tree.Group kind name us))
      (times-behind event (number + count (tree.Group kind name us)) ts)
      ∙ within-split event number (count (tree.Group kind name us)) (count_all ts)

-- an event of the whole tree
pub once : (event : ℕ) (t : Tree) → event < count t → times_in event (element_of 0 t) ≡ 1
once event t h = times event 0 t ∙ within-inside event 0 (count t) (omega arith) (omega arith)
