-- The table of a node depends on the rows of its events alone: within another node it is that of the node by itself.
use Rattle.std.proofs.Common.{◌≡◌, ℕ, ◌+◌, ◌<◌, ◌≤◌, refl, sym, ap, ap₂, ◌∙◌, arith}
use Rattle.cg_meaning.specs.Tree as tree
use Rattle.cg_meaning.specs.Tree.{Tree, Trees, Kind, Sequence, Phase, After, Before, count, count_all}
use Rattle.cg_table.specs.Table.{Table}
use Rattle.cg_table.specs.Formulas.{identity_of, row_table, then_row_of, then_of, beside_of, after_of, before_of, spanned_of}
use Rattle.cg_part.specs.Elements.{Element, Elements, Event, Group, Span, none, more, put_before, element_of, members_of, items_of, items_behind, open_events, open_in}
use Rattle.cg_recipe.specs.Recipe.{Pass, table_of, in_order, side_by_side, followed}

-- elements that are alike, with the same rows
abbrev mutual
  pub IsLike : Pass → Pass → Element → Element → Type 0
  IsLike p q (Event m) (Event n) = p.rows m ≡ q.rows n
  IsLike p q (Group k es) (Group l fs) = (k ≡ l) × AreLike p q es fs
  IsLike p q (Span es m) (Span fs n) = AreLike p q es fs
  IsLike p q (Event m) (Group l fs) = ⊥
  IsLike p q (Event m) (Span fs n) = ⊥
  IsLike p q (Group k es) (Event n) = ⊥
  IsLike p q (Group k es) (Span fs n) = ⊥
  IsLike p q (Span es m) (Event n) = ⊥
  IsLike p q (Span es m) (Group l fs) = ⊥

  pub AreLike : Pass → Pass → Elements → Elements → Type 0
  AreLike p q none none = Unit {0}
  AreLike p q (more e es) (more f fs) = IsLike p q e f × AreLike p q es fs
  AreLike p q none (more f fs) = ⊥
  AreLike p q (more e es) none = ⊥

-- they have as many open events
mutual
  open-like : (p q : Pass) (e f : Element) → IsLike p q e f → open_events e ≡ open_events f
  open-like p q (Event m) (Event n) h = refl
  open-like p q (Group Sequence es) (Group l fs) h = open_in-like p q es fs h.1 ∙ ap (λ k. open_events (Group k fs)) h.0
  open-like p q (Group Phase es) (Group l fs) h = open_in-like p q es fs h.1 ∙ ap (λ k. open_events (Group k fs)) h.0
  open-like p q (Group After es) (Group l fs) h = ap (λ k. open_events (Group k fs)) h.0
  open-like p q (Group Before es) (Group l fs) h = ap (λ k. open_events (Group k fs)) h.0
  open-like p q (Span es m) (Span fs n) h = refl
  open-like p q (Event m) (Group l fs) h = absurd h
  open-like p q (Event m) (Span fs n) h = absurd h
  open-like p q (Group k es) (Event n) h = absurd h
  open-like p q (Group k es) (Span fs n) h = absurd h
  open-like p q (Span es m) (Event n) h = absurd h
  open-like p q (Span es m) (Group l fs) h = absurd h

  open_in-like : (p q : Pass) (es fs : Elements) → AreLike p q es fs → open_in es ≡ open_in fs
  open_in-like p q none none h = refl
  open_in-like p q (more e es) (more f fs) h = ap₂ (λ a b. a + b) (open-like p q e f h.0) (open_in-like p q es fs h.1)
  open_in-like p q none (more f fs) h = absurd h
  open_in-like p q (more e es) none h = absurd h

-- on as many cells they have the same table
mutual
  pub table-like : (p q : Pass) (e f : Element) → p.cells ≡ q.cells → IsLike p q e f → table_of p e ≡ table_of q f
  table-like p q (Event m) (Event n) c h = ap row_table h
  table-like p q (Group Sequence es) (Group l fs) c h = order-like p q _ _ es fs c (ap identity_of c) h.1 ∙ ap (λ k. table_of q (Group k fs)) h.0
  table-like p q (Group Phase es) (Group l fs) c h = side-like p q _ _ es fs c (ap identity_of c) h.1 ∙ ap (λ k. table_of q (Group k fs)) h.0
  table-like p q (Group After es) (Group l fs) c h = ap after_of (side-like p q _ _ es fs c (ap identity_of c) h.1) ∙ ap (λ k. table_of q (Group k fs)) h.0
  table-like p q (Group Before es) (Group l fs) c h = ap before_of (side-like p q _ _ es fs c (ap identity_of c) h.1) ∙ ap (λ k. table_of q (Group k fs)) h.0
  table-like p q (Span es m) (Span fs n) c h = ap₂ spanned_of (order-like p q _ _ es fs c (ap identity_of c) h) (open_in-like p q es fs h)
  table-like p q (Event m) (Group l fs) c h = absurd h
  table-like p q (Event m) (Span fs n) c h = absurd h
  table-like p q (Group k es) (Event n) c h = absurd h
  table-like p q (Group k es) (Span fs n) c h = absurd h
  table-like p q (Span es m) (Event n) c h = absurd h
  table-like p q (Span es m) (Group l fs) c h = absurd h

  order-like : (p q : Pass) (s t : Table) (es fs : Elements) → p.cells ≡ q.cells → s ≡ t → AreLike p q es fs → in_order p s es ≡ in_order q t fs
  order-like p q s t none none c same h = same
  order-like p q s t (more e es) (more f fs) c same h = order-like p q _ _ es fs c (followed-like p q s t e f _ _ same h.0 (table-like p q e f c h.0)) h.1
  order-like p q s t none (more f fs) c same h = absurd h
  order-like p q s t (more e es) none c same h = absurd h

  side-like : (p q : Pass) (s t : Table) (es fs : Elements) → p.cells ≡ q.cells → s ≡ t → AreLike p q es fs → side_by_side p s es ≡ side_by_side q t fs
  side-like p q s t none none c same h = same
  side-like p q s t (more e es) (more f fs) c same h = side-like p q _ _ es fs c (ap₂ beside_of same (table-like p q e f c h.0)) h.1
  side-like p q s t none (more f fs) c same h = absurd h
  side-like p q s t (more e es) none c same h = absurd h

  followed-like : (p q : Pass) (s t : Table) (e f : Element) (u v : Table) → s ≡ t → IsLike p q e f → u ≡ v → followed p s e u ≡ followed q t f v
  followed-like p q s t (Event m) (Event n) u v same h tables = ap₂ then_row_of same h
  followed-like p q s t (Group k es) (Group l fs) u v same h tables = ap₂ then_of same tables
  followed-like p q s t (Span es m) (Span fs n) u v same h tables = ap₂ then_of same tables
  followed-like p q s t (Event m) (Group l fs) u v same h tables = absurd h
  followed-like p q s t (Event m) (Span fs n) u v same h tables = absurd h
  followed-like p q s t (Group k es) (Event n) u v same h tables = absurd h
  followed-like p q s t (Group k es) (Span fs n) u v same h tables = absurd h
  followed-like p q s t (Span es m) (Event n) u v same h tables = absurd h
  followed-like p q s t (Span es m) (Group l fs) u v same h tables = absurd h

-- events from two numbers on, so many of which have the same rows
abbrev pub AreSame : Pass → Pass → ℕ → ℕ → ℕ → Type 0
AreSame p q m n many = (i : ℕ) → i < many → p.rows (m + i) ≡ q.rows (n + i)

-- the first of them
first-same : (p q : Pass) (m n many : ℕ) → 0 < many → AreSame p q m n many → p.rows m ≡ q.rows n
first-same p q m n many some h =
    let left : m + 0 ≡ m = omega arith in
    let right : n + 0 ≡ n = omega arith in
    sym (ap p.rows left) ∙ h 0 some ∙ ap q.rows right

-- those behind the first so many
later-same : (p q : Pass) (m n many a b : ℕ) → a + b ≡ many → AreSame p q m n many → AreSame p q (m + a) (n + a) b
later-same p q m n many a b is h i less =
    let left : m + a + i ≡ m + (a + i) = omega arith in
    let right : n + a + i ≡ n + (a + i) = omega arith in
    ap p.rows left ∙ h (a + i) (omega (arith, is)) ∙ ap q.rows (sym right)

-- fewer of them
fewer-same : (p q : Pass) (m n many a : ℕ) → a ≤ many → AreSame p q m n many → AreSame p q m n a
fewer-same p q m n many a le h i less = h i (omega arith)

-- an element put before others
put-like : (p q : Pass) (e f : Element) (es fs : Elements) → IsLike p q e f → AreLike p q es fs → AreLike p q (put_before e es) (put_before f fs)
put-like p q e f none none h k = (h, k)
put-like p q e f (more (Event m) es) (more (Event n) fs) h k = (h, k)
put-like p q e f (more (Group a us) es) (more (Group b vs) fs) h k = (h, k)
put-like p q e f (more (Span us m) es) (more (Span vs n) fs) h k = ((h, k.0), k.1)
put-like p q e f none (more g fs) h k = absurd k
put-like p q e f (more g es) none h k = absurd k
put-like p q e f (more (Event m) es) (more (Group b vs) fs) h k = absurd k.0
put-like p q e f (more (Event m) es) (more (Span vs n) fs) h k = absurd k.0
put-like p q e f (more (Group a us) es) (more (Event n) fs) h k = absurd k.0
put-like p q e f (more (Group a us) es) (more (Span vs n) fs) h k = absurd k.0
put-like p q e f (more (Span us m) es) (more (Event n) fs) h k = absurd k.0
put-like p q e f (more (Span us m) es) (more (Group b vs) fs) h k = absurd k.0

-- the elements of one node from two numbers on
mutual
  tree-like : (p q : Pass) (m n : ℕ) (t : Tree) → AreSame p q m n (count t) → IsLike p q (element_of m t) (element_of n t)
  tree-like p q m n (tree.Leaf name dating) h = first-same p q m n 1 (omega arith) h
  tree-like p q m n (tree.Boundary name) h = first-same p q m n 1 (omega arith) h
  tree-like p q m n (tree.Group Sequence name ts) h = (refl, items-like p q m n ts h)
  tree-like p q m n (tree.Group Phase name ts) h = (refl, members-like p q m n ts h)
  tree-like p q m n (tree.Group After name ts) h = (refl, members-like p q m n ts h)
  tree-like p q m n (tree.Group Before name ts) h = (refl, members-like p q m n ts h)

  members-like : (p q : Pass) (m n : ℕ) (ts : Trees) → AreSame p q m n (count_all ts) → AreLike p q (members_of m ts) (members_of n ts)
  members-like p q m n tree.none h = tt
  members-like p q m n (tree.more t ts) h = (
    tree-like p q m n t (fewer-same p q m n (count t + count_all ts) (count t) (omega arith) h),
    members-like p q (m + count t) (n + count t) ts (later-same p q m n (count t + count_all ts) (count t) (count_all ts) refl h),
  )

  items-like : (p q : Pass) (m n : ℕ) (ts : Trees) → AreSame p q m n (count_all ts) → AreLike p q (items_of m ts) (items_of n ts)
  items-like p q m n tree.none h = tt
  items-like p q m n (tree.more (tree.Boundary name) ts) h =
      (first-same p q m n (1 + count_all ts) (omega arith) h, behind-like p q (m + 1) (n + 1) ts (later-same p q m n (1 + count_all ts) 1 (count_all ts) refl h))
  items-like p q m n (tree.more (tree.Leaf name dating) ts) h =
      (first-same p q m n (1 + count_all ts) (omega arith) h, items-like p q (m + 1) (n + 1) ts (later-same p q m n (1 + count_all ts) 1 (count_all ts) refl h))
  items-like p q m n (tree.more (tree.Group kind name us) ts) h = (
    tree-like p q m n (tree.Group kind name us) (fewer-same p q m n (count_all us + count_all ts) (count_all us) (omega arith) h),
    items-like p q (m + count_all us) (n + count_all us) ts (later-same p q m n (count_all us + count_all ts) (count_all us) (count_all ts) refl h),
  )

  behind-like : (p q : Pass) (m n : ℕ) (ts : Trees) → AreSame p q m n (count_all ts) → AreLike p q (items_behind m ts) (items_behind n ts)
  behind-like p q m n tree.none h = tt
  behind-like p q m n (tree.more (tree.Boundary name) ts) h =
      (tt, behind-like p q (m + 1) (n + 1) ts (later-same p q m n (1 + count_all ts) 1 (count_all ts) refl h))
  behind-like p q m n (tree.more (tree.Leaf name dating) ts) h =
      put-like p q _ _ _ _ (first-same p q m n (1 + count_all ts) (omega arith) h) (behind-like p q (m + 1) (n + 1) ts (later-same p q m n (1 + count_all ts) 1 (count_all ts) refl h))
  behind-like p q m n (tree.more (tree.Group kind name us) ts) h =
      put-like p q _ _ _ _ (tree-like p q m n (tree.Group kind name us) (fewer-same p q m n (count_all us + count_all ts) (count_all us) (omega arith) h))
      (behind-like p q (m + count_all us) (n + count_all us) ts (later-same p q m n (count_all us + count_all ts) (count_all us) (count_all ts) refl h))

-- The table of a node from one number on is that from another on, where its events have the same rows.
pub table-local : (p q : Pass) (m n : ℕ) (t : Tree) → p.cells ≡ q.cells → AreSame p q m n (count t) → table_of p (element_of m t) ≡ table_of q (element_of n t)
table-local p q m n t c h = table-like p q (element_of m t) (element_of n t) c (tree-like p q m n t h)
