-- The items of a Sequence behind a Boundary: where a span begins there, and what stands before it.
use Rattle.std.proofs.Common.{◌≡◌, ℕ, ◌+◌, Bool, true, false, refl, sym, ap, ◌∙◌, arith}
use Rattle.std.proofs.lemmas.Bool.{false≢true}
use Rattle.cg_meaning.specs.Tree as tree
use Rattle.cg_meaning.specs.Tree.{Tree, Trees, Sequence, Phase, After, Before, count_all}
use Rattle.cg_part.specs.Elements.{Element, Event, Group, Span, Elements, none, more, put_before, element_of, items_of, items_behind, open_events, open_in}
use Rattle.cg_part.specs.Tables.{ExactTable, identity, then_table, span_item, table_of, in_order}

-- whether one of the members is a Boundary
abbrev pub has_boundary : Trees → Bool
has_boundary tree.none = false
has_boundary (tree.more (tree.Boundary name) ts) = true
has_boundary (tree.more (tree.Leaf name d) ts) = has_boundary ts
has_boundary (tree.more (tree.Group kind name us) ts) = has_boundary ts

abbrev pub is_span : Element → Bool
is_span (Event number) = false
is_span (Group kind es) = false
is_span (Span es closing) = true

-- whether the first of the elements is one
abbrev pub begins_with_span : Elements → Bool
begins_with_span none = false
begins_with_span (more e es) = is_span e

-- a node by itself is none
no_span : (n : ℕ) (t : Tree) → is_span (element_of n t) ≡ false
no_span n (tree.Leaf name d) = refl
no_span n (tree.Boundary name) = refl
no_span n (tree.Group Sequence name ts) = refl
no_span n (tree.Group Phase name ts) = refl
no_span n (tree.Group After name ts) = refl
no_span n (tree.Group Before name ts) = refl

-- what is put before elements makes no span, and leaves one
put-span : (e : Element) (es : Elements) → is_span e ≡ false → begins_with_span (put_before e es) ≡ begins_with_span es
put-span e none h = h
put-span e (more (Event number) es) h = h
put-span e (more (Group kind us) es) h = h
put-span e (more (Span us closing) es) h = refl

-- behind a Boundary a span begins where another one follows
pub span-there : (n : ℕ) (ts : Trees) → begins_with_span (items_behind n ts) ≡ has_boundary ts
span-there n tree.none = refl
span-there n (tree.more (tree.Boundary name) ts) = refl
span-there n (tree.more (tree.Leaf name d) ts) = put-span (Event n) (items_behind (n + 1) ts) refl ∙ span-there (n + 1) ts
span-there n (tree.more (tree.Group kind name us) ts) =
    let t = tree.Group kind name us in
    put-span (element_of n t) (items_behind (n + count_all us) ts) (no_span n t) ∙ span-there (n + count_all us) ts

-- where no span begins, what is put before stands by itself
put-alone : (e : Element) (es : Elements) → begins_with_span es ≡ false → put_before e es ≡ more e es
put-alone e none h = refl
put-alone e (more (Event number) es) h = refl
put-alone e (more (Group kind us) es) h = refl
put-alone e (more (Span us closing) es) h = absurd (false≢true (sym h))

-- Behind the last Boundary the items are as before the first.
pub items-last : (n : ℕ) (ts : Trees) → has_boundary ts ≡ false → items_behind n ts ≡ items_of n ts
items-last n tree.none h = refl
items-last n (tree.more (tree.Boundary name) ts) h = absurd (false≢true (sym h))
items-last n (tree.more (tree.Leaf name d) ts) h =
    put-alone (Event n) (items_behind (n + 1) ts) (span-there (n + 1) ts ∙ h) ∙ ap (λ es. more (Event n) es) (items-last (n + 1) ts h)
items-last n (tree.more (tree.Group kind name us) ts) h =
    let e = element_of n (tree.Group kind name us) in
    let later = n + count_all us in
    put-alone e (items_behind later ts) (span-there later ts ∙ h) ∙ ap (λ es. more e es) (items-last later ts h)

-- the table of such items onto that of what precedes them: the span that begins there goes on from the table of a segment with
-- so many open events
abbrev pub behind : ℕ → (ℕ → ℕ → ℕ) → ExactTable → ExactTable → ℕ → Elements → ExactTable
behind g rows s segment opened (more (Span us closing) es) =
    in_order g rows (then_table s (span_item g (in_order g rows segment us) (opened + open_in us) (rows closing))) es
behind g rows s segment opened es = in_order g rows s es

-- a segment of nothing
pub behind-identity : (g : ℕ) (rows : ℕ → ℕ → ℕ) (s : ExactTable) (es : Elements) → behind g rows s identity 0 es ≡ in_order g rows s es
behind-identity g rows s none = refl
behind-identity g rows s (more (Event number) es) = refl
behind-identity g rows s (more (Group kind us) es) = refl
behind-identity g rows s (more (Span us closing) es) =
    ap (λ k. in_order g rows (then_table s (span_item g (in_order g rows identity us) k (rows closing))) es) (omega arith)

-- what is put before joins the segment
pub behind-put : (g : ℕ) (rows : ℕ → ℕ → ℕ) (s segment : ExactTable) (opened : ℕ) (e : Element) (es : Elements) → begins_with_span es ≡ true →
    behind g rows s segment opened (put_before e es) ≡ behind g rows s (then_table segment (table_of g rows e)) (opened + open_events e) es
behind-put g rows s segment opened e none h = absurd (false≢true h)
behind-put g rows s segment opened e (more (Event number) es) h = absurd (false≢true h)
behind-put g rows s segment opened e (more (Group kind us) es) h = absurd (false≢true h)
behind-put g rows s segment opened e (more (Span us closing) es) h =
    let joined = in_order g rows (then_table segment (table_of g rows e)) us in
    ap (λ k. in_order g rows (then_table s (span_item g joined k (rows closing))) es) (omega arith)
