-- The items of a Sequence member by member.
use Rattle.std.proofs.Common.{◌≡◌, ℕ, ◌+◌, Bool, true, false, refl, sym, ap, ◌∙◌}
use Rattle.std.specs.Prelude.{if◌then◌else◌}
use Rattle.cg_meaning.specs.Tree as tree
use Rattle.cg_meaning.specs.Tree.{Tree, Trees, Kind, Sequence, Phase, After, Before, count}
use Rattle.cg_model.specs.Member.{is_boundary}
use Rattle.cg_message.specs.Parts.{size_of}
use Rattle.cg_message.specs.Placed.{Placed, Event, Group, Span, Places, none, more, put_before, placed_of, items_of, items_behind, elements_with, joined}
use Rattle.cg_message.specs.Arranged.{Arranged, with_element, with_boundary, all_items, all_before, items_with}

-- it is no span
abbrev pub IsNoSpan : Placed → Type 0
IsNoSpan (Event number place) = Unit {0}
IsNoSpan (Group kind place es) = Unit {0}
IsNoSpan (Span es closing) = ⊥

-- none of them is
abbrev pub AreNoSpans : Places → Type 0
AreNoSpans none = Unit {0}
AreNoSpans (more e es) = IsNoSpan e × AreNoSpans es

-- the element of a node is none
pub placed_of-no_span : (number place : ℕ) (t : Tree) → IsNoSpan (placed_of number place t)
placed_of-no_span number place (tree.Leaf name dating) = tt
placed_of-no_span number place (tree.Boundary name) = tt
placed_of-no_span number place (tree.Group Sequence name ts) = tt
placed_of-no_span number place (tree.Group Phase name ts) = tt
placed_of-no_span number place (tree.Group After name ts) = tt
placed_of-no_span number place (tree.Group Before name ts) = tt

-- nor one more
pub no_spans-with : (us : Places) (e : Placed) → AreNoSpans us → IsNoSpan e → AreNoSpans (elements_with us e)
no_spans-with none e h here = (here, tt)
no_spans-with (more u us) e h here = (h.0, no_spans-with us e h.1 here)

-- others behind one more
pub joined-with : (us es : Places) (e : Placed) → joined (elements_with us e) es ≡ joined us (more e es)
joined-with none es e = refl
joined-with (more u us) es e = ap (λ vs. more u vs) (joined-with us es e)

-- others behind both
joined-joined : (us vs es : Places) → joined (joined us vs) es ≡ joined us (joined vs es)
joined-joined none vs es = refl
joined-joined (more u us) vs es = ap (λ ws. more u ws) (joined-joined us vs es)

-- nothing behind
pub joined-none : (us : Places) → joined us none ≡ us
joined-none none = refl
joined-none (more u us) = ap (λ vs. more u vs) (joined-none us)

-- one more before others
all_before-with : (us es : Places) (e : Placed) → all_before (elements_with us e) es ≡ all_before us (put_before e es)
all_before-with none es e = refl
all_before-with (more u us) es e = ap (put_before u) (all_before-with us es e)

-- all that stands before a closing Boundary is the span
all_before-closing : (us es : Places) (closing : ℕ) → all_before us (more (Span none closing) es) ≡ more (Span us closing) es
all_before-closing none es closing = refl
all_before-closing (more u us) es closing = ap (put_before u) (all_before-closing us es closing)

-- where no Boundary closes it, each is an item by itself
put_before-no_span : (e : Placed) (es : Places) → AreNoSpans es → put_before e es ≡ more e es
put_before-no_span e none h = refl
put_before-no_span e (more (Event number place) es) h = refl
put_before-no_span e (more (Group kind place us) es) h = refl
put_before-no_span e (more (Span us closing) es) h = absurd h.0

-- all that no Boundary closes
all_before-none : (us : Places) → AreNoSpans us → all_before us none ≡ us
all_before-none none h = refl
all_before-none (more u us) h = ap (put_before u) (all_before-none us h.1) ∙ put_before-no_span u us h.1

-- no members yet
pub items_with-start : (number place : ℕ) (ts : Trees) → items_with (record { closed = none; segment = none; behind = false }) number place ts ≡ items_of number place ts
items_with-start number place ts = refl

-- no more members
last : (b : Bool) (us : Places) (number place : ℕ) → AreNoSpans us → (if b then all_before us (items_behind number place tree.none) else joined us (items_of number place tree.none)) ≡ us
last true us number place h = all_before-none us h
last false us number place h = joined-none us

-- so all items are there
pub items_with-end : (s : Arranged) (number place : ℕ) → AreNoSpans s.segment → items_with s number place tree.none ≡ all_items s
items_with-end s number place h = ap (joined s.closed) (last s.behind s.segment number place h)

-- one more member that is no Boundary
items_of-more : (number place : ℕ) (t : Tree) (ts : Trees) → is_boundary t ≡ false → items_of number place (tree.more t ts) ≡ more (placed_of number place t) (items_of (number + count t) (place + size_of t) ts)
items_of-more number place (tree.Leaf name dating) ts h = refl
items_of-more number place (tree.Boundary name) ts h = absurd (cc)
items_of-more number place (tree.Group kind name us) ts h = refl

-- and behind a Boundary
items_behind-more : (number place : ℕ) (t : Tree) (ts : Trees) → is_boundary t ≡ false → items_behind number place (tree.more t ts) ≡ put_before (placed_of number place t) (items_behind (number + count t) (place + size_of t) ts)
items_behind-more number place (tree.Leaf name dating) ts h = refl
items_behind-more number place (tree.Boundary name) ts h = absurd (cc)
items_behind-more number place (tree.Group kind name us) ts h = refl

-- one more behind those so far
next : (b : Bool) (us : Places) (number place : ℕ) (t : Tree) (ts : Trees) → is_boundary t ≡ false →
    (if b then all_before (elements_with us (placed_of number place t)) (items_behind (number + count t) (place + size_of t) ts) else joined (elements_with us (placed_of number place t)) (items_of (number + count t) (place + size_of t) ts))
    ≡ (if b then all_before us (items_behind number place (tree.more t ts)) else joined us (items_of number place (tree.more t ts)))
next true us number place t ts h = all_before-with us _ (placed_of number place t) ∙ ap (all_before us) (sym (items_behind-more number place t ts h))
next false us number place t ts h = joined-with us _ (placed_of number place t) ∙ ap (joined us) (sym (items_of-more number place t ts h))

-- which leaves all items as they are
pub items_with-element : (s : Arranged) (number place : ℕ) (t : Tree) (ts : Trees) → is_boundary t ≡ false →
    items_with (with_element s (placed_of number place t)) (number + count t) (place + size_of t) ts ≡ items_with s number place (tree.more t ts)
items_with-element s number place t ts h = ap (joined s.closed) (next s.behind s.segment number place t ts h)

-- one more Boundary
closed-next : (b : Bool) (closed us : Places) (number place : ℕ) (t : Tree) (ts : Trees) → is_boundary t ≡ true →
    joined (if b then elements_with closed (Span us number) else elements_with (joined closed us) (Event number place)) (items_behind (number + count t) (place + size_of t) ts)
    ≡ joined closed (if b then all_before us (items_behind number place (tree.more t ts)) else joined us (items_of number place (tree.more t ts)))
closed-next true closed us number place (tree.Boundary name) ts h = joined-with closed _ (Span us number) ∙ ap (joined closed) (sym (all_before-closing us _ number))
closed-next false closed us number place (tree.Boundary name) ts h = joined-with (joined closed us) _ (Event number place) ∙ joined-joined closed us _
closed-next b closed us number place (tree.Leaf name dating) ts h = absurd (cc)
closed-next b closed us number place (tree.Group kind name vs) ts h = absurd (cc)

-- and so does one more Boundary
pub items_with-boundary : (s : Arranged) (number place : ℕ) (t : Tree) (ts : Trees) → is_boundary t ≡ true →
    items_with (with_boundary s number place) (number + count t) (place + size_of t) ts ≡ items_with s number place (tree.more t ts)
items_with-boundary s number place t ts h = closed-next s.behind s.closed s.segment number place t ts h

-- The state after one more member, with the same items in all.
pub record IsNext (s next : Arranged) (number place : ℕ) (t : Tree) : Type 0 where
  pub items : (ts : Trees) → items_with next (number + count t) (place + size_of t) ts ≡ items_with s number place (tree.more t ts)
  pub plain : AreNoSpans s.segment → AreNoSpans next.segment

-- after a Boundary
pub is_next-boundary : (s next : Arranged) (number place : ℕ) (t : Tree) → is_boundary t ≡ true → next ≡ with_boundary s number place → IsNext s next number place t
is_next-boundary s next number place t h is = rw is (record { items = λ ts. items_with-boundary s number place t ts h; plain = λ _. tt })

-- after any other member
pub is_next-element : (s next : Arranged) (number place : ℕ) (t : Tree) (e : Placed) → is_boundary t ≡ false → e ≡ placed_of number place t → next ≡ with_element s e → IsNext s next number place t
is_next-element s next number place t e h own is =
    rw (is, own) (record { items = λ ts. items_with-element s number place t ts h; plain = λ plain. no_spans-with s.segment (placed_of number place t) plain (placed_of-no_span number place t) })
