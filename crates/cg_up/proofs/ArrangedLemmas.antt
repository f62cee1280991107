-- The items of a Sequence member by member.
use Rattle.std.proofs.Common.{◌≡◌, ℕ, ◌+◌, Bool, true, false, refl, sym, ap, ◌∙◌}
use Rattle.std.specs.Prelude.{if◌then◌else◌}
use Rattle.cg_meaning.specs.Tree as tree
use Rattle.cg_meaning.specs.Tree.{Tree, Trees, Kind, Sequence, Phase, After, Before, count}
use Rattle.cg_model.specs.Member.{is_boundary}
use Rattle.cg_part.specs.Elements.{Element, Event, Group, Span, Elements, none, more, put_before, element_of, items_of, items_behind}
use Rattle.cg_up.specs.Element.{elements_with, joined}
use Rattle.cg_up.specs.Arranged.{Arranged, with_element, with_boundary, all_items, all_before, items_with}

-- it is no span
abbrev pub IsNoSpan : Element → Type 0
IsNoSpan (Event number) = Unit {0}
IsNoSpan (Group kind es) = Unit {0}
IsNoSpan (Span es closing) = ⊥

-- none of them is
abbrev pub AreNoSpans : Elements → Type 0
AreNoSpans none = Unit {0}
AreNoSpans (more e es) = IsNoSpan e × AreNoSpans es

-- the element of a node is none
pub element_of-no_span : (number : ℕ) (t : Tree) → IsNoSpan (element_of number t)
element_of-no_span number (tree.Leaf name dating) = tt
element_of-no_span number (tree.Boundary name) = tt
element_of-no_span number (tree.Group Sequence name ts) = tt
element_of-no_span number (tree.Group Phase name ts) = tt
element_of-no_span number (tree.Group After name ts) = tt
element_of-no_span number (tree.Group Before name ts) = tt

-- nor one more
pub no_spans-with : (us : Elements) (e : Element) → AreNoSpans us → IsNoSpan e → AreNoSpans (elements_with us e)
no_spans-with none e h here = (here, tt)
no_spans-with (more u us) e h here = (h.0, no_spans-with us e h.1 here)

-- others behind one more
pub joined-with : (us es : Elements) (e : Element) → joined (elements_with us e) es ≡ joined us (more e es)
joined-with none es e = refl
joined-with (more u us) es e = ap (λ vs. more u vs) (joined-with us es e)

-- others behind both
joined-joined : (us vs es : Elements) → joined (joined us vs) es ≡ joined us (joined vs es)
joined-joined none vs es = refl
joined-joined (more u us) vs es = ap (λ ws. more u ws) (joined-joined us vs es)

-- nothing behind
pub joined-none : (us : Elements) → joined us none ≡ us
joined-none none = refl
joined-none (more u us) = ap (λ vs. more u vs) (joined-none us)

-- one more before others
all_before-with : (us es : Elements) (e : Element) → all_before (elements_with us e) es ≡ all_before us (put_before e es)
all_before-with none es e = refl
all_before-with (more u us) es e = ap (put_before u) (all_before-with us es e)

-- all that stands before a closing Boundary is the span
all_before-closing : (us es : Elements) (closing : ℕ) → all_before us (more (Span none closing) es) ≡ more (Span us closing) es
all_before-closing none es closing = refl
all_before-closing (more u us) es closing = ap (put_before u) (all_before-closing us es closing)

-- where no Boundary closes it, each is an item by itself
put_before-no_span : (e : Element) (es : Elements) → AreNoSpans es → put_before e es ≡ more e es
put_before-no_span e none h = refl
put_before-no_span e (more (Event number) es) h = refl
put_before-no_span e (more (Group kind us) es) h = refl
put_before-no_span e (more (Span us closing) es) h = absurd h.0

-- all that no Boundary closes
all_before-none : (us : Elements) → AreNoSpans us → all_before us none ≡ us
all_before-none none h = refl
all_before-none (more u us) h = ap (put_before u) (all_before-none us h.1) ∙ put_before-no_span u us h.1

-- no members yet
pub items_with-start : (number : ℕ) (ts : Trees) → items_with (record { closed = none; segment = none; behind = false }) number ts ≡ items_of number ts
items_with-start number ts = refl

-- no more members
last : (b : Bool) (us : Elements) (number : ℕ) → AreNoSpans us → (if b then all_before us (items_behind number tree.none) else joined us (items_of number tree.none)) ≡ us
last true us number h = all_before-none us h
last false us number h = joined-none us

-- so all items are there
pub items_with-end : (s : Arranged) (number : ℕ) → AreNoSpans s.segment → items_with s number tree.none ≡ all_items s
items_with-end s number h = ap (joined s.closed) (last s.behind s.segment number h)

-- one more member that is no Boundary
items_of-more : (number : ℕ) (t : Tree) (ts : Trees) → is_boundary t ≡ false → items_of number (tree.more t ts) ≡ more (element_of number t) (items_of (number + count t) ts)
items_of-more number (tree.Leaf name dating) ts h = refl
items_of-more number (tree.Boundary name) ts h = absurd (cc)
items_of-more number (tree.Group kind name us) ts h = refl

-- and behind a Boundary
items_behind-more : (number : ℕ) (t : Tree) (ts : Trees) → is_boundary t ≡ false → items_behind number (tree.more t ts) ≡ put_before (element_of number t) (items_behind (number + count t) ts)
items_behind-more number (tree.Leaf name dating) ts h = refl
items_behind-more number (tree.Boundary name) ts h = absurd (cc)
items_behind-more number (tree.Group kind name us) ts h = refl

-- one more behind those so far
next : (b : Bool) (us : Elements) (number : ℕ) (t : Tree) (ts : Trees) → is_boundary t ≡ false →
    (if b then all_before (elements_with us (element_of number t)) (items_behind (number + count t) ts) else joined (elements_with us (element_of number t)) (items_of (number + count t) ts))
    ≡ (if b then all_before us (items_behind number (tree.more t ts)) else joined us (items_of number (tree.more t ts)))
next true us number t ts h = all_before-with us _ (element_of number t) ∙ ap (all_before us) (sym (items_behind-more number t ts h))
next false us number t ts h = joined-with us _ (element_of number t) ∙ ap (joined us) (sym (items_of-more number t ts h))

-- which leaves all items as they are
pub items_with-element : (s : Arranged) (number : ℕ) (t : Tree) (ts : Trees) → is_boundary t ≡ false →
    items_with (with_element s (element_of number t)) (number + count t) ts ≡ items_with s number (tree.more t ts)
items_with-element s number t ts h = ap (joined s.closed) (next s.behind s.segment number t ts h)

-- one more Boundary
closed-next : (b : Bool) (closed us : Elements) (number : ℕ) (t : Tree) (ts : Trees) → is_boundary t ≡ true →
    joined (if b then elements_with closed (Span us number) else elements_with (joined closed us) (Event number)) (items_behind (number + count t) ts)
    ≡ joined closed (if b then all_before us (items_behind number (tree.more t ts)) else joined us (items_of number (tree.more t ts)))
closed-next true closed us number (tree.Boundary name) ts h = joined-with closed _ (Span us number) ∙ ap (joined closed) (sym (all_before-closing us _ number))
closed-next false closed us number (tree.Boundary name) ts h = joined-with (joined closed us) _ (Event number) ∙ joined-joined closed us _
closed-next b closed us number (tree.Leaf name dating) ts h = absurd (cc)
closed-next b closed us number (tree.Group kind name vs) ts h = absurd (cc)

-- and so does one more Boundary
pub items_with-boundary : (s : Arranged) (number : ℕ) (t : Tree) (ts : Trees) → is_boundary t ≡ true →
    items_with (with_boundary s number) (number + count t) ts ≡ items_with s number (tree.more t ts)
items_with-boundary s number t ts h = closed-next s.behind s.closed s.segment number t ts h

-- The state after one more member, with the same items in all.
pub record IsNext (s next : Arranged) (number : ℕ) (t : Tree) : Type 0 where
  pub items : (ts : Trees) → items_with next (number + count t) ts ≡ items_with s number (tree.more t ts)
  pub plain : AreNoSpans s.segment → AreNoSpans next.segment

-- after a Boundary
pub is_next-boundary : (s next : Arranged) (number : ℕ) (t : Tree) → is_boundary t ≡ true → next ≡ with_boundary s number → IsNext s next number t
is_next-boundary s next number t h is = rw is (record { items = λ ts. items_with-boundary s number t ts h; plain = λ _. tt })

-- after any other member
pub is_next-element : (s next : Arranged) (number : ℕ) (t : Tree) (e : Element) → is_boundary t ≡ false → e ≡ element_of number t → next ≡ with_element s e → IsNext s next number t
is_next-element s next number t e h own is =
    rw (is, own) (record { items = λ ts. items_with-element s number t ts h; plain = λ plain. no_spans-with s.segment (element_of number t) plain (element_of-no_span number t) })
