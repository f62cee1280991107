-- Elements of the code and those that they stand for.
use Rattle.std.proofs.Common.{◌≡◌, ℕ, ◌+◌, ◌<◌, ◌≤◌, List, [], ◌∷◌, ◌++◌, length, take, drop, take-append-drop, get_or, refl, sym, subst, ap, ap₂, ◌∙◌, ◌⊎◌, inl, inr, add-one, drop-cons}
use Rattle.std.proofs.lemmas.List.{drop_all}
use denote.Hole.Carrier.{roll}
use Rattle.cg_meaning.specs.Tree.{Kind}
use Rattle.cg_part.specs.Elements as part
use Rattle.cg_part.specs.Elements.{none, more}
use Rattle.cg_model.specs.Group.{kind_in}
use Rattle.cg_model.specs.declared.group.GroupKind.{GroupKind}
use Rattle.cg_up.specs.Element.{elements_with, joined, element_step, elements_step, element_in, elements_in, items_in, all_in}
use Rattle.cg_up.specs.declared.element.Element.{Element}
use Rattle.cg_up.specs.declared.element.Element.TheFolds.{fold-roll-Element, fold-roll-Elements}
use Rattle.cg_up.specs.declared.element.Element.TheOpen as layer
use Rattle.cg_up.specs.declared.element.Element.TheViews.{roll-Element, Group, Span}
use Rattle.cg_up.specs.declared.element.Element.TheBlock.{Event}
use Rattle.cg_up.specs.declared.element.Elements.{Elements}

-- elements stand for those of their list
pub elements_in-all : (es : Elements) → elements_in es ≡ all_in (items_in es)
elements_in-all es = fold-roll-Elements part.Element part.Elements element_step elements_step (record { items = items_in es })

-- one more behind
pub all_in-push : (items : List Element) (e : Element) → all_in (items ++ e ∷ []) ≡ elements_with (all_in items) (element_in e)
all_in-push [] e = refl
all_in-push (x ∷ xs) e = ap (λ us. more (element_in x) us) (all_in-push xs e)

-- others behind
pub all_in-append : (items others : List Element) → all_in (items ++ others) ≡ joined (all_in items) (all_in others)
all_in-append [] others = refl
all_in-append (x ∷ xs) others = ap (λ us. more (element_in x) us) (all_in-append xs others)

-- the first so many and the others
pub all_in-split : (items : List Element) (i : ℕ) → all_in items ≡ joined (all_in (take i items)) (all_in (drop i items))
all_in-split items i = ap all_in (sym (take-append-drop i items)) ∙ all_in-append (take i items) (drop i items)

-- those from one on begin with it
pub all_in-next : (items : List Element) (i : ℕ) (e : Element) → i < length items → e ≡ get_or items i e → all_in (drop i items) ≡ more (element_in e) (all_in (drop (i + 1) items))
all_in-next items i e within is = ap all_in (drop-cons items i e within ∙ ap₂ (λ y ys. y ∷ ys) (sym is) (ap (λ j. drop j items) (sym (add-one i))))

-- and past the last there are none
pub all_in-past : (items : List Element) (i : ℕ) → length items ≤ i → all_in (drop i items) ≡ none
all_in-past items i past = ap all_in (drop_all i items past)

-- what an event stands for
pub element_in-Event : (number : ℕ) → element_in (Event number) ≡ part.Event number
unfolding roll-Element roll
element_in-Event number = fold-roll-Element part.Element part.Elements element_step elements_step (layer.Event number)

-- what a group stands for
pub element_in-Group : (kind : GroupKind) (es : Elements) → element_in (Group kind es) ≡ part.Group (kind_in kind) (elements_in es)
unfolding roll-Element roll
element_in-Group kind es = fold-roll-Element part.Element part.Elements element_step elements_step (layer.Group kind es)

-- what a span stands for
pub element_in-Span : (es : Elements) (closing : ℕ) → element_in (Span es closing) ≡ part.Span (elements_in es) closing
unfolding roll-Element roll
element_in-Span es closing = fold-roll-Element part.Element part.Elements element_step elements_step (layer.Span es closing)

-- what holds of groups and spans holds of an element that is no event
pub no_event : (P : part.Element → Type 0) (e : Element) →
    ((kind : GroupKind) × (es : Elements) × (e ≡ Group kind es)) ⊎ ((es : Elements) × (closing : ℕ) × (e ≡ Span es closing)) →
    ((kind : Kind) (es : part.Elements) → P (part.Group kind es)) → ((es : part.Elements) (closing : ℕ) → P (part.Span es closing)) → P (element_in e)
no_event P e (inl w) group span = subst P (sym (ap element_in w.2 ∙ element_in-Group w.0 w.1)) (group (kind_in w.0) (elements_in w.1))
no_event P e (inr w) group span = subst P (sym (ap element_in w.2 ∙ element_in-Span w.0 w.1)) (span (elements_in w.0) w.1)
