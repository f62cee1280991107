-- Elements of the code and those that they stand for.
use Rattle.std.proofs.Common.{◌≡◌, ℕ, ◌+◌, ◌<◌, ◌≤◌, List, [], ◌∷◌, ◌++◌, length, take, drop, take-append-drop, get_or, refl, sym, subst, ap, ap₂, ◌∙◌, ◌⊎◌, inl, inr, add-one, drop-cons}
use Rattle.cg_meaning.specs.Tree.{Kind}
use Rattle.std.proofs.lemmas.List.{drop_all}
use denote.Hole.Carrier.{roll}
use Rattle.cg_part.specs.Elements as part
use Rattle.cg_model.specs.Group.{kind_in}
use Rattle.cg_model.specs.declared.group.GroupKind.{GroupKind}
use Rattle.cg_message.specs.Placed as placed
use Rattle.cg_message.specs.Placed.{Placed, Places, none, more, elements_with, bare, bare_all}
use Rattle.cg_message.specs.Element.{element_step, elements_step, placed_in, places_in, items_in, all_placed, element_in, all_in}
use Rattle.cg_message.specs.declared.element.Element.{Element}
use Rattle.cg_message.specs.declared.element.Element.TheFolds.{fold-roll-Element, fold-roll-Elements}
use Rattle.cg_message.specs.declared.element.Element.TheOpen as layer
use Rattle.cg_message.specs.declared.element.Element.TheViews.{roll-Element, Group, Span}
use Rattle.cg_message.specs.declared.element.Element.TheBlock.{Event}
use Rattle.cg_message.specs.declared.element.Elements.{Elements}

-- elements without places, with others behind them
abbrev pub joined : part.Elements → part.Elements → part.Elements
joined part.none es = es
joined (part.more u us) es = part.more u (joined us es)

-- elements stand for those of their list
pub places_in-all : (es : Elements) → places_in es ≡ all_placed (items_in es)
places_in-all es = fold-roll-Elements Placed Places element_step elements_step (record { items = items_in es })

-- one more behind
pub all_placed-push : (items : List Element) (e : Element) → all_placed (items ++ e ∷ []) ≡ elements_with (all_placed items) (placed_in e)
all_placed-push [] e = refl
all_placed-push (x ∷ xs) e = ap (λ us. more (placed_in x) us) (all_placed-push xs e)

-- others behind
pub all_placed-append : (items others : List Element) → all_placed (items ++ others) ≡ placed.joined (all_placed items) (all_placed others)
all_placed-append [] others = refl
all_placed-append (x ∷ xs) others = ap (λ us. more (placed_in x) us) (all_placed-append xs others)

-- the first so many and the others
pub all_placed-split : (items : List Element) (i : ℕ) → all_placed items ≡ placed.joined (all_placed (take i items)) (all_placed (drop i items))
all_placed-split items i = ap all_placed (sym (take-append-drop i items)) ∙ all_placed-append (take i items) (drop i items)

-- those from one on begin with it
pub all_placed-next : (items : List Element) (i : ℕ) (e : Element) → i < length items → e ≡ get_or items i e → all_placed (drop i items) ≡ more (placed_in e) (all_placed (drop (i + 1) items))
all_placed-next items i e within is = ap all_placed (drop-cons items i e within ∙ ap₂ (λ y ys. y ∷ ys) (sym is) (ap (λ j. drop j items) (sym (add-one i))))

-- without places both are joined too
pub bare-joined : (us vs : Places) → bare_all (placed.joined us vs) ≡ joined (bare_all us) (bare_all vs)
bare-joined none vs = refl
bare-joined (more u us) vs = ap (λ ws. part.more (bare u) ws) (bare-joined us vs)

-- the same without places
pub all_in-split : (items : List Element) (i : ℕ) → all_in items ≡ joined (all_in (take i items)) (all_in (drop i items))
all_in-split items i = ap bare_all (all_placed-split items i) ∙ bare-joined (all_placed (take i items)) (all_placed (drop i items))

pub all_in-next : (items : List Element) (i : ℕ) (e : Element) → i < length items → e ≡ get_or items i e → all_in (drop i items) ≡ part.more (element_in e) (all_in (drop (i + 1) items))
all_in-next items i e within is = ap bare_all (all_placed-next items i e within is)

-- and past the last there are none
pub all_in-past : (items : List Element) (i : ℕ) → length items ≤ i → all_in (drop i items) ≡ part.none
all_in-past items i past = ap all_in (drop_all i items past)

-- what an event stands for
pub placed_in-Event : (number place : ℕ) → placed_in (Event number place) ≡ placed.Event number place
unfolding roll-Element roll
placed_in-Event number place = fold-roll-Element Placed Places element_step elements_step (layer.Event number place)

-- what a group stands for
pub placed_in-Group : (kind : GroupKind) (place : ℕ) (es : Elements) → placed_in (Group kind place es) ≡ placed.Group (kind_in kind) place (places_in es)
unfolding roll-Element roll
placed_in-Group kind place es = fold-roll-Element Placed Places element_step elements_step (layer.Group kind place es)

-- what a span stands for
pub placed_in-Span : (es : Elements) (closing : ℕ) → placed_in (Span es closing) ≡ placed.Span (places_in es) closing
unfolding roll-Element roll
placed_in-Span es closing = fold-roll-Element Placed Places element_step elements_step (layer.Span es closing)

-- what they stand for where they are met, by the list of those within
pub event-is : (e : Element) (number place : ℕ) → e ≡ Event number place → placed_in e ≡ placed.Event number place
event-is e number place is = ap placed_in is ∙ placed_in-Event number place

pub group-is : (e : Element) (kind : GroupKind) (place : ℕ) (es : Elements) (items : List Element) → e ≡ Group kind place es → places_in es ≡ all_placed items →
    placed_in e ≡ placed.Group (kind_in kind) place (all_placed items)
group-is e kind place es items is all = ap placed_in is ∙ placed_in-Group kind place es ∙ ap (placed.Group (kind_in kind) place) all

pub span-is : (e : Element) (es : Elements) (closing : ℕ) (items : List Element) → e ≡ Span es closing → places_in es ≡ all_placed items →
    placed_in e ≡ placed.Span (all_placed items) closing
span-is e es closing items is all = ap placed_in is ∙ placed_in-Span es closing ∙ ap (λ us. placed.Span us closing) all

-- elements in parts, without places
pub around-bare : (all us later : Places) (e : Placed) → all ≡ placed.joined us (more e later) → bare_all all ≡ joined (bare_all us) (part.more (bare e) (bare_all later))
around-bare all us later e is = ap bare_all is ∙ bare-joined us (more e later)

-- what holds of groups and spans holds of an element that is no event
pub no_event : (P : Placed → Type 0) (e : Element) →
    ((kind : GroupKind) × (place : ℕ) × (es : Elements) × (e ≡ Group kind place es)) ⊎ ((es : Elements) × (closing : ℕ) × (e ≡ Span es closing)) →
    ((kind : Kind) (place : ℕ) (es : Places) → P (placed.Group kind place es)) → ((es : Places) (closing : ℕ) → P (placed.Span es closing)) → P (placed_in e)
no_event P e (inl w) group span = subst P (sym (ap placed_in w.3 ∙ placed_in-Group w.0 w.1 w.2)) (group (kind_in w.0) w.1 (places_in w.2))
no_event P e (inr w) group span = subst P (sym (ap placed_in w.2 ∙ placed_in-Span w.0 w.1)) (span (places_in w.0) w.1)
