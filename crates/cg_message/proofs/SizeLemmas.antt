-- Counts of elements, and which events they have.
use Rattle.std.proofs.Common.{◌≡◌, ℕ, ◌+◌, ◌-◌, ◌<◌, Bool, true, false, ◌||◌, List, ◌∷◌, [], ◌++◌, length, take, drop, get_or, arith, refl, sym, ap, ◌∙◌}
use Rattle.std.proofs.Math.Bool.{or-false, or_assoc}
use Rattle.std.proofs.lemmas.List.{take_all, take_more, length-drop}
use Rattle.cg_part.specs.Elements.{has, has_among, open_events, open_in}
use Rattle.cg_recipe.specs.Bounds.{events_in, events_among}
use Rattle.cg_message.specs.Placed as placed
use Rattle.cg_message.specs.Placed.{Places, bare, bare_all}
use Rattle.cg_message.specs.Element.{placed_in, all_placed, element_in, all_in}
use Rattle.cg_message.specs.declared.element.Element as code
use Rattle.cg_message.proofs.ElementLemmas.{all_placed-push, all_placed-split, all_placed-next, all_in-next}

-- neither has it
pub none_has : (a b : Bool) → (a || b) ≡ false → (a ≡ false) × (b ≡ false)
none_has true b h = absurd (cc)
none_has false b h = (refl, h)

-- the other has it
pub later_has : (a b : Bool) → a ≡ false → (a || b) ≡ true → b ≡ true
later_has a b h k = let e : (a || b) ≡ b = rw h refl in sym e ∙ k

-- one more behind
pub has_among-with : (event : ℕ) (us : Places) (e : placed.Placed) → has_among event (bare_all (placed.elements_with us e)) ≡ (has_among event (bare_all us) || has event (bare e))
has_among-with event placed.none e = or-false (has event (bare e))
has_among-with event (placed.more u us) e =
    ap (λ b. has event (bare u) || b) (has_among-with event us e) ∙ sym (or_assoc (has event (bare u)) (has_among event (bare_all us)) (has event (bare e)))

-- the open events of the first of the elements that are left, and of the later ones
pub open-next : (items : List code.Element) (i : ℕ) (e : code.Element) → i < length items → e ≡ get_or items i e →
    open_in (all_in (drop i items)) ≡ open_events (element_in e) + open_in (all_in (drop (i + 1) items))
open-next items i e within is = ap open_in (all_in-next items i e within is)

-- its events
pub events-next : (items : List code.Element) (i : ℕ) (e : code.Element) → i < length items → e ≡ get_or items i e →
    events_among (all_in (drop i items)) ≡ events_in (element_in e) + events_among (all_in (drop (i + 1) items))
events-next items i e within is = ap events_among (all_in-next items i e within is)

-- whether it has an event
pub has-next : (event : ℕ) (items : List code.Element) (i : ℕ) (e : code.Element) → i < length items → e ≡ get_or items i e →
    has_among event (all_in (drop i items)) ≡ (has event (element_in e) || has_among event (all_in (drop (i + 1) items)))
has-next event items i e within is = ap (has_among event) (all_in-next items i e within is)

-- one more of those before
pub before-next : (event : ℕ) (items : List code.Element) (i : ℕ) (e : code.Element) → i < length items → e ≡ get_or items i e →
    has_among event (all_in (take (i + 1) items)) ≡ (has_among event (all_in (take i items)) || has event (element_in e))
before-next event items i e within is =
    ap (λ xs. has_among event (all_in xs)) (take_more items i e within ∙ ap (λ x. take i items ++ x ∷ []) (sym is))
    ∙ ap (λ us. has_among event (bare_all us)) (all_placed-push (take i items) e) ∙ has_among-with event (all_placed (take i items)) (placed_in e)

-- those before one, that one, and those behind it
pub all_placed-around : (items : List code.Element) (place : ℕ) (e : code.Element) → place < length items → e ≡ get_or items place e →
    all_placed items ≡ placed.joined (all_placed (take place items)) (placed.more (placed_in e) (all_placed (take (length items - (place + 1)) (drop (place + 1) items))))
all_placed-around items place e within is =
    all_placed-split items place ∙ ap (placed.joined (all_placed (take place items))) (all_placed-next items place e within is)
    ∙ ap (λ xs. placed.joined (all_placed (take place items)) (placed.more (placed_in e) (all_placed xs))) (sym (take_all (length items - (place + 1)) (drop (place + 1) items) (omega (arith, length-drop (place + 1) items))))
