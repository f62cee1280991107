-- One element of a list is written.
use Rattle.std.proofs.Common.{◌≡◌, ℕ, zero, suc, Bool, true, false, ◌||◌, List, [], ◌∷◌, drop, map, refl, sym, ap, ◌∙◌, Some}
use Rattle.std.specs.Prelude.{slice_get, slice_set}
use Rattle.std.specs.List.{list_any}

pub set-same : {A : Type 0} (xs : List A) (i : ℕ) (x : A) → slice_get xs i ≡ Some x → slice_set xs i x ≡ xs
set-same [] i x at = absurd (cc)
set-same (z ∷ zs) zero x at = let here : z ≡ x = cc in ap (λ y. y ∷ zs) (sym here)
set-same (z ∷ zs) (suc i) x at = ap (λ ys. z ∷ ys) (set-same zs i x at)

pub map-set_at : {A B : Type 0} (f : A → B) (xs : List A) (i : ℕ) (x y : A) → slice_get xs i ≡ Some x → f y ≡ f x → map f (slice_set xs i y) ≡ map f xs
map-set_at f [] i x y at same = absurd (cc)
map-set_at f (z ∷ zs) zero x y at same = let here : z ≡ x = cc in ap (λ b. b ∷ map f zs) (same ∙ ap f (sym here))
map-set_at f (z ∷ zs) (suc i) x y at same = ap (λ bs. f z ∷ bs) (map-set_at f zs i x y at same)

-- what stands from a place on
pub drop-get : {A : Type 0} (xs : List A) (i : ℕ) (x : A) → slice_get xs i ≡ Some x → drop i xs ≡ x ∷ drop (suc i) xs
drop-get [] i x at = absurd (cc)
drop-get (z ∷ zs) zero x at = let here : z ≡ x = cc in ap (λ y. y ∷ zs) here
drop-get (z ∷ zs) (suc i) x at = drop-get zs i x at

-- with one that passes where the former did
written_first : (before after others : Bool) → (before ≡ true → after ≡ true) → (after || others) ≡ ((before || others) || after)
written_first true after others stays = ap (λ b. b || others) (stays refl)
written_first false true true stays = refl
written_first false true false stays = refl
written_first false false true stays = refl
written_first false false false stays = refl

or_assoc : (a b c : Bool) → (a || (b || c)) ≡ ((a || b) || c)
or_assoc true b c = refl
or_assoc false b c = refl

pub list_any-set : {A : Type 0} (p : A → Bool) (xs : List A) (i : ℕ) (x y : A) → slice_get xs i ≡ Some x → (p x ≡ true → p y ≡ true) → list_any p (slice_set xs i y) ≡ (list_any p xs || p y)
list_any-set p [] i x y at stays = absurd (cc)
list_any-set p (z ∷ zs) zero x y at stays = let here : z ≡ x = cc in written_first (p z) (p y) (list_any p zs) (λ is. stays (ap p (sym here) ∙ is))
list_any-set p (z ∷ zs) (suc i) x y at stays = ap (λ b. p z || b) (list_any-set p zs i x y at stays) ∙ or_assoc (p z) (list_any p zs) (p y)
