-- Which slots a list has, and a list without one.
use Rattle.std.proofs.Common.{◌≡◌, ◌≢◌, ℕ, zero, suc, Bool, true, false, not, cond, eqb, List, [], ◌∷◌, ◌||◌, refl, ap, sym, ◌∙◌, Some}
use Rattle.std.proofs.lemmas.Bool.{eqb-false, eqb-true, eq-eqb, ne_eqb, or_parts, or_from, or_left, or_right}
use Rattle.std.specs.List.{IsDistinct, slice_get, AllByRecursion}
use Rattle.cg_rings.specs.Lists.{has, without}
use Rattle.cg_rings.specs.Threaded.{IsOut, IsOnce}

-- a slot that a list doesn't have is none of its elements
pub out_from_has : (x : ℕ) (xs : List ℕ) → has x xs ≡ false → IsOut x xs
out_from_has x [] h = tt
out_from_has x (y ∷ ys) h =
    let p = or_parts (eqb x y) (has x ys) h in
    ((λ (e : y ≡ x). eqb-false x y p.0 (sym e)), out_from_has x ys p.1)

-- and the other way round
pub has_from_out : (x : ℕ) (xs : List ℕ) → IsOut x xs → has x xs ≡ false
has_from_out x [] out = refl
has_from_out x (y ∷ ys) out =
    or_from (eqb x y) (has x ys) (ne_eqb x y (λ e. out.0 (sym e))) (has_from_out x ys out.1)

-- a list has its front
pub has_front : (x : ℕ) (xs : List ℕ) → has x (x ∷ xs) ≡ true
has_front x xs = or_left (eqb x x) (has x xs) (eq-eqb x x refl)

-- and another slot exactly where the rest has it
pub has_else : (x y : ℕ) (xs : List ℕ) → x ≢ y → has x (y ∷ xs) ≡ has x xs
has_else x y xs ne = rw (ne_eqb x y ne) refl

-- an element of a list is in it
pub has_from_get : (x : ℕ) (xs : List ℕ) (k : ℕ) → slice_get xs k ≡ Some x → has x xs ≡ true
has_from_get x [] k e = cc
has_from_get x (y ∷ ys) zero e = or_left (eqb x y) (has x ys) (eq-eqb x y (cc))
has_from_get x (y ∷ ys) (suc k) e = or_right (eqb x y) (has x ys) (has_from_get x ys k e)

-- a list without what it doesn't have is the list itself
pub without_out : (x : ℕ) (xs : List ℕ) → IsOut x xs → without x xs ≡ xs
without_out x [] out = refl
without_out x (y ∷ ys) out = rw (ne_eqb x y (λ e. out.0 (sym e))) (ap (λ zs. y ∷ zs) (without_out x ys out.1))

-- one element, kept or not
out_step : (x y : ℕ) (b : Bool) (ys zs : List ℕ) → y ≢ x → IsOut x zs → IsOut x (cond b (y ∷ zs) zs)
out_step x y true ys zs ne out = (ne, out)
out_step x y false ys zs ne out = out

-- what isn't in a list isn't in a part of it
pub out_without : (x y : ℕ) (xs : List ℕ) → IsOut x xs → IsOut x (without y xs)
out_without x y [] out = tt
out_without x y (z ∷ zs) out = out_step x z (not (eqb y z)) zs (without y zs) out.0 (out_without x y zs out.1)

-- one element, kept or not
once_step : (y : ℕ) (b : Bool) (zs : List ℕ) → IsOut y zs → IsOnce zs → IsOnce (cond b (y ∷ zs) zs)
once_step y true zs out once = (out, once)
once_step y false zs out once = once

-- a list without a slot has each slot once
pub once_without : (x : ℕ) (xs : List ℕ) → IsOnce xs → IsOnce (without x xs)
once_without x [] once = tt
once_without x (y ∷ ys) once =
    once_step y (not (eqb x y)) (without x ys) (out_without y x ys once.0) (once_without x ys once.1)

-- the slot itself isn't kept
same_step : (x y : ℕ) (b : Bool) (zs : List ℕ) → eqb x y ≡ b → has x zs ≡ false → has x (cond (not b) (y ∷ zs) zs) ≡ false
same_step x y true zs e h = h
same_step x y false zs e h = or_from (eqb x y) (has x zs) e h

-- a list without a slot doesn't have it
pub has_without_same : (x : ℕ) (xs : List ℕ) → has x (without x xs) ≡ false
has_without_same x [] = refl
has_without_same x (y ∷ ys) = same_step x y (eqb x y) (without x ys) refl (has_without_same x ys)

-- another slot is kept where it was there
other_step : (x y z : ℕ) (b : Bool) (zs ws : List ℕ) → x ≢ y → eqb y z ≡ b → has x ws ≡ has x zs → has x (cond (not b) (z ∷ ws) ws) ≡ has x (z ∷ zs)
other_step x y z true zs ws ne e h = h ∙ sym (has_else x z zs (λ (k : x ≡ z). ne (k ∙ sym (eqb-true y z e))))
other_step x y z false zs ws ne e h = ap (λ b. eqb x z || b) h

-- and it has the others as before
pub has_without_other : (x y : ℕ) (xs : List ℕ) → x ≢ y → has x (without y xs) ≡ has x xs
has_without_other x y [] ne = refl
has_without_other x y (z ∷ zs) ne = other_step x y z (eqb y z) zs (without y zs) ne refl (has_without_other x y zs ne)

-- a slot that isn't in a list differs from each in it
apart_from : (x : ℕ) (xs : List ℕ) → IsOut x xs → AllByRecursion (λ y. eqb x y ≡ false) xs
apart_from x [] out = tt
apart_from x (y ∷ ys) out = (ne_eqb x y (λ e. out.0 (sym e)), apart_from x ys out.1)

-- the same in the words of std
pub distinct_from_once : (xs : List ℕ) → IsOnce xs → IsDistinct eqb xs
unfolding IsDistinct
distinct_from_once [] once = tt
distinct_from_once (x ∷ xs) once = (apart_from x xs once.0, distinct_from_once xs once.1)
