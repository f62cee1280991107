-- Places in a list that is two parts.
use Rattle.std.proofs.Common.{◌≡◌, ℕ, zero, suc, ◌+◌, ◌<◌, Bool, true, false, cond, List, [], ◌∷◌, ◌++◌, length, take, ap, ◌∙◌, subst, arith, inl, inr, length-append, Some}
use Rattle.std.specs.Prelude.{◌⊎◌, slice_get, option_map, All, count_by}
use Rattle.std.proofs.lemmas.List.{get_or_append_left, get_or-append-add}
use Rattle.std.proofs.lemmas.List.Sums.{count_by_more_yes, count_by_more_no, sum_by-take-le}
use Rattle.std.proofs.lemmas.Option.{slice_get_within, get_or_from_slice_get}

-- what stands in the first part
pub slice_get-front : {A : Type 0} (xs ys : List A) (n : ℕ) (x : A) → slice_get xs n ≡ Some x → slice_get (xs ++ ys) n ≡ Some x
slice_get-front [] ys n x h = cc
slice_get-front (a ∷ xs) ys zero x h = h
slice_get-front (a ∷ xs) ys (suc n) x h = slice_get-front xs ys n x h

-- what stands behind it
pub slice_get-behind : {A : Type 0} (xs ys : List A) (n m : ℕ) → m + length xs ≡ n → slice_get (xs ++ ys) n ≡ slice_get ys m
slice_get-behind [] ys n m h = ap (λ k. slice_get ys k) (omega arith)
slice_get-behind (a ∷ xs) ys zero m h = absurd (omega arith)
slice_get-behind (a ∷ xs) ys (suc n) m h = slice_get-behind xs ys n m (omega arith)

-- what holds of each element holds of one at a place
pub All-slice_get : {A : Type 0} (P : A → Type 0) (xs : List A) (n : ℕ) (x : A) → All P xs → slice_get xs n ≡ Some x → P x
All-slice_get P xs n x all is = subst P (get_or_from_slice_get xs n x x is) (all n x (slice_get_within xs n x is))

-- a place where something stands is inside
pub option_map-within : {A B : Type 0} (f : A → B) (xs : List A) (n : ℕ) (y : B) → option_map f (slice_get xs n) ≡ Some y → n < length xs
option_map-within f [] n y is = absurd (cc)
option_map-within f (a ∷ xs) zero y is = omega arith
option_map-within f (a ∷ xs) (suc n) y is = omega (arith, option_map-within f xs n y is)

-- what stands in two parts stands in the first, or behind it
pub slice_get-append : {A : Type 0} (xs ys : List A) (n : ℕ) (x : A) → slice_get (xs ++ ys) n ≡ Some x → (slice_get xs n ≡ Some x) ⊎ ((m : ℕ) × (slice_get ys m ≡ Some x))
slice_get-append [] ys n x is = inr (n, is)
slice_get-append (a ∷ xs) ys zero x is = inl is
slice_get-append (a ∷ xs) ys (suc n) x is = slice_get-append xs ys n x is

-- what holds of two parts holds of the first
pub All-left : {A : Type 0} (P : A → Type 0) (xs ys : List A) → All P (xs ++ ys) → All P xs
All-left P xs ys all =
    λ k d within. subst P (get_or_append_left xs ys d k within) (all k d (omega (arith, length-append xs ys)))

-- and of the second
pub All-right : {A : Type 0} (P : A → Type 0) (xs ys : List A) → All P (xs ++ ys) → All P ys
All-right P xs ys all =
    λ k d within. subst P (get_or-append-add xs ys k d) (all (length xs + k) d (omega (arith, length-append xs ys)))

-- one more element is counted where it passes
pub count_by-yes : {A : Type 0} (p : A → Bool) (xs : List A) (n : ℕ) (x : A) → slice_get xs n ≡ Some x → p x ≡ true → count_by p (take (n + 1) xs) ≡ count_by p (take n xs) + 1
count_by-yes p xs n x is passes = count_by_more_yes p xs n x (slice_get_within xs n x is) (ap p (get_or_from_slice_get xs n x x is) ∙ passes)

-- and isn't where it doesn't
pub count_by-no : {A : Type 0} (p : A → Bool) (xs : List A) (n : ℕ) (x : A) → slice_get xs n ≡ Some x → p x ≡ false → count_by p (take (n + 1) xs) ≡ count_by p (take n xs)
count_by-no p xs n x is fails = count_by_more_no p xs n x (slice_get_within xs n x is) (ap p (get_or_from_slice_get xs n x x is) ∙ fails)

-- fewer pass before one that passes than pass at all
pub count_by-before : {A : Type 0} (p : A → Bool) (xs : List A) (n : ℕ) (x : A) → slice_get xs n ≡ Some x → p x ≡ true → count_by p (take n xs) < count_by p xs
count_by-before p xs n x is passes = omega (arith, count_by-yes p xs n x is passes, sum_by-take-le (λ a. cond (p a) 1 0) xs (n + 1))
