-- Lists of slots, each slot read.
use Rattle.std.proofs.Common.{◌≡◌, ◌≢◌, ℕ, ◌-◌, Bool, true, false, cond, eqb, List, [], ◌∷◌, ◌++◌, ◌||◌, map, length, inl, inr, take, refl, ap, sym, ◌∙◌, Some, arith}
use Rattle.std.proofs.lemmas.Bool.{false≢true, eq-eqb, or_left, or_right, or_from, or_parts, cases_eq, ne_eqb}
use Rattle.std.proofs.lemmas.List.Folds.{list_any-append}
use Rattle.std.specs.List.{filter, list_any, slice_get, IsDistinct, AllByRecursion}
use Rattle.cg_rings.specs.Lists.{has, without}
use Rattle.cg_rings.proofs.SlotLemmas.{has_front, has_else, has_from_get}

module _ {B : Type 0} where
  -- one element, kept or not
  filter_step : (t : B → Bool) (u : ℕ → Bool) (f : ℕ → B) (x : ℕ) (xs : List ℕ) (b : Bool) → filter t (map f xs) ≡ map f (filter u xs) → cond b (f x ∷ filter t (map f xs)) (filter t (map f xs)) ≡ map f (cond b (x ∷ filter u xs) (filter u xs))
  filter_step t u f x xs true ih = ap (λ ys. f x ∷ ys) ih
  filter_step t u f x xs false ih = ih

  -- a test of what is read that agrees with a test of the slots
  pub filter_map : (t : B → Bool) (u : ℕ → Bool) (f : ℕ → B) (xs : List ℕ) → ((x : ℕ) → has x xs ≡ true → t (f x) ≡ u x) → filter t (map f xs) ≡ map f (filter u xs)
  filter_map t u f [] same = refl
  filter_map t u f (x ∷ xs) same =
      rw (same x (has_front x xs)) (filter_step t u f x xs (u x) (filter_map t u f xs (λ y h. same y (or_right (eqb y x) (has y xs) h))))

  -- what is read alike of each slot
  pub map_same : (f g : ℕ → B) (xs : List ℕ) → ((x : ℕ) → has x xs ≡ true → f x ≡ g x) → map f xs ≡ map g xs
  map_same f g [] same = refl
  map_same f g (x ∷ xs) same =
      rw (same x (has_front x xs)) (ap (λ ys. g x ∷ ys) (map_same f g xs (λ y h. same y (or_right (eqb y x) (has y xs) h))))

  -- no slot passes
  pub none_passes : (t : B → Bool) (f : ℕ → B) (xs : List ℕ) → ((x : ℕ) → has x xs ≡ true → t (f x) ≡ false) → list_any t (map f xs) ≡ false
  none_passes t f [] fails = refl
  none_passes t f (x ∷ xs) fails =
      or_from (t (f x)) (list_any t (map f xs)) (fails x (has_front x xs)) (none_passes t f xs (λ y h. fails y (or_right (eqb y x) (has y xs) h)))

  -- a slot passes
  pub one_passes : (t : B → Bool) (f : ℕ → B) (x : ℕ) (xs : List ℕ) → has x xs ≡ true → t (f x) ≡ true → list_any t (map f xs) ≡ true
  one_passes t f x [] h e = absurd (false≢true h)
  one_passes t f x (y ∷ ys) h e =
      elim (cases_eq x y) [
        | inl same ↦ or_left (t (f y)) (list_any t (map f ys)) (sym (ap (λ z. t (f z)) same) ∙ e)
        | inr ne ↦ or_right (t (f y)) (list_any t (map f ys)) (one_passes t f x ys (sym (has_else x y ys ne) ∙ h) e)
      ]

-- the front of a list with different elements isn't in the rest
distinct_front : (x : ℕ) (xs : List ℕ) → AllByRecursion (λ y. eqb x y ≡ false) xs → has x xs ≡ false
distinct_front x [] all = refl
distinct_front x (y ∷ ys) all = or_from (eqb x y) (has x ys) all.0 (distinct_front x ys all.1)

-- the same in the words of std
pub front_out : (x : ℕ) (xs : List ℕ) → IsDistinct eqb (x ∷ xs) → has x xs ≡ false
unfolding IsDistinct
front_out x xs d = distinct_front x xs d.0

-- and the rest has different elements
pub rest_distinct : (x : ℕ) (xs : List ℕ) → IsDistinct eqb (x ∷ xs) → IsDistinct eqb xs
unfolding IsDistinct
rest_distinct x xs d = d.1

-- a slot that isn't in a list differs from each in it
front_apart : (x : ℕ) (xs : List ℕ) → has x xs ≡ false → AllByRecursion (λ y. eqb x y ≡ false) xs
front_apart x [] h = tt
front_apart x (y ∷ ys) h = let p = or_parts (eqb x y) (has x ys) h in (p.0, front_apart x ys p.1)

-- so it may come to the front
pub distinct_more : (x : ℕ) (xs : List ℕ) → has x xs ≡ false → IsDistinct eqb xs → IsDistinct eqb (x ∷ xs)
unfolding IsDistinct
distinct_more x xs h d = (front_apart x xs h, d)

-- a slot is in two lists together where it is in one of them
pub has_append : (x : ℕ) (xs ys : List ℕ) → has x (xs ++ ys) ≡ (has x xs || has x ys)
has_append x xs ys = list_any-append (λ y. eqb x y) xs ys

-- two lists without a common slot
pub distinct_both : (xs ys : List ℕ) → IsDistinct eqb xs → IsDistinct eqb ys → ((x : ℕ) → has x xs ≡ true → has x ys ≡ false) → IsDistinct eqb (xs ++ ys)
distinct_both [] ys d e apart = e
distinct_both (x ∷ xs) ys d e apart =
    distinct_more x (xs ++ ys)
    (has_append x xs ys ∙ or_from (has x xs) (has x ys) (front_out x xs d) (apart x (has_front x xs)))
    (distinct_both xs ys (rest_distinct x xs d) e (λ y h. apart y (or_right (eqb y x) (has y xs) h)))

-- without the last of a list that has some
last_out : (x y : ℕ) (xs : List ℕ) → IsDistinct eqb (y ∷ xs) → slice_get (y ∷ xs) (length xs) ≡ Some x → without x (y ∷ xs) ≡ take (length xs) (y ∷ xs)
last_out x y [] d e = let same : x ≡ y = cc in rw (eq-eqb x y same) refl
last_out x y (z ∷ zs) d e =
    let h = has_from_get x (z ∷ zs) (length zs) e in
    let ne : x ≢ y = λ (k : x ≡ y). false≢true (sym (front_out y (z ∷ zs) d) ∙ (ap (λ w. has w (z ∷ zs)) (sym k) ∙ h)) in
    let rest : without x (z ∷ zs) ≡ take (length zs) (z ∷ zs) = last_out x z zs (rest_distinct y (z ∷ zs) d) e in
    rw (ne_eqb x y ne) (ap (λ ws. y ∷ ws) rest)

-- a list without its last is its front
pub without_last : (x : ℕ) (xs : List ℕ) → IsDistinct eqb xs → slice_get xs (length xs - 1) ≡ Some x → without x xs ≡ take (length xs - 1) xs
without_last x [] d e = refl
without_last x (y ∷ ys) d e =
    let place : length (y ∷ ys) - 1 ≡ length ys = omega arith in
    let here : slice_get (y ∷ ys) (length ys) ≡ Some x = ap (slice_get (y ∷ ys)) (sym place) ∙ e in
    last_out x y ys d here ∙ ap (λ n. take n (y ∷ ys)) (sym place)
