-- Sums over the cells that pass a test.
use Rattle.std.proofs.Common.{◌≡◌, ℕ, zero, suc, ◌+◌, ◌<◌, ◌≤◌, Bool, true, false, cond, eqb, ne_eqb, List, [], ◌∷◌, length, get_or, map, refl, sym, ap, ◌∙◌, arith, inl, inr, add-one}
use Rattle.std.specs.List.{All, AllPairs, filter, range_with_len, sum_by}
use Rattle.std.specs.Prelude.{◌≢◌}
use Rattle.std.proofs.lemmas.Bool.{cases_Bool}
use Rattle.std.proofs.lemmas.List.{length-map, get_or-map}
use Rattle.std.proofs.lemmas.List.Elements.{All-head, All-tail}
use Rattle.std.proofs.lemmas.List.Sums.{sum_by-cons, sum_by-append, sum-map}
use Rattle.cg_meaning.specs.Sums.{sum_below}
use Rattle.cg_meaning.proofs.Sums.{sum_below-same, sum_below-add, sum_below-list}
use Rattle.cg_meaning.proofs.Marginals.{sum_below-pick}
use Rattle.cg_ranges.proofs.RunLemmas.{filter-range_more}

-- one more cell
more_by : (f : ℕ → ℕ) (n : ℕ) (b : Bool) → sum_by f (cond b (n ∷ []) []) ≡ cond b (f n) 0
more_by f n true = sum_by-cons f n [] ∙ omega arith
more_by f n false = refl

-- of all cells below n
pub sum_by-passing : (f : ℕ → ℕ) (p : ℕ → Bool) (n : ℕ) →
    sum_by f (filter p (range_with_len 0 n)) ≡ sum_below n (λ c. cond (p c) (f c) 0)
sum_by-passing f p zero = refl
sum_by-passing f p (suc n) =
    ap (λ (k : ℕ). sum_by f (filter p (range_with_len 0 k))) (sym (add-one n)) ∙ ap (sum_by f) (filter-range_more p n)
    ∙ sum_by-append f (filter p (range_with_len 0 n)) (cond (p n) (n ∷ []) [])
    ∙ omega (arith, sum_by-passing f p n, more_by f n (p n))

ones : (xs : List ℕ) → length xs ≡ sum_by (λ _. 1) xs
ones [] = refl
ones (x ∷ xs) = omega (arith, ones xs, sum_by-cons (λ _. 1) x xs)

-- how many of them there are
pub length-passing : (p : ℕ → Bool) (n : ℕ) → length (filter p (range_with_len 0 n)) ≡ sum_below n (λ c. cond (p c) 1 0)
length-passing p n = ones (filter p (range_with_len 0 n)) ∙ sum_by-passing (λ _. 1) p n

-- a list's sum, place by place
pub sum_by-places : {X : Type 0} (f : X → ℕ) (xs : List X) (d : X) → sum_by f xs ≡ sum_below (length xs) (λ i. f (get_or xs i d))
sum_by-places f xs d =
    sym (sum-map f xs) ∙ sym (sum_below-list (map f xs))
    ∙ ap (λ (n : ℕ). sum_below n (λ i. get_or (map f xs) i 0)) (length-map xs f)
    ∙ sum_below-same (length xs) (λ i. get_or (map f xs) i 0) (λ i. f (get_or xs i d)) (λ i less. get_or-map f xs i d 0 less)

-- a sum of terms that are equal on the list
pub sum_by-agree : {X : Type 0} (f g : X → ℕ) (xs : List X) → All (λ x. f x ≡ g x) xs → sum_by f xs ≡ sum_by g xs
sum_by-agree f g [] same = refl
sum_by-agree f g (x ∷ xs) same =
    omega (
      arith,
      sum_by-cons f x xs,
      sum_by-cons g x xs,
      All-head (λ y. f y ≡ g y) x xs same,
      sum_by-agree f g xs (All-tail (λ y. f y ≡ g y) x xs same),
    )

filter_by : (f : ℕ → ℕ) (x : ℕ) (xs : List ℕ) (b : Bool) → sum_by f (cond b (x ∷ xs) xs) ≡ cond b (f x) 0 + sum_by f xs
filter_by f x xs true = sum_by-cons f x xs
filter_by f x xs false = omega arith

-- what does not pass counts as 0
pub sum_by-filter : (f : ℕ → ℕ) (p : ℕ → Bool) (xs : List ℕ) → sum_by f (filter p xs) ≡ sum_by (λ x. cond (p x) (f x) 0) xs
sum_by-filter f p [] = refl
sum_by-filter f p (x ∷ xs) =
    omega (arith, filter_by f x (filter p xs) (p x), sum_by-filter f p xs, sum_by-cons (λ y. cond (p y) (f y) 0) x xs)

cut : (f : ℕ → ℕ) (d : ℕ) → (c : ℕ) → f c ≡ cond (eqb d c) (f c) 0 + cond (eqb d c) 0 (f c)
cut f d c =
    elim (cases_Bool (eqb d c)) [
      | inl e ↦ rw e (omega arith)
      | inr e ↦ rw e (omega arith)
    ]

-- different cells below n sum to no more than all
pub sum_by-different : (f : ℕ → ℕ) (n : ℕ) (cells : List ℕ) → All (λ c. c < n) cells → AllPairs (λ a b. a ≢ b) cells →
    sum_by f cells ≤ sum_below n f
sum_by-different f n [] within apart = omega arith
sum_by-different f n (d ∷ cells) within apart =
    let g : ℕ → ℕ = λ c. cond (eqb d c) 0 (f c) in
    let less : d < n = All-head (λ c. c < n) d cells within in
    let rest = sum_by-different g n cells (All-tail (λ c. c < n) d cells within) (λ i j e h k. apart (suc i) (suc j) e (omega arith) (omega arith)) in
    let others : All (λ c. f c ≡ g c) cells = λ k e h. rw (ne_eqb d (get_or cells k e) (apart 0 (suc k) e (omega arith) (omega arith))) refl in
    let all = sum_below-same n f (λ c. cond (eqb d c) (f c) 0 + g c) (λ c h. cut f d c) ∙ sum_below-add n (λ c. cond (eqb d c) (f c) 0) g in
    omega (arith, sum_by-cons f d cells, sum_by-agree f g cells others, rest, all, sum_below-pick n d f less)
