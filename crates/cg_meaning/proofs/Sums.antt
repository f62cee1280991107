-- Sums over cells and over lists of cells.
use Rattle.std.proofs.Common.{◌≡◌, ℕ, zero, suc, ◌+◌, ◌*◌, ◌<◌, ◌≤◌, true, false, cond, ◌⊎◌, inl, inr, List, [], ◌∷◌, ◌++◌, length, refl, sym, ap, ap₂, ◌∙◌, arith, leb, le-leb, map, get_or, sum, add-one, zero-add}
use Rattle.std.specs.List.{range_with_len}
use Rattle.std.proofs.lemmas.List.FromFn.{sum_by-map-range_with_len_more}
use Rattle.std.proofs.lemmas.List.Sums.{sum_by-cons}
use Rattle.std.proofs.lemmas.Bool.{cases_lt, cond-false, lt-leb}
use Rattle.std.proofs.Math.Nat.{mul_comm, mul-add, add-mul}
use Rattle.cg_meaning.specs.Sums.{sum_below, sum_over}

-- equal terms, equal sums
pub sum_below-same : (n : ℕ) (f g : ℕ → ℕ) → ((k : ℕ) → k < n → f k ≡ g k) → sum_below n f ≡ sum_below n g
sum_below-same zero f g same = refl
sum_below-same (suc n) f g same =
    ap₂ (λ a b. a + b) (sum_below-same n f g (λ k h. same k (omega arith))) (same n (omega arith))

-- terms that are 0
pub sum_below-zero : (n : ℕ) (f : ℕ → ℕ) → ((k : ℕ) → k < n → f k ≡ 0) → sum_below n f ≡ 0
sum_below-zero zero f none = refl
sum_below-zero (suc n) f none = omega (arith, sum_below-zero n f (λ k h. none k (omega arith)), none n (omega arith))

-- terms that are at most b
pub sum_below-le : (n b : ℕ) (f : ℕ → ℕ) → ((k : ℕ) → k < n → f k ≤ b) → sum_below n f ≤ n * b
sum_below-le zero b f small = omega arith
sum_below-le (suc n) b f small =
    omega (arith, sum_below-le n b f (λ k h. small k (omega arith)), small n (omega arith), add-mul n 1 b)

-- terms that are no greater
pub sum_below-mono : (n : ℕ) (f g : ℕ → ℕ) → ((k : ℕ) → k < n → f k ≤ g k) → sum_below n f ≤ sum_below n g
sum_below-mono zero f g small = omega arith
sum_below-mono (suc n) f g small = omega (arith, sum_below-mono n f g (λ k h. small k (omega arith)), small n (omega arith))

-- the first term and the rest
pub sum_below-first : (n : ℕ) (f : ℕ → ℕ) → sum_below (suc n) f ≡ f 0 + sum_below n (λ k. f (suc k))
sum_below-first zero f = omega arith
sum_below-first (suc n) f = omega (arith, sum_below-first n f)

-- the sum of a list
pub sum_below-list : (xs : List ℕ) → sum_below (length xs) (λ k. get_or xs k 0) ≡ sum xs
sum_below-list [] = refl
sum_below-list (x ∷ xs) =
    sum_below-first (length xs) (λ k. get_or (x ∷ xs) k 0) ∙ ap (λ rest. x + rest) (sum_below-list xs) ∙ sym (sum_by-cons (λ y. y) x xs)

-- the list of all terms
pub sum_below-map : (n : ℕ) (f : ℕ → ℕ) → sum (map f (range_with_len 0 n)) ≡ sum_below n f
sum_below-map zero f = refl
sum_below-map (suc n) f =
    ap (λ k. sum (map f (range_with_len 0 k))) (sym (add-one n))
    ∙ sum_by-map-range_with_len_more (λ x. x) f 0 n n (zero-add n) ∙ ap (λ before. before + f n) (sum_below-map n f)

-- the sum of two sums
pub sum_below-add : (n : ℕ) (f g : ℕ → ℕ) → sum_below n (λ k. f k + g k) ≡ sum_below n f + sum_below n g
sum_below-add zero f g = refl
sum_below-add (suc n) f g = omega (arith, sum_below-add n f g)

-- a common factor
pub sum_below-scale : (n a : ℕ) (f : ℕ → ℕ) → sum_below n (λ k. a * f k) ≡ a * sum_below n f
sum_below-scale zero a f = omega arith
sum_below-scale (suc n) a f = omega (arith, sum_below-scale n a f, mul-add a (sum_below n f) (f n))

-- the order of two sums does not matter
pub sum_below-swap : (n m : ℕ) (f : ℕ → ℕ → ℕ) →
    sum_below n (λ i. sum_below m (λ j. f i j)) ≡ sum_below m (λ j. sum_below n (λ i. f i j))
sum_below-swap zero m f = sym (sum_below-zero m (λ j. 0) (λ k h. refl))
sum_below-swap (suc n) m f =
    ap (λ a. a + sum_below m (λ j. f n j)) (sum_below-swap n m f)
    ∙ sym (sum_below-add m (λ j. sum_below n (λ i. f i j)) (λ j. f n j))

-- a sum from `a` on, by whether `a` is its last cell
sum_below-from_at : (n a : ℕ) (f : ℕ → ℕ) → (a < n) ⊎ (n ≤ a) → a ≤ n →
    (a < n → sum_below n (λ k. cond (leb a k) (f k) 0) ≡ f a + sum_below n (λ k. cond (leb (a + 1) k) (f k) 0)) →
    sum_below (suc n) (λ k. cond (leb a k) (f k) 0) ≡ f a + sum_below (suc n) (λ k. cond (leb (a + 1) k) (f k) 0)
sum_below-from_at n a f (inl below) within before =
    let here : leb a n ≡ true = le-leb a n (omega arith) in
    let next : leb (a + 1) n ≡ true = le-leb (a + 1) n (omega arith) in
    rw (here, next) (omega (arith, before below))
sum_below-from_at n a f (inr last) within before =
    let here : leb a n ≡ true = le-leb a n (omega arith) in
    let next : leb (a + 1) n ≡ false = lt-leb (a + 1) n (omega arith) in
    let same : a ≡ n = omega arith in
    let low : sum_below n (λ k. cond (leb a k) (f k) 0) ≡ 0 =
    sum_below-zero n (λ k. cond (leb a k) (f k) 0) (λ k h. cond-false (leb a k) (f k) 0 (lt-leb a k (omega arith))) in
    let high : sum_below n (λ k. cond (leb (a + 1) k) (f k) 0) ≡ 0 =
    sum_below-zero n (λ k. cond (leb (a + 1) k) (f k) 0) (λ k h. cond-false (leb (a + 1) k) (f k) 0 (lt-leb (a + 1) k (omega arith))) in
    let term : f n ≡ f a = ap f (sym same) in
    rw (here, next) (omega (arith, low, high, term))

-- the sum from `a` on is its first term and the rest
pub sum_below-from : (n a : ℕ) (f : ℕ → ℕ) → a < n →
    sum_below n (λ k. cond (leb a k) (f k) 0) ≡ f a + sum_below n (λ k. cond (leb (a + 1) k) (f k) 0)
sum_below-from zero a f h = absurd (omega arith)
sum_below-from (suc n) a f h = sum_below-from_at n a f (cases_lt a n) (omega arith) (sum_below-from n a f)

-- each of the cells is below the grid's number of cells
unfoldable pub AreCells : ℕ → List ℕ → Type 0
AreCells grid_cells [] = Unit {0}
AreCells grid_cells (c ∷ cs) = (c < grid_cells) × AreCells grid_cells cs

-- equal terms, equal sums
pub sum_over-same : (g n : ℕ) (e f : List ℕ → ℕ) →
    ((cells : List ℕ) → length cells ≡ n → AreCells g cells → e cells ≡ f cells) → sum_over g n e ≡ sum_over g n f
unfolding AreCells
sum_over-same g zero e f same = same [] refl tt
sum_over-same g (suc n) e f same =
    sum_below-same g (λ c. sum_over g n (λ cs. e (c ∷ cs))) (λ c. sum_over g n (λ cs. f (c ∷ cs)))
    (λ c h. sum_over-same g n (λ cs. e (c ∷ cs)) (λ cs. f (c ∷ cs)) (λ cs l all. same (c ∷ cs) (ap (λ k. suc k) l) (h, all)))

-- terms that are 0
pub sum_over-zero : (g n : ℕ) (f : List ℕ → ℕ) →
    ((cells : List ℕ) → length cells ≡ n → AreCells g cells → f cells ≡ 0) → sum_over g n f ≡ 0
unfolding AreCells
sum_over-zero g zero f none = none [] refl tt
sum_over-zero g (suc n) f none =
    sum_below-zero g (λ c. sum_over g n (λ cs. f (c ∷ cs)))
    (λ c h. sum_over-zero g n (λ cs. f (c ∷ cs)) (λ cs l all. none (c ∷ cs) (ap (λ k. suc k) l) (h, all)))

-- a common factor
pub sum_over-scale : (g n a : ℕ) (f : List ℕ → ℕ) → sum_over g n (λ cells. a * f cells) ≡ a * sum_over g n f
sum_over-scale g zero a f = refl
sum_over-scale g (suc n) a f =
    sum_below-same g (λ c. sum_over g n (λ cs. a * f (c ∷ cs))) (λ c. a * sum_over g n (λ cs. f (c ∷ cs)))
    (λ c h. sum_over-scale g n a (λ cs. f (c ∷ cs)))
    ∙ sum_below-scale g a (λ c. sum_over g n (λ cs. f (c ∷ cs)))

-- the sum of two sums
pub sum_over-add : (g n : ℕ) (e f : List ℕ → ℕ) → sum_over g n (λ cells. e cells + f cells) ≡ sum_over g n e + sum_over g n f
sum_over-add g zero e f = refl
sum_over-add g (suc n) e f =
    sum_below-same g (λ c. sum_over g n (λ cs. e (c ∷ cs) + f (c ∷ cs)))
    (λ c. sum_over g n (λ cs. e (c ∷ cs)) + sum_over g n (λ cs. f (c ∷ cs)))
    (λ c h. sum_over-add g n (λ cs. e (c ∷ cs)) (λ cs. f (c ∷ cs)))
    ∙ sum_below-add g (λ c. sum_over g n (λ cs. e (c ∷ cs))) (λ c. sum_over g n (λ cs. f (c ∷ cs)))

-- first m cells, and then n more
pub sum_over-append : (g m n : ℕ) (f : List ℕ → ℕ) →
    sum_over g (m + n) f ≡ sum_over g m (λ xs. sum_over g n (λ ys. f (xs ++ ys)))
sum_over-append g zero n f = ap (λ k. sum_over g k f) (omega arith)
sum_over-append g (suc m) n f =
    let more : suc m + n ≡ suc (m + n) = omega arith in
    ap (λ k. sum_over g k f) more
    ∙ sum_below-same g (λ c. sum_over g (m + n) (λ cs. f (c ∷ cs))) (λ c. sum_over g m (λ xs. sum_over g n (λ ys. f (c ∷ xs ++ ys))))
    (λ c h. sum_over-append g m n (λ cs. f (c ∷ cs)))

-- a sum over lists and one over cells change places
pub sum_over-below_swap : (g m n : ℕ) (f : List ℕ → ℕ → ℕ) →
    sum_over g m (λ xs. sum_below n (λ k. f xs k)) ≡ sum_below n (λ k. sum_over g m (λ xs. f xs k))
sum_over-below_swap g zero n f = refl
sum_over-below_swap g (suc m) n f =
    sum_below-same g (λ c. sum_over g m (λ cs. sum_below n (λ k. f (c ∷ cs) k))) (λ c. sum_below n (λ k. sum_over g m (λ cs. f (c ∷ cs) k)))
    (λ c h. sum_over-below_swap g m n (λ cs k. f (c ∷ cs) k))
    ∙ sum_below-swap g n (λ c k. sum_over g m (λ cs. f (c ∷ cs) k))

-- a product of sums is the sum of the products over both lists
pub sum_over-times : (g m n : ℕ) (e f : List ℕ → ℕ) →
    sum_over g m e * sum_over g n f ≡ sum_over g m (λ xs. sum_over g n (λ ys. e xs * f ys))
sum_over-times g m n e f =
    mul_comm (sum_over g m e) (sum_over g n f) ∙ sym (sum_over-scale g m (sum_over g n f) e)
    ∙ sum_over-same g m (λ xs. sum_over g n f * e xs) (λ xs. sum_over g n (λ ys. e xs * f ys))
    (λ xs l all. mul_comm (sum_over g n f) (e xs) ∙ sym (sum_over-scale g n (e xs) f))
