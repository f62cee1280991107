-- Bounds of span weights and of their products.
use Rattle.std.proofs.Common.{◌≡◌, ℕ, zero, suc, ◌+◌, ◌-◌, ◌*◌, ◌^◌, ◌<◌, ◌≤◌, List, [], ◌∷◌, ◌++◌, length, take, get_or, Option, Some, None, refl, sym, ap, ◌∙◌, arith, lit<, add-one, length-take, mul_comm}
use Rattle.std.specs.Prelude.{IsTrue, ◌==◌}
use Rattle.std.proofs.lemmas.Bool.Decides.{Decides-eqb}
use Rattle.std.proofs.lemmas.List.{take_more}
use Rattle.std.proofs.Math.Nat.{pow-zero, pow-succ', one-le-pow, pow-le-pow_right, mul-le-mul, mul-le-mul_left, mul_assoc, mul-one, div-le_self}
use Rattle.cg_meaning.specs.Pairs.{factorial, pair_at, span_weight}
use Rattle.cg_meaning.specs.Sums.{product_by}

-- a factorial is at least 1, and grows
pub factorial-some : (n : ℕ) → 1 ≤ factorial n
factorial-some zero = omega arith
factorial-some (suc n) = omega (arith, factorial-some n)

factorial-le : (more n m : ℕ) → m ≡ n + more → factorial n ≤ factorial m
factorial-le zero n m is = let same : m ≡ n = omega arith in omega (arith, ap factorial same)
factorial-le (suc more) n zero is = absurd (omega arith)
factorial-le (suc more) n (suc m) is = omega (arith, factorial-le more n m (omega arith))

-- one more factor
pub factorial-next : (done product : ℕ) → product ≡ factorial done → product * (done + 1) ≡ factorial (done + 1)
factorial-next done product is = rw (add-one, is) (omega (arith, mul_comm (factorial done) done))

-- where a factorial doesn't fit, no later one does
pub factorial-past : (n done product : ℕ) → product ≡ factorial done → done < n → (product * (done + 1) < 2 ^ 128 → ⊥) → factorial n < 2 ^ 128 → ⊥
factorial-past n done product is before past fits =
    let next : product * (done + 1) ≡ factorial (done + 1) = factorial-next done product is in
    let grows : factorial (done + 1) ≤ factorial n = factorial-le (n - (done + 1)) (done + 1) n (omega arith) in
    past (omega (arith, next, grows, fits))

-- a number of which a power fits, fits itself
pub base-fits : (base power : ℕ) → 1 ≤ base → 1 ≤ power → base ≤ base ^ power
base-fits base zero some again = absurd (omega arith)
base-fits base (suc power) some again =
    let one : 1 ≤ base ^ power = one-le-pow power base some in
    rw pow-succ' (omega (arith, mul-le-mul_left base one, mul-one base))

-- a span weight is at most the factorial of the grid's cells
pub span_weight-le : (cells : ℕ) (pair : Option (ℕ × ℕ)) → span_weight cells pair ≤ factorial cells
span_weight-le cells None = factorial-some cells
span_weight-le cells (Some pair) = div-le_self (factorial cells) (pair.1 - pair.0 + 1)

-- a product of span weights is at most a power of it
pub product_by-le : (grid_cells : ℕ) (cells : List ℕ) (pairs : List (Option (ℕ × ℕ))) →
    product_by (λ pair. span_weight grid_cells (pair_at cells pair)) pairs ≤ factorial grid_cells ^ length pairs
product_by-le grid_cells cells [] = omega (arith, pow-zero (factorial grid_cells))
product_by-le grid_cells cells (p ∷ ps) = rw pow-succ' (mul-le-mul (span_weight-le grid_cells (pair_at cells p)) (product_by-le grid_cells cells ps))

product_by-push : {A : Type 0} (f : A → ℕ) (xs : List A) (y : A) → product_by f (xs ++ y ∷ []) ≡ product_by f xs * f y
product_by-push f [] y = omega arith
product_by-push f (x ∷ xs) y = ap (λ n. f x * n) (product_by-push f xs y) ∙ sym (mul_assoc (f x) (product_by f xs) (f y))

-- one more span weight
pub product_by-next : {A : Type 0} (f : A → ℕ) (xs : List A) (i : ℕ) (d : A) → i < length xs →
    product_by f (take (i + 1) xs) ≡ product_by f (take i xs) * f (get_or xs i d)
product_by-next f xs i d within = ap (λ ys. product_by f ys) (take_more xs i d within) ∙ product_by-push f (take i xs) (get_or xs i d)

-- the product so far fits where the power of the factorial does
pub product_by-fits : (grid_cells : ℕ) (cells : List ℕ) (pairs : List (Option (ℕ × ℕ))) (i : ℕ) →
    product_by (λ pair. span_weight grid_cells (pair_at cells pair)) (take i pairs) ≤ factorial grid_cells ^ length pairs
product_by-fits grid_cells cells pairs i =
    let short : length (take i pairs) ≤ length pairs = omega (arith, length-take i pairs) in
    let grows : factorial grid_cells ^ length (take i pairs) ≤ factorial grid_cells ^ length pairs = pow-le-pow_right (factorial-some grid_cells) short in
    omega (arith, product_by-le grid_cells cells (take i pairs), grows)

-- for the test of the size: of a number that doesn't fit, only the power 0 does
pub power-fits : (weight events : ℕ) → (weight < 2 ^ 128 → ⊥) →
    (IsTrue (events == 0) → weight ^ events < 2 ^ 128) × (weight ^ events < 2 ^ 128 → IsTrue (events == 0))
power-fits weight zero large = (λ none. rw pow-zero (lit< tt), λ fits. refl)
power-fits weight (suc events) large = (λ none. (let is : suc events ≡ 0 = (Decides-eqb (suc events) 0).0 none in absurd (omega arith)), λ fits. absurd (large (omega (arith, base-fits weight (suc events) (omega arith) (omega arith)))))
