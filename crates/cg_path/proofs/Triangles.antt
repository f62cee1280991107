-- Sums over the cells a ≤ b of a grid, by columns and by rows, and how they are turned.
use Rattle.std.proofs.Common.{◌≡◌, ℕ, zero, suc, ◌+◌, ◌*◌, ◌<◌, ◌≤◌, Bool, true, false, cond, inl, inr, refl, sym, ap, ◌∙◌, arith, mul-one, leb, le-leb, eqb, ne_eqb, eq-eqb}
use Rattle.std.proofs.lemmas.Bool.{cases_lt, cond-false, cond-true, lt-leb}
use Rattle.std.proofs.Math.Nat.{mul_comm, mul_assoc, mul-add, add-mul}
use Rattle.cg_meaning.specs.Sums.{sum_below}
use Rattle.cg_meaning.proofs.Sums.{sum_below-same, sum_below-add, sum_below-scale, sum_below-swap, sum_below-from}
use Rattle.cg_meaning.proofs.Marginals.{sum_below-pick}
use Rattle.cg_meaning.proofs.Pin.{times-cond}
use Rattle.cg_part.specs.Tables.{sum_from}
use Rattle.cg_part.proofs.Ranges.{by_order, sum_from-same, sum_from-scale_right, sum_from-nest, sum_below-range}
use Rattle.cg_path.specs.Contexts.{sum_on}

-- equal terms, equal sums
pub sum_on-same : (n c : ℕ) (f g : ℕ → ℕ) → ((d : ℕ) → c ≤ d → d < n → f d ≡ g d) → sum_on n c f ≡ sum_on n c g
sum_on-same n c f g same =
    sum_below-same n (λ d. cond (leb c d) (f d) 0) (λ d. cond (leb c d) (g d) 0)
    (λ d h. by_order c d (f d) (cond (leb c d) (g d) 0)
    (λ l. same d l h ∙ sym (cond-true (leb c d) (g d) 0 (le-leb c d l)))
    (λ l. sym (cond-false (leb c d) (g d) 0 (lt-leb c d l))))

-- from the oldest cell on
pub sum_on-all : (n : ℕ) (f : ℕ → ℕ) → sum_on n 0 f ≡ sum_below n f
sum_on-all n f = sum_below-same n (λ d. cond (leb 0 d) (f d) 0) f (λ d h. cond-true (leb 0 d) (f d) 0 (le-leb 0 d (omega arith)))

-- a condition on a sum is one on both terms
on_both : (s : Bool) (x y : ℕ) → cond s (x + y) 0 ≡ cond s x 0 + cond s y 0
on_both true x y = refl
on_both false x y = refl

-- the sum of two sums
pub sum_on-add : (n c : ℕ) (f g : ℕ → ℕ) → sum_on n c (λ d. f d + g d) ≡ sum_on n c f + sum_on n c g
sum_on-add n c f g =
    sum_below-same n (λ d. cond (leb c d) (f d + g d) 0) (λ d. cond (leb c d) (f d) 0 + cond (leb c d) (g d) 0)
    (λ d h. on_both (leb c d) (f d) (g d))
    ∙ sum_below-add n (λ d. cond (leb c d) (f d) 0) (λ d. cond (leb c d) (g d) 0)

-- the first term and the rest
pub sum_on-first : (n c : ℕ) (f : ℕ → ℕ) → c < n → sum_on n c f ≡ f c + sum_on n (suc c) f
sum_on-first n c f h =
    sum_below-from n c f h
    ∙ ap (λ k. f c + sum_below n (λ d. cond (leb k d) (f d) 0)) (let e : c + 1 ≡ suc c = omega arith in e)

-- a column, as a sum over all cells
pub column : (n b : ℕ) (f : ℕ → ℕ) → b < n → sum_from 0 b f ≡ sum_below n (λ a. cond (leb a b) (f a) 0)
column n b f h =
    sum_from-same 0 b f (λ a. cond (leb a b) (f a) 0) (λ a l k. sym (cond-true (leb a b) (f a) 0 (le-leb a b k)))
    ∙ sym (sum_below-range n 0 b (λ a. cond (leb a b) (f a) 0) h (λ a l. absurd (omega arith))
    (λ a l. cond-false (leb a b) (f a) 0 (lt-leb a b l)))

-- Column by column or row by row.
pub by_rows : (n : ℕ) (f : ℕ → ℕ → ℕ) → sum_below n (λ b. sum_from 0 b (λ a. f a b)) ≡ sum_below n (λ a. sum_on n a (λ b. f a b))
by_rows n f =
    sum_below-same n (λ b. sum_from 0 b (λ a. f a b)) (λ b. sum_below n (λ a. cond (leb a b) (f a b) 0)) (λ b h. column n b (λ a. f a b) h)
    ∙ sum_below-swap n n (λ b a. cond (leb a b) (f a b) 0)

-- a column, as the terms before its end and the last
pub column-last : (b : ℕ) (f : ℕ → ℕ) → sum_from 0 b f ≡ sum_below b f + f b
column-last b f = sum_below-same (suc b) (λ c. cond (leb 0 c) (f c) 0) f (λ c l. cond-true (leb 0 c) (f c) 0 (le-leb 0 c (omega arith)))

-- a common factor on the right
pub sum_below-scale_right : (n k : ℕ) (f : ℕ → ℕ) → sum_below n (λ c. f c * k) ≡ sum_below n f * k
sum_below-scale_right n k f =
    sum_below-same n (λ c. f c * k) (λ c. k * f c) (λ c h. mul_comm (f c) k) ∙ sum_below-scale n k f ∙ mul_comm k (sum_below n f)

-- a common factor
pub sum_on-scale : (n c k : ℕ) (f : ℕ → ℕ) → sum_on n c (λ d. k * f d) ≡ k * sum_on n c f
sum_on-scale n c k f =
    sum_below-same n (λ d. cond (leb c d) (k * f d) 0) (λ d. k * cond (leb c d) (f d) 0) (λ d h. sym (times-cond (leb c d) k (f d)))
    ∙ sum_below-scale n k (λ d. cond (leb c d) (f d) 0)

-- equality is tested either way round
pub eqb_comm : (a b : ℕ) → eqb a b ≡ eqb b a
eqb_comm a b =
    elim (cases_lt a b) as (λ w. eqb a b ≡ eqb b a) [
      | inl h ↦ ne_eqb a b (λ same. absurd (omega arith)) ∙ sym (ne_eqb b a (λ same. absurd (omega arith)))
      | inr h ↦ elim (cases_lt b a) as (λ w. eqb a b ≡ eqb b a) [
        | inl k ↦ ne_eqb a b (λ same. absurd (omega arith)) ∙ sym (ne_eqb b a (λ same. absurd (omega arith)))
        | inr k ↦ eq-eqb a b (omega arith) ∙ sym (eq-eqb b a (omega arith))
      ]
    ]

-- 0 but at the oldest cell
at_oldest : (g : ℕ → ℕ) → ((a : ℕ) → 0 < a → g a ≡ 0) → (a : ℕ) → g a ≡ cond (eqb 0 a) (g a) 0
at_oldest g none zero = refl
at_oldest g none (suc a) = none (suc a) (omega arith) ∙ sym (cond-false (eqb 0 (suc a)) (g (suc a)) 0 (ne_eqb 0 (suc a) (λ same. absurd (omega arith))))

-- Only the oldest row counts.
pub first_row : (n : ℕ) (f : ℕ → ℕ → ℕ) → ((a b : ℕ) → 0 < a → f a b ≡ 0) →
    sum_below n (λ b. sum_from 0 b (λ a. f a b)) ≡ sum_below n (λ b. f 0 b)
first_row n f none =
    sum_below-same n (λ b. sum_from 0 b (λ a. f a b)) (λ b. f 0 b)
    (λ b h. column-last b (λ a. f a b)
    ∙ sum_below-same (suc b) (λ a. f a b) (λ a. cond (eqb 0 a) (f a b) 0) (λ a l. at_oldest (λ c. f c b) (λ c k. none c b k) a)
    ∙ sum_below-pick (suc b) 0 (λ a. f a b) (omega arith))

-- Each sum up to a cell, with a factor of the cell, as a sum of what comes later.
pub turned : (n a : ℕ) (v p : ℕ → ℕ) (t : ℕ → ℕ → ℕ) →
    sum_on n a (λ b. v b * sum_from a b (λ c. p c * t c b)) ≡ sum_on n a (λ c. sum_on n c (λ b. v b * t c b) * p c)
turned zero a v p t = refl
turned (suc m) a v p t =
    sum_from-same a m (λ b. v b * sum_from a b (λ c. p c * t c b)) (λ b. sum_from a b (λ c. p c * t c b) * v b)
    (λ b h k. mul_comm (v b) (sum_from a b (λ c. p c * t c b)))
    ∙ sum_from-nest a m p t v
    ∙ sum_from-same a m (λ c. p c * sum_from c m (λ b. t c b * v b)) (λ c. sum_from c m (λ b. v b * t c b) * p c)
    (λ c h k. mul_comm (p c) (sum_from c m (λ b. t c b * v b))
    ∙ ap (λ x. x * p c) (sum_from-same c m (λ b. t c b * v b) (λ b. v b * t c b) (λ b i j. mul_comm (t c b) (v b))))

-- the same where what comes later does not depend on the earlier
pub turned_row : (n a : ℕ) (v p w : ℕ → ℕ) →
    sum_on n a (λ b. v b * (sum_from a b p * w b)) ≡ sum_on n a (λ c. sum_on n c (λ b. v b * w b) * p c)
turned_row n a v p w =
    sum_on-same n a (λ b. v b * (sum_from a b p * w b)) (λ b. v b * sum_from a b (λ c. p c * w b))
    (λ b h k. ap (λ x. v b * x) (sym (sum_from-scale_right a b (w b) p)))
    ∙ turned n a v p (λ c b. w b)

-- the same for the plain sums
pub turned_sum : (n a : ℕ) (v p : ℕ → ℕ) → sum_on n a (λ b. v b * sum_from a b p) ≡ sum_on n a (λ c. sum_on n c v * p c)
turned_sum n a v p =
    sum_on-same n a (λ b. v b * sum_from a b p) (λ b. v b * (sum_from a b p * 1)) (λ b h k. ap (λ x. v b * x) (sym (mul-one (sum_from a b p))))
    ∙ turned_row n a v p (λ b. 1)
    ∙ sum_on-same n a (λ c. sum_on n c (λ b. v b * 1) * p c) (λ c. sum_on n c v * p c)
    (λ c h k. ap (λ x. x * p c) (sum_on-same n c (λ b. v b * 1) v (λ b i j. mul-one (v b))))

-- two products with a factor in common
grouped : (x q t l : ℕ) → (x * q + l) * t ≡ x * (q * t) + l * t
grouped x q t l = omega (arith, add-mul (x * q) l t, mul_assoc x q t)

-- the products side by side
split_beside : (x s q t c d : ℕ) → s + q * t ≡ c * t + q * d → x * s + x * (q * t) ≡ x * (c * t) + x * (d * q)
split_beside x s q t c d e =
    sym (mul-add x s (q * t)) ∙ ap (λ y. x * y) (e ∙ ap (λ y. c * t + y) (mul_comm q d)) ∙ mul-add x (c * t) (d * q)

-- what is the same on both sides is left out
sums : (l e m f h r : ℕ) → l + e ≡ m + f → f ≡ e + h → r ≡ m + h → l ≡ r
sums l e m f h r p q k = omega arith

-- A row of two tables side by side.
pub beside_row : (n a : ℕ) (x q t s : ℕ → ℕ) →
    ((b : ℕ) → a ≤ b → s b + q b * t b ≡ sum_from a b q * t b + q b * sum_from a b t) →
    sum_on n a (λ b. x b * s b) ≡ sum_on n a (λ d. (x d * sum_from a d q + sum_on n (suc d) (λ b. x b * q b)) * t d)
beside_row n a x q t s each =
    let later : ℕ → ℕ = λ d. sum_on n (suc d) (λ b. x b * q b) in
    let both : sum_on n a (λ b. x b * s b) + sum_on n a (λ b. x b * (q b * t b))
    ≡ sum_on n a (λ b. x b * (sum_from a b q * t b)) + sum_on n a (λ b. x b * (sum_from a b t * q b)) =
    sym (sum_on-add n a (λ b. x b * s b) (λ b. x b * (q b * t b)))
    ∙ sum_on-same n a (λ b. x b * s b + x b * (q b * t b)) (λ b. x b * (sum_from a b q * t b) + x b * (sum_from a b t * q b))
    (λ b h k. split_beside (x b) (s b) (q b) (t b) (sum_from a b q) (sum_from a b t) (each b h))
    ∙ sum_on-add n a (λ b. x b * (sum_from a b q * t b)) (λ b. x b * (sum_from a b t * q b)) in
    let second : sum_on n a (λ b. x b * (sum_from a b t * q b)) ≡ sum_on n a (λ c. x c * (q c * t c)) + sum_on n a (λ c. later c * t c) =
    turned_row n a x t q
    ∙ sum_on-same n a (λ c. sum_on n c (λ b. x b * q b) * t c) (λ c. x c * (q c * t c) + later c * t c)
    (λ c h k. ap (λ y. y * t c) (sum_on-first n c (λ b. x b * q b) k) ∙ grouped (x c) (q c) (t c) (later c))
    ∙ sum_on-add n a (λ c. x c * (q c * t c)) (λ c. later c * t c) in
    let whole : sum_on n a (λ d. (x d * sum_from a d q + later d) * t d)
    ≡ sum_on n a (λ b. x b * (sum_from a b q * t b)) + sum_on n a (λ c. later c * t c) =
    sum_on-same n a (λ d. (x d * sum_from a d q + later d) * t d) (λ d. x d * (sum_from a d q * t d) + later d * t d)
    (λ d h k. grouped (x d) (sum_from a d q) (t d) (later d))
    ∙ sum_on-add n a (λ b. x b * (sum_from a b q * t b)) (λ c. later c * t c) in
    sums _ _ _ _ _ _ both second whole
