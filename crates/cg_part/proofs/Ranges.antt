-- Sums from one cell to another.
use Rattle.std.proofs.Common.{◌≡◌, ℕ, zero, suc, ◌+◌, ◌*◌, ◌<◌, ◌≤◌, Bool, true, false, cond, inl, inr, refl, sym, ap, ◌∙◌, arith, leb, le-leb, eqb, ne_eqb, subst}
use Rattle.std.proofs.lemmas.Bool.{cases_lt, cond-false, cond-true, lt-leb}
use Rattle.std.proofs.Math.Nat.{mul_comm, mul_assoc}
use Rattle.cg_meaning.specs.Sums.{sum_below}
use Rattle.cg_meaning.proofs.Sums.{sum_below-same, sum_below-zero, sum_below-scale, sum_below-swap}
use Rattle.cg_meaning.proofs.Marginals.{sum_below-pick}
use Rattle.cg_meaning.proofs.Pin.{cond-times, times-cond}
use Rattle.cg_part.specs.Tables.{sum_from, identity}

-- nothing, on a condition
pub cond_zero : (b : Bool) → cond {A = ℕ} b 0 0 ≡ 0
cond_zero true = refl
cond_zero false = refl

-- what holds at a and goes on holding
pub onward : (P : ℕ → Type 0) (a b : ℕ) → a ≤ b → P a → ((c : ℕ) → a ≤ c → P c → P (suc c)) → P b
onward P a zero h first next = subst P (omega arith) first
onward P a (suc b) h first next =
    elim (cases_lt a (suc b)) as (λ w. P (suc b)) [
      | inl below ↦ next b (omega arith) (onward P a b (omega arith) first next)
      | inr above ↦ subst P (omega arith) first
    ]

-- one condition, by the order of two cells
pub by_order : (a c x y : ℕ) → (a ≤ c → x ≡ y) → (c < a → 0 ≡ y) → cond (leb a c) x 0 ≡ y
by_order a c x y above below =
    elim (cases_lt c a) as (λ w. cond (leb a c) x 0 ≡ y) [
      | inl h ↦ cond-false (leb a c) x 0 (lt-leb a c h) ∙ below h
      | inr h ↦ cond-true (leb a c) x 0 (le-leb a c h) ∙ above h
    ]

-- equal terms, equal sums
pub sum_from-same : (a b : ℕ) (f g : ℕ → ℕ) → ((c : ℕ) → a ≤ c → c ≤ b → f c ≡ g c) → sum_from a b f ≡ sum_from a b g
sum_from-same a b f g same =
    sum_below-same (suc b) (λ c. cond (leb a c) (f c) 0) (λ c. cond (leb a c) (g c) 0)
    (λ c h. by_order a c (f c) (cond (leb a c) (g c) 0)
    (λ l. same c l (omega arith) ∙ sym (cond-true (leb a c) (g c) 0 (le-leb a c l)))
    (λ l. sym (cond-false (leb a c) (g c) 0 (lt-leb a c l))))

-- a common factor
pub sum_from-scale : (a b k : ℕ) (f : ℕ → ℕ) → sum_from a b (λ c. k * f c) ≡ k * sum_from a b f
sum_from-scale a b k f =
    sum_below-same (suc b) (λ c. cond (leb a c) (k * f c) 0) (λ c. k * cond (leb a c) (f c) 0) (λ c h. sym (times-cond (leb a c) k (f c)))
    ∙ sum_below-scale (suc b) k (λ c. cond (leb a c) (f c) 0)

-- a common factor on the right
pub sum_from-scale_right : (a b k : ℕ) (f : ℕ → ℕ) → sum_from a b (λ c. f c * k) ≡ sum_from a b f * k
sum_from-scale_right a b k f =
    sum_from-same a b (λ c. f c * k) (λ c. k * f c) (λ c h l. mul_comm (f c) k) ∙ sum_from-scale a b k f ∙ mul_comm k (sum_from a b f)

-- terms before a are 0
low_terms : (n a : ℕ) (f : ℕ → ℕ) → n ≤ a → sum_below n (λ c. cond (leb a c) (f c) 0) ≡ 0
low_terms n a f h = sum_below-zero n (λ c. cond (leb a c) (f c) 0) (λ c l. cond-false (leb a c) (f c) 0 (lt-leb a c (omega arith)))

-- one cell alone
pub sum_from-one : (a : ℕ) (f : ℕ → ℕ) → sum_from a a f ≡ f a
sum_from-one a f = omega (arith, low_terms a a f (omega arith), cond-true (leb a a) (f a) 0 (le-leb a a (omega arith)))

-- the last cell and those before
pub sum_from-last : (a b : ℕ) (f : ℕ → ℕ) → a ≤ suc b → sum_from a (suc b) f ≡ sum_from a b f + f (suc b)
sum_from-last a b f h = ap (λ x. sum_from a b f + x) (cond-true (leb a (suc b)) (f (suc b)) 0 (le-leb a (suc b) h))

-- only the first m terms count
pub sum_below-short : (n m : ℕ) (f : ℕ → ℕ) → m ≤ n → ((c : ℕ) → m ≤ c → f c ≡ 0) → sum_below n f ≡ sum_below m f
sum_below-short zero m f h none = let same : 0 ≡ m = omega arith in ap (λ k. sum_below k f) same
sum_below-short (suc n) m f h none =
    elim (cases_lt n m) as (λ w. sum_below (suc n) f ≡ sum_below m f) [
      | inl l ↦ let same : suc n ≡ m = omega arith in ap (λ k. sum_below k f) same
      | inr l ↦ omega (arith, sum_below-short n m f l none, none n l)
    ]

-- only the terms from a to b count
pub sum_below-range : (n a b : ℕ) (f : ℕ → ℕ) → b < n → ((c : ℕ) → c < a → f c ≡ 0) → ((c : ℕ) → b < c → f c ≡ 0) →
    sum_below n f ≡ sum_from a b f
sum_below-range n a b f h low high =
    sum_below-short n (suc b) f (omega arith) (λ c l. high c (omega arith))
    ∙ sum_below-same (suc b) f (λ c. cond (leb a c) (f c) 0)
    (λ c l. sym (by_order a c (f c) (f c) (λ k. refl) (λ k. sym (low c k))))

-- a condition on all terms
sum_below-cond : (n : ℕ) (t : Bool) (f : ℕ → ℕ) → sum_below n (λ c. cond t (f c) 0) ≡ cond t (sum_below n f) 0
sum_below-cond n true f = refl
sum_below-cond n false f = sum_below-zero n (λ c. 0) (λ c h. refl)

-- the terms up to c, as those below any greater number
first_terms : (n a c : ℕ) (f : ℕ → ℕ) → c < n →
    cond (leb a c) (sum_from a c f) 0 ≡ sum_below n (λ d. cond (leb a d) (cond (leb d c) (f d) 0) 0)
first_terms n a c f h =
    let here : ℕ → ℕ = λ d. cond (leb a d) (cond (leb d c) (f d) 0) 0 in
    let cut : sum_below n here ≡ sum_from a c f =
    sum_below-short n (suc c) here (omega arith)
    (λ d l. ap (λ x. cond (leb a d) x 0) (cond-false (leb d c) (f d) 0 (lt-leb d c (omega arith))) ∙ cond_zero (leb a d))
    ∙ sum_below-same (suc c) here (λ d. cond (leb a d) (f d) 0)
    (λ d l. ap (λ x. cond (leb a d) x 0) (cond-true (leb d c) (f d) 0 (le-leb d c (omega arith)))) in
    by_order a c (sum_from a c f) (sum_below n here) (λ l. sym cut) (λ l. sym (cut ∙ low_terms (suc c) a f (omega arith)))

-- Each two cells in order from a to b, the later first or the earlier first.
pub sum_from-swap : (a b : ℕ) (f : ℕ → ℕ → ℕ) →
    sum_from a b (λ c. sum_from a c (λ d. f d c)) ≡ sum_from a b (λ d. sum_from d b (λ c. f d c))
sum_from-swap a b f =
    let n = suc b in
    sum_below-same n (λ c. cond (leb a c) (sum_from a c (λ d. f d c)) 0) (λ c. sum_below n (λ d. cond (leb a d) (cond (leb d c) (f d c) 0) 0))
    (λ c h. first_terms n a c (λ d. f d c) h)
    ∙ sum_below-swap n n (λ c d. cond (leb a d) (cond (leb d c) (f d c) 0) 0)
    ∙ sum_below-same n (λ d. sum_below n (λ c. cond (leb a d) (cond (leb d c) (f d c) 0) 0)) (λ d. cond (leb a d) (sum_from d b (λ c. f d c)) 0)
    (λ d h. sum_below-cond n (leb a d) (λ c. cond (leb d c) (f d c) 0))

-- A sum of sums, as the sum of the products with what comes later.
pub sum_from-nest : (a b : ℕ) (s : ℕ → ℕ) (t : ℕ → ℕ → ℕ) (u : ℕ → ℕ) →
    sum_from a b (λ c. sum_from a c (λ d. s d * t d c) * u c) ≡ sum_from a b (λ d. s d * sum_from d b (λ c. t d c * u c))
sum_from-nest a b s t u =
    sum_from-same a b (λ c. sum_from a c (λ d. s d * t d c) * u c) (λ c. sum_from a c (λ d. s d * (t d c * u c)))
    (λ c h l. sym (sum_from-scale_right a c (u c) (λ d. s d * t d c))
    ∙ sum_from-same a c (λ d. s d * t d c * u c) (λ d. s d * (t d c * u c)) (λ d j k. omega (arith, mul_assoc (s d) (t d c) (u c))))
    ∙ sum_from-swap a b (λ d c. s d * (t d c * u c))
    ∙ sum_from-same a b (λ d. sum_from d b (λ c. s d * (t d c * u c))) (λ d. s d * sum_from d b (λ c. t d c * u c))
    (λ d h l. sum_from-scale d b (s d) (λ c. t d c * u c))

-- nothing first
pub sum_from-identity : (a b : ℕ) (f : ℕ → ℕ) → a ≤ b → sum_from a b (λ c. identity a c * f c) ≡ f a
sum_from-identity a b f h =
    sum_below-same (suc b) (λ c. cond (leb a c) (identity a c * f c) 0) (λ c. cond (eqb a c) (f c) 0)
    (λ c l. by_order a c (identity a c * f c) (cond (eqb a c) (f c) 0)
    (λ k. cond-times (eqb a c) 1 (f c) ∙ ap (λ x. cond (eqb a c) x 0) (omega arith))
    (λ k. sym (cond-false (eqb a c) (f c) 0 (ne_eqb a c (λ same. absurd (omega arith))))))
    ∙ sum_below-pick (suc b) a f (omega arith)
