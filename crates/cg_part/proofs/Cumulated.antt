-- The sums of a table's entries, up to a cell.
use Rattle.std.proofs.Common.{◌≡◌, ℕ, zero, suc, ◌+◌, ◌-◌, ◌*◌, ◌<◌, ◌≤◌, ◌⊎◌, inl, inr, refl, sym, ap, ap₂, ◌∙◌, arith, eqb, ne_eqb, eq-eqb, subst}
use Rattle.std.specs.Prelude.{if◌then◌else◌}
use Rattle.std.proofs.lemmas.Bool.{cases_lt, cond-false, cond-true}
use Rattle.std.proofs.Math.Nat.{mul-add, add-mul}
use Rattle.cg_part.specs.Tables.{ExactTable, sum_from, cumulated, identity, beside, after_group, before_group}
use Rattle.cg_part.proofs.Ranges.{onward, sum_from-same, sum_from-one, sum_from-last, sum_from-identity}

-- an entry at the cell where it begins
at_same : (a x y : ℕ) → (if eqb a a then x else y) ≡ x
at_same a x y = cond-true (eqb a a) x y (eq-eqb a a refl)

-- an entry at a later cell
at_later : (a b x y : ℕ) → a ≤ b → (if eqb a (suc b) then x else y) ≡ y
at_later a b x y h = cond-false (eqb a (suc b)) x y (ne_eqb a (suc b) (λ same. absurd (omega arith)))

-- the product of two sums, each with one term more
grown : (cs ct s t : ℕ) → cs * ct + (cs * t + s * (ct + t)) ≡ (cs + s) * (ct + t)
grown cs ct s t = omega (arith, mul-add cs ct t, mul-add s ct t, add-mul cs s (ct + t), mul-add cs ct t)

-- Side by side the sums are multiplied.
pub cumulated-beside : (s t : ExactTable) (a b : ℕ) → a ≤ b → cumulated (beside s t) a b ≡ cumulated s a b * cumulated t a b
cumulated-beside s t a b h =
    onward (λ c. cumulated (beside s t) a c ≡ cumulated s a c * cumulated t a c) a b h
    (sum_from-one a (λ c. beside s t a c) ∙ at_same a (s a a * cumulated t a a) (cumulated s a (a - 1) * t a a + s a a * cumulated t a a)
    ∙ ap (λ x. x * cumulated t a a) (sym (sum_from-one a (λ c. s a c))))
    (λ c l before.
    let e : beside s t a (suc c) ≡ cumulated s a c * t a (suc c) + s a (suc c) * (cumulated t a c + t a (suc c)) =
    at_later a c (s a (suc c) * cumulated t a (suc c)) (cumulated s a (suc c - 1) * t a (suc c) + s a (suc c) * cumulated t a (suc c)) l
    ∙ ap₂ (λ i x. cumulated s a i * t a (suc c) + s a (suc c) * x) (omega arith) (sum_from-last a c (λ d. t a d) (omega arith)) in
    sum_from-last a c (λ d. beside s t a d) (omega arith) ∙ ap₂ (λ x y. x + y) before e
    ∙ grown (cumulated s a c) (cumulated t a c) (s a (suc c)) (t a (suc c))
    ∙ ap₂ (λ x y. x * y) (sym (sum_from-last a c (λ d. s a d) (omega arith))) (sym (sum_from-last a c (λ d. t a d) (omega arith))))

-- nothing reaches every later cell once
pub cumulated-identity : (a b : ℕ) → a ≤ b → cumulated identity a b ≡ 1
cumulated-identity a b h =
    sum_from-same a b (λ c. identity a c) (λ c. identity a c * 1) (λ c l k. omega arith) ∙ sum_from-identity a b (λ c. 1) h

-- An After group has the sums of its Phase from the oldest cell.
pub cumulated-after : (t : ExactTable) (a b : ℕ) → a ≤ b → cumulated (after_group t) a b ≡ cumulated t 0 b
cumulated-after t a b h =
    onward (λ c. cumulated (after_group t) a c ≡ cumulated t 0 c) a b h
    (sum_from-one a (λ c. after_group t a c) ∙ at_same a (cumulated t 0 a) (t 0 a))
    (λ c l before.
    sum_from-last a c (λ d. after_group t a d) (omega arith)
    ∙ ap₂ (λ x y. x + y) before (at_later a c (cumulated t 0 a) (t 0 (suc c)) l)
    ∙ sym (sum_from-last 0 c (λ d. t 0 d) (omega arith)))

-- A Before group has the sum of its Phase to the youngest cell, at once.
pub cumulated-before : (g : ℕ) (t : ExactTable) (a b : ℕ) → a ≤ b → cumulated (before_group g t) a b ≡ cumulated t a (g - 1)
cumulated-before g t a b h =
    onward (λ c. cumulated (before_group g t) a c ≡ cumulated t a (g - 1)) a b h
    (sum_from-one a (λ c. before_group g t a c) ∙ at_same a (cumulated t a (g - 1)) 0)
    (λ c l before.
    sum_from-last a c (λ d. before_group g t a d) (omega arith)
    ∙ ap₂ (λ x y. x + y) before (at_later a c (cumulated t a (g - 1)) 0 l)
    ∙ omega arith)

-- an entry, by the sums up to it, by whether it is the first
entry_at : (s t : ℕ → ℕ) (a b : ℕ) → a ≤ b →
    ((c : ℕ) → a ≤ c → c ≤ b → sum_from a c s ≡ sum_from a c t) → (b ≤ a) ⊎ (a < b) → s b ≡ t b
entry_at s t a b h same (inl first) =
    let here : a ≡ b = omega arith in
    subst (λ (c : ℕ). s c ≡ t c) here (sym (sum_from-one a s) ∙ same a (omega arith) (omega arith) ∙ sum_from-one a t)
entry_at s t a zero h same (inr later) = absurd (omega arith)
entry_at s t a (suc b) h same (inr later) =
    omega (
      arith,
      same b (omega arith) (omega arith),
      same (suc b) (omega arith)
          (omega arith),
      sum_from-last a b s (omega arith),
      sum_from-last a b t (omega arith),
    )

-- Terms are equal where all sums up to them are.
pub entry : (s t : ℕ → ℕ) (a b : ℕ) → a ≤ b → ((c : ℕ) → a ≤ c → c ≤ b → sum_from a c s ≡ sum_from a c t) → s b ≡ t b
entry s t a b h same =
    elim (cases_lt a b) as (λ w. s b ≡ t b) [
      | inl later ↦ entry_at s t a b h same (inr later)
      | inr first ↦ entry_at s t a b h same (inl first)
    ]
