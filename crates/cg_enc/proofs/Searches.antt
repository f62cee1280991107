-- The least and the greatest number that passes a test.
use Rattle.std.proofs.Common.{◌≡◌, ℕ, zero, suc, ◌<◌, ◌≤◌, inl, inr, ◌⊎◌, Bool, true, false, arith, refl}
use Rattle.std.proofs.lemmas.Bool.{cases_lt}
use Rattle.cg_enc.specs.Rounding.{least, greatest}

cases_bool : (b : Bool) → (b ≡ true) ⊎ (b ≡ false)
cases_bool true = inl refl
cases_bool false = inr refl

differ : (b : Bool) → b ≡ true → b ≡ false → ⊥
differ b is_true is_false = cc

least-le : (t : ℕ → Bool) (n : ℕ) → least t n ≤ n
unfolding least
least-le t zero = omega arith
least-le t (suc n) = let ih = least-le t n in grind (arith, ih)

-- s passes, and nothing below it does
pub least-is : (t : ℕ → Bool) (n s : ℕ) → s ≤ n → t s ≡ true → ((k : ℕ) → k < s → t k ≡ false) → least t n ≡ s
unfolding least
least-is t zero s le passes fails = omega arith
least-is t (suc n) s le passes fails =
    elim (cases_lt n s) [
      | inr within ↦ let ih = least-is t n s within passes fails in rw (ih, passes) refl
      | inl last ↦
          let fail : t (least t n) ≡ false = fails (least t n) (omega (arith, least-le t n)) in
          rw fail (omega arith)
    ]

-- s passes, and nothing above it does
pub greatest-is : (t : ℕ → Bool) (n s : ℕ) → s ≤ n → t s ≡ true → ((k : ℕ) → s < k → t k ≡ false) → greatest t n ≡ s
unfolding greatest
greatest-is t zero s le passes fails = omega arith
greatest-is t (suc n) s le passes fails =
    elim (cases_lt n s) [
      | inr within ↦ let fail : t (suc n) ≡ false = fails (suc n) (omega arith) in rw fail (greatest-is t n s within passes fails)
      | inl last ↦ let e : suc n ≡ s = omega arith in rw (e, passes) refl
    ]

-- where one of the numbers passes, what is found passes
pub least-passes : (t : ℕ → Bool) (n k : ℕ) → k ≤ n → t k ≡ true → t (least t n) ≡ true
unfolding least
least-passes t zero k le passes = let e : k ≡ 0 = omega arith in rw e at passes
least-passes t (suc n) k le passes =
    elim (cases_bool (t (least t n))) [
      | inl found ↦ rw found found
      | inr fail ↦ rw fail (elim (cases_lt n k) [
        | inl last ↦ let e : k ≡ suc n = omega arith in rw e at passes
        | inr within ↦ absurd (differ (t (least t n)) (least-passes t n k within passes) fail)
      ])
    ]

-- and it isn't above any that passes
pub least-least : (t : ℕ → Bool) (n k : ℕ) → t k ≡ true → least t n ≤ k
unfolding least
least-least t zero k passes = omega arith
least-least t (suc n) k passes =
    elim (cases_bool (t (least t n))) [
      | inl found ↦ rw found (least-least t n k passes)
      | inr fail ↦ rw fail (elim (cases_lt n k) [
        | inl above ↦ omega arith
        | inr within ↦ absurd (differ (t (least t n)) (least-passes t n k within passes) fail)
      ])
    ]

pub greatest-passes : (t : ℕ → Bool) (n : ℕ) → t 0 ≡ true → t (greatest t n) ≡ true
unfolding greatest
greatest-passes t zero first = first
greatest-passes t (suc n) first = elim (cases_bool (t (suc n))) [ inl found ↦ rw found found | inr fail ↦ rw fail (greatest-passes t n first) ]

-- and it isn't below any that passes
pub greatest-greatest : (t : ℕ → Bool) (n k : ℕ) → k ≤ n → t k ≡ true → k ≤ greatest t n
unfolding greatest
greatest-greatest t zero k le passes = omega arith
greatest-greatest t (suc n) k le passes =
    elim (cases_bool (t (suc n))) [
      | inl found ↦ rw found (omega arith)
      | inr fail ↦ rw fail (elim (cases_lt n k) [
        | inl last ↦ let e : k ≡ suc n = omega arith in absurd (differ (t (suc n)) (rw e at passes) fail)
        | inr within ↦ greatest-greatest t n k within passes
      ])
    ]
