-- Each number up to G divides G!.
use Rattle.std.proofs.Common.{◌≡◌, ℕ, zero, suc, ◌<◌, ◌≤◌, ◌*◌, ◌/◌, inl, inr, sym, ap, ◌∙◌, arith}
use Rattle.std.proofs.lemmas.Bool.{cases_lt}
use Rattle.std.proofs.Math.Nat.{mul_comm, mul_assoc, mul-div_cancel_left}
use Rattle.cg_meaning.specs.Pairs.{factorial}
use Rattle.cg_part.specs.Laws.{SpansAreExact}

-- the other factor
cofactor : (g s : ℕ) → 0 < s → s ≤ g → (k : ℕ) × (factorial g ≡ s * k)
cofactor zero s some h = absurd (omega arith)
cofactor (suc g) s some h =
    elim (cases_lt g s) as (λ w. (k : ℕ) × (suc g * factorial g ≡ s * k)) [
      | inl last ↦ let same : suc g ≡ s = omega arith in (factorial g, ap (λ n. n * factorial g) same)
      | inr before ↦
          let rest = cofactor g s some before in (
            suc g * rest.0,
            ap (λ x. suc g * x) rest.1 ∙ sym (mul_assoc (suc g) s rest.0) ∙ ap (λ x. x * rest.0) (mul_comm (suc g) s) ∙ mul_assoc s (suc g) rest.0,
          )
    ]

-- G! over a number up to G is no rounded quotient.
pub exact-spans : SpansAreExact
exact-spans g s some h =
    let other = cofactor g s some h in
    ap (λ x. x / s * s) other.1 ∙ ap (λ x. x * s) (mul-div_cancel_left other.0 some) ∙ mul_comm other.0 s ∙ sym other.1
