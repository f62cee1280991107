-- The normal form where the upper end moves by one place at most.
use Rattle.std.proofs.Common.{◌≡◌, ℕ, ◌+◌, ◌^◌, ◌≤◌, ℤ, pos, ◌+ℤ◌, inl, inr, ◌⊎◌, arith, refl}
use Rattle.std.proofs.lemmas.Bool.{cases_lt}
use Rattle.std.proofs.lemmas.Int.{ints}
use Rattle.cg_enc.specs.Enclosure.{IsExponent}
use Rattle.cg_enc.specs.Rounding.{norm}
use Rattle.cg_enc.proofs.Norming.{norm-as_is, norm-right, right_one}
use Rattle.cg_enc.proofs.Widening.{moved_exponent}

pub norm-exponent_cases : (lo hi : ℕ) (e : ℤ) → 2 ^ 62 ≤ hi → hi + 2 ≤ 2 ^ 64 → ((norm lo hi e).exp ≡ e) ⊎ ((norm lo hi e).exp ≡ e +ℤ pos 1)
norm-exponent_cases lo hi e low high =
    elim (cases_lt hi (2 ^ 63)) [
      | inl small ↦ inl (rw (norm-as_is lo hi e low small) refl)
      | inr large ↦ inr (rw (norm-right lo hi 1 e large (right_one hi large high)) refl)
    ]

pub norm-exponent_settled : (lo hi : ℕ) (e : ℤ) (m : ℕ) → 2 ^ 62 ≤ hi → hi + 2 ≤ 2 ^ 64 → IsExponent m e → IsExponent (m + 1) (norm lo hi e).exp
norm-exponent_settled lo hi e m low high r =
    elim (norm-exponent_cases lo hi e low high) [
      | inl x ↦ rw x (omega (arith, r), omega (arith, r))
      | inr x ↦ rw x (moved_exponent e (e +ℤ pos 1) 1 0 m 1 (omega (arith, ints)) (omega arith) (omega arith) r)
    ]
