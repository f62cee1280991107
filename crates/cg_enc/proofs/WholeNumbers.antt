-- Whole numbers and bounds as enclosures.
use Rattle.std.proofs.Common.{◌≡◌, ℕ, ◌+◌, ◌-◌, ◌*◌, ◌/◌, ◌^◌, ◌<◌, ◌≤◌, ◌↔◌, ap, ℤ, pos, ◌-ℤ◌, inl, inr, lit<, arith, refl}
use Rattle.std.proofs.Math.Nat.{mul-le-mul_right}
use Rattle.std.proofs.lemmas.Bool.{cases_lt, cases_eq, eq-eqb, ne_eqb}
use Rattle.std.proofs.lemmas.Int.{ints}
use Rattle.std.proofs.lemmas.Nat.{pow_pos}
use Rattle.cg_enc.specs.Enclosure.{exact_zero, IsEnclosure, IsExponent, IsZero, Encloses, HasLoss}
use Rattle.cg_enc.specs.Rounding.{ceil_div, right, norm, of_whole}
use Rattle.cg_enc.proofs.Divisions.{ceil_least, floor_near}
use Rattle.cg_enc.proofs.Norming.{right_moves, small_digits, left_near, norm-left, norm-right}
use Rattle.cg_enc.proofs.Widening.{norm_widens, norm_encloses, norm-positive, moved_exponent}

-- zero encloses 0 alone
pub zero-encloses : (n d : ℕ) → n ≡ 0 → Encloses exact_zero n d
zero-encloses n d e = record { below = omega arith; above = omega (arith, e) }

pub zero-IsEnclosure : IsEnclosure exact_zero
zero-IsEnclosure = record { ordered = omega arith; most = lit< tt; least = λ h. absurd (omega arith); zero_exp = λ _. refl }

-- the normal form of ends below 2 ^ 63 loses nothing
pub norm_loss_same : (lo hi : ℕ) (e : ℤ) (k : ℕ) → lo ≤ hi → 0 < hi → hi < 2 ^ 63 → HasLoss (record { lo = lo; hi = hi; exp = e }) k → HasLoss (norm lo hi e) k
norm_loss_same lo hi e k le some small loss =
    let d = small_digits hi some small in
    let apart : hi * 2 ^ d.0 - lo * 2 ^ d.0 ≡ (hi - lo) * 2 ^ d.0 = omega (arith, mul-le-mul_right (2 ^ d.0) le, ap (λ (x : ℕ). x * 2 ^ d.0) (whole lo hi le)) in
    rw (norm-left lo hi d.0 e some d.2 d.3, apart) (omega (arith, mul-le-mul_right (2 ^ d.0) loss))
  where
    whole : (l h : ℕ) → l ≤ h → l + (h - l) ≡ h
    whole l h le = omega arith

pub norm-exponent_small : (lo hi : ℕ) (e : ℤ) (m : ℕ) → 0 < hi → hi < 2 ^ 63 → IsExponent m e → IsExponent (m + 62) (norm lo hi e).exp
norm-exponent_small lo hi e m some small r =
    let d = small_digits hi some small in
    rw (norm-left lo hi d.0 e some d.2 d.3) (moved_exponent e (e -ℤ pos d.0) 0 d.0 m 62 (omega (arith, ints)) (omega arith) (left_near hi d.0 some d.3) r)

pub of_whole-zero : (n : ℕ) → n ≡ 0 → of_whole n ≡ exact_zero
unfolding of_whole
of_whole-zero n e = rw (eq-eqb n 0 e) refl

pub of_whole-positive : (n : ℕ) → 0 < n → of_whole n ≡ norm n n (pos 0)
unfolding of_whole
of_whole-positive n some = rw (ne_eqb n 0 (λ e. absurd (omega arith))) refl

pub of_whole_encloses : (n : ℕ) → n < 2 ^ 128 → Encloses (of_whole n) n 1
of_whole_encloses n fits =
    elim (cases_eq n 0) [
      | inl z ↦ rw (of_whole-zero n z) (zero-encloses n 1 z)
      | inr s ↦
          let some : 0 < n = omega arith in
          rw (of_whole-positive n some) (norm_encloses n n (pos 0) n 1 (omega arith) some fits (record { below = omega arith; above = omega arith }))
    ]

pub of_whole_exact : (n : ℕ) → n < 2 ^ 63 → HasLoss (of_whole n) 0
of_whole_exact n small =
    elim (cases_eq n 0) [
      | inl z ↦ rw (of_whole-zero n z) (omega arith)
      | inr s ↦
          let some : 0 < n = omega arith in
          rw (of_whole-positive n some) (norm_loss_same n n (pos 0) 0 (omega arith) some small (omega arith))
    ]

-- rounded down and up, a number is apart by one unit at most
pub of_whole_loss : (n : ℕ) → n < 2 ^ 128 → HasLoss (of_whole n) 1
of_whole_loss n fits =
    elim (cases_lt n (2 ^ 63)) [
      | inl small ↦ omega (arith, of_whole_exact n small)
      | inr large ↦
          let m = right_moves n large fits in
          let one : ceil_div n (2 ^ right n) ≤ n / 2 ^ right n + 1 = ceil_least n (2 ^ right n) (n / 2 ^ right n + 1) (pow_pos (right n)) (omega (arith, floor_near n (2 ^ right n) (pow_pos (right n)))) in
          rw (of_whole-positive n (omega arith), norm-right n n (right n) (pos 0) large refl) (omega (arith, m.full, one))
    ]

pub of_whole-is_zero : (n : ℕ) → n < 2 ^ 128 → IsZero (of_whole n) ↔ (n ≡ 0)
of_whole-is_zero n fits = (
  (λ z. elim (cases_eq n 0) [
    | inl e ↦ e
    | inr s ↦ let some : 0 < n = omega arith in absurd (omega (arith, norm-positive n n (pos 0) (omega arith) some fits, rw (of_whole-positive n some) at z))
  ]),
  λ e. rw (of_whole-zero n e) refl,
)

pub of_whole-exponent : (n : ℕ) → n < 2 ^ 128 → IsExponent 66 (of_whole n).exp
of_whole-exponent n fits =
    elim (cases_eq n 0) [
      | inl z ↦ rw (of_whole-zero n z) (omega arith, omega arith)
      | inr s ↦
          let some : 0 < n = omega arith in
          let w = norm_widens n n (pos 0) (omega arith) some fits in
          rw (of_whole-positive n some) (moved_exponent (pos 0) (norm n n (pos 0)).exp w.right w.left 0 66 w.widens.exp w.near_right (omega (arith, w.near_left)) (omega arith, omega arith))
    ]
