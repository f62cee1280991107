-- Where a word is cut.
use Rattle.std.proofs.Common.{◌≡◌, ℕ, zero, suc, ◌<◌, ◌≤◌, ◌⊎◌, inl, inr, true, false, cond, nat_le, List, length, take, refl, sym, ap, subst, ◌∙◌, arith}
use Rattle.std.specs.Str.{IsCharBoundary}
use Rattle.std.specs.Fmt.{is_char_start}
use Rattle.std.specs.Fmt.Cut.{floor_char_boundary}
use Rattle.std.proofs.lemmas.Bool.{cases_lt}
use Rattle.std.proofs.lemmas.Bool.Decides.{nat_tests}
use Rattle.cg_script.specs.Words.{cut_word}

-- no character ends behind this place up to a limit
abbrev pub IsLastBoundary : List ℕ → ℕ → ℕ → Type 0
IsLastBoundary bytes limit place =
    (place ≤ limit) × IsCharBoundary bytes place × ((i : ℕ) → place < i → i ≤ limit → ¬ IsCharBoundary bytes i)

at_or : (place limit : ℕ) → place ≤ suc limit → (place < suc limit) ⊎ (place ≡ suc limit)
at_or place limit h = elim (cases_lt place (suc limit)) [ inl below ↦ inl below | inr above ↦ inr (omega arith) ]

starts : (b : ℕ) → (128 ≤ b → 192 ≤ b) → is_char_start b ≡ true
starts b h = elim (cases_lt b 128) [ inl low ↦ grind (arith, nat_tests, low) | inr high ↦ grind (arith, nat_tests, h high) ]

continues : (b : ℕ) → ¬ (128 ≤ b → 192 ≤ b) → is_char_start b ≡ false
continues b h = elim (cases_lt b 128) [
  | inl low ↦ absurd (h (λ high. absurd (omega arith)))
  | inr high ↦ elim (cases_lt b 192) [ inl mid ↦ grind (arith, nat_tests, high, mid) | inr top ↦ absurd (h (λ _. top)) ]
]

floor_is : (bytes : List ℕ) (limit place : ℕ) → limit < length bytes → IsLastBoundary bytes limit place → floor_char_boundary bytes limit ≡ place
unfolding floor_char_boundary
floor_is bytes zero place within last = omega arith
floor_is bytes (suc limit) place within last = elim (at_or place limit last.0) [
  | inl below ↦
      ap (λ t. cond t (suc limit) (floor_char_boundary bytes limit)) (continues _ (λ h. last.2 (suc limit) below (omega arith) (omega arith, λ _. h)))
      ∙ floor_is bytes limit place (omega arith) (omega arith, last.1, λ i p q. last.2 i p (omega arith))
  | inr same ↦
      ap (λ t. cond t (suc limit) (floor_char_boundary bytes limit)) (starts _ ((subst (λ n. IsCharBoundary bytes n) same last.1).1 within)) ∙ sym same
]

pub cut_long : (word : List ℕ) (place : ℕ) → 120 < length word → IsLastBoundary word 120 place → cut_word word ≡ take place word
cut_long word place long last =
    let over : nat_le (length word) 120 ≡ false = grind (arith, nat_tests) in rw (over, floor_is word 120 place long last) refl
