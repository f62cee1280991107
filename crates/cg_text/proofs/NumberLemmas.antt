-- Numbers: each is cut off exactly where it stands.
use Rattle.std.proofs.Common.{rules, ◌-◌, ◌≡◌, ℕ, ◌+◌, ◌*◌, ◌^◌, ◌<◌, ◌≤◌, inl, inr, Bool, true, false, not, ◌&&◌, ◌||◌, ◌==◌, nat_le, List, ◌++◌, length, take, drop, get_or, fold, decimal, Some, refl, ap, ◌∙◌, arith, eq-eqb, ne_eqb, eqb-true, eq-zero-or-pos, le-leb, leb-true, lit<, take-append-drop}
use Rattle.std.specs.List.{prefix_len, list_all}
use Rattle.std.specs.Char.{is_ascii_digit}
use Rattle.std.proofs.lemmas.Str.Parse.{IsNumeralModel, numerals_by_fold, digits_value_short}
use Rattle.std.proofs.lemmas.Fmt.{digits_decimal, digits_value-decimal, decimal-digits_value, decimal_nonempty, decimal_digit, first_decimal, length-decimal-le}
use Rattle.std.proofs.Math.Nat.{pow-le-pow_right}
use Rattle.cg_num.specs.Decimal.{number_of}
use Rattle.cg_text.specs.Pieces.{is_plain, number_at}
use Rattle.cg_text.proofs.StepLemmas.{parts, if-some, and-both, is-either}
use Rattle.cg_text.proofs.PieceLemmas.{prefix-stops, prefix-passes, take-front, drop-front}

-- true on the right
or-true : (b : Bool) → (b || true) ≡ true
or-true true = refl
or-true false = refl

-- a zero stands first only where it stands alone
zero-alone : (len first : ℕ) → (len == 1 || not (first == 48)) ≡ true → first ≡ 48 → len ≡ 1
zero-alone len first h e =
    elim (is-either (len == 1)) [
      | inl one ↦ eqb-true len 1 one
      | inr other ↦ let zero_first : (first == 48) ≡ true = eq-eqb first 48 e in
          let wrong : false ≡ true = rw (other, zero_first) at h in absurd cc
    ]

-- a number is written plainly
decimal-plain : (most n : ℕ) → 1 ≤ most → n < 10 ^ most → n < 2 ^ 64 → is_plain most (decimal n) ≡ true
decimal-plain most n one h wide =
    let some : nat_le 1 (length (decimal n)) ≡ true = le-leb _ _ (decimal_nonempty n wide) in
    let short : nat_le (length (decimal n)) most ≡ true = le-leb _ _ (length-decimal-le most n one h wide) in
    rw (some, short)
    (elim (eq-zero-or-pos n) [
      | inl z ↦ let alone : length (decimal n) ≡ 1 = ap (λ k. length (decimal k)) z ∙ ap (λ ds. length ds) (decimal_digit 0 (lit< tt)) in rw alone refl
      | inr more ↦ let first : (get_or (decimal n) 0 0 == 48) ≡ false = ne_eqb _ _ (λ e. absurd (omega (arith, first_decimal n more wide, e))) in
          rw first (or-true (length (decimal n) == 1))
    ])

-- digits as std reads them
pub own : IsNumeralModel (λ ds. list_all is_ascii_digit ds ≡ true) number_of
own = numerals_by_fold _ (search rules) (λ n ds. fold (λ n c. n * 10 + (c - 48)) n ds) (search rules)

-- seven digits are few
ten : (most : ℕ) → most ≤ 7 → 10 ^ most ≤ 10 ^ 7
ten most h = pow-le-pow_right {n = 10} (lit< tt) h

-- a number before what begins with no digit
pub number-append : (most n : ℕ) (rest : List ℕ) → 1 ≤ most → most ≤ 7 → n < 10 ^ most → prefix_len is_ascii_digit rest ≡ 0 → number_at most (decimal n ++ rest) ≡ Some (n, rest)
number-append most n rest one few h e =
    let wide : n < 2 ^ 64 = omega (arith, ten most few) in
    let digits : list_all is_ascii_digit (decimal n) ≡ true = digits_decimal own n wide in
    let value : number_of (decimal n) ≡ n = digits_value-decimal own n wide in
    let len : prefix_len is_ascii_digit (decimal n ++ rest) ≡ length (decimal n) = prefix-stops is_ascii_digit (decimal n) rest digits e in
    let plain : is_plain most (decimal n) ≡ true = decimal-plain most n one h wide in
    rw (len, take-front, drop-front, plain, value) refl

-- what was read is a number
pub number-is : (most : ℕ) (bytes : List ℕ) (n : ℕ) (rest : List ℕ) → most ≤ 7 → number_at most bytes ≡ Some (n, rest) → (bytes ≡ decimal n ++ rest) × (n < 10 ^ most)
number-is most bytes n rest few h =
    let len = prefix_len is_ascii_digit bytes in
    let digits = take len bytes in
    let tested = if-some (is_plain most digits) (number_of digits, drop len bytes) (n, rest) h in
    let bounds = and-both (nat_le 1 (length digits) && nat_le (length digits) most) _ tested.0 in
    let sizes = and-both (nat_le 1 (length digits)) _ bounds.0 in
    let plain : list_all is_ascii_digit digits ≡ true = prefix-passes is_ascii_digit bytes in
    let some : 1 ≤ length digits = leb-true _ _ sizes.0 in
    let short : length digits ≤ most = leb-true _ _ sizes.1 in
    let small : number_of digits < 10 ^ most = digits_value_short own digits most plain short in
    let whole : take len bytes ++ drop len bytes ≡ bytes = take-append-drop len bytes in
    let written : decimal (number_of digits) ≡ digits = decimal-digits_value own digits plain some (zero-alone _ _ bounds.1) (omega (arith, small, ten most few)) in
    let pair = parts (number_of digits) n (drop len bytes) rest (ap (λ p. Some p) tested.1) in
    let is_number : number_of digits ≡ n = pair.0 in
    let is_rest : drop len bytes ≡ rest = pair.1 in
    (cc (ap decimal is_number), omega (arith, small, is_number))

-- digits that are written plainly write a small number
pub number-small : (most : ℕ) (bytes digits : List ℕ) → digits ≡ take (prefix_len is_ascii_digit bytes) bytes → is_plain most digits ≡ true → number_of digits < 10 ^ most
number-small most bytes digits e h =
    let bounds = and-both (nat_le 1 (length digits) && nat_le (length digits) most) _ h in
    let sizes = and-both (nat_le 1 (length digits)) _ bounds.0 in
    let plain : list_all is_ascii_digit digits ≡ true = ap (λ t. list_all is_ascii_digit t) e ∙ prefix-passes is_ascii_digit bytes in
    digits_value_short own digits most plain (leb-true _ _ sizes.1)
