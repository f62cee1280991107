-- No shorter text is read as a number than the one that is written.
use Rattle.std.proofs.Common.{◌≡◌, ℕ, zero, suc, ◌+◌, ◌*◌, ◌/◌, ◌%◌, ◌<◌, ◌≤◌, ◌^◌, Bool, true, false, not, ◌==◌, inl, inr, List, [], ◌∷◌, ◌++◌, length, drop, Ok, Err, Option, Some, None, ℤ, pos, refl, ap, ◌∙◌, subst, cond, arith, nat_lt, decimal}
use Rattle.std.specs.Prelude.{int_lt, unsigned_abs}
use Rattle.std.specs.Fmt.{sign_text}
use Rattle.std.specs.List.{prefix_len, list_all}
use Rattle.std.specs.Char.{is_ascii_digit}
use Rattle.std.proofs.lemmas.Bool.{eq-eqb, le-ltb, ltb-false}
use Rattle.std.proofs.lemmas.Fmt.{length-decimal-le}
use Rattle.std.proofs.lemmas.List.{length-append, length-take}
use Rattle.std.proofs.lemmas.Str.Parse.{digits_value_short}
use Rattle.cg_num.specs.Decimal.{is_zero, number_of, three_of, signed, significant, value_of, value_if, decimal_of}
use Rattle.cg_num.specs.declared.decimal.NumFault.TheVariants.{TooWide, TooManyDecimals}
use Rattle.cg_num.specs.Numeral.{Numeral, AreDigits, IsSign, IsFraction, Spells, numeral_of}
use Rattle.cg_num.specs.Written.{fraction_len, point_and_three, fraction_text, decimal_text, ShortestIsWritten}
use Rattle.cg_num.proofs.DigitLemmas.{list_all-drop, list_all-three_of, length-three_of, number_of-append, number_of-significant, below_ten_to}
use Rattle.cg_num.proofs.NumeralLemmas.{parts_are_found}
use Rattle.cg_num.proofs.WrittenLemmas.{own}

-- so many digits write a number below that power of ten
number_of-below : (digits : List ℕ) → list_all is_ascii_digit digits ≡ true → number_of digits < 10 ^ length digits
number_of-below digits h = digits_value_short own digits (length digits) h (omega arith)

-- what a numeral with a value is
value_found : (numeral : Numeral) (number : ℤ) → value_of numeral ≡ Ok number
    → (length (significant numeral.whole) ≤ 12) × (signed numeral.negative (number_of (numeral.whole ++ three_of numeral.decimals)) ≡ number)
value_found numeral number h =
    let tests = by_tests (nat_lt 12 (length (significant numeral.whole))) (list_all is_zero (drop 3 numeral.decimals))
    (signed numeral.negative (number_of (numeral.whole ++ three_of numeral.decimals))) h in
    (ltb-false 12 (length (significant numeral.whole)) tests.0, tests.1)
  where
    by_tests : (wide zeros : Bool) (value : ℤ) → cond wide (Err TooWide) (cond (not zeros) (Err TooManyDecimals) (Ok value)) ≡ Ok number
        → (wide ≡ false) × (value ≡ number)
    by_tests true zeros value h = absurd cc
    by_tests false false value h = absurd cc
    by_tests false true value h = (refl, cc)

-- one decimal is enough where the last two are 0
fraction_len_two : (t : ℕ) → t % 100 ≡ 0 → fraction_len t ≤ 2
fraction_len_two t h = by_tests (t == 0) (t % 100 == 0) (eq-eqb (t % 100) 0 h)
  where
    by_tests : (none one : Bool) → one ≡ true → cond none 0 (cond one 2 (cond (t % 10 == 0) 3 4)) ≤ 2
    by_tests true one o = omega arith
    by_tests false true o = omega arith
    by_tests false false o = absurd cc

-- one whose last decimal is 0
fraction_len_three : (t : ℕ) → t % 10 ≡ 0 → fraction_len t ≤ 3
fraction_len_three t h = by_tests (t == 0) (t % 100 == 0) (t % 10 == 0) (eq-eqb (t % 10) 0 h)
  where
    by_tests : (none one two : Bool) → two ≡ true → cond none 0 (cond one 2 (cond two 3 4)) ≤ 3
    by_tests true one two o = omega arith
    by_tests false true two o = omega arith
    by_tests false false true o = omega arith
    by_tests false false false o = absurd cc

-- any
fraction_len_four : (t : ℕ) → fraction_len t ≤ 4
fraction_len_four t = by_tests (t == 0) (t % 100 == 0) (t % 10 == 0)
  where
    by_tests : (none one two : Bool) → cond none 0 (cond one 2 (cond two 3 4)) ≤ 4
    by_tests true one two = omega arith
    by_tests false true two = omega arith
    by_tests false false true = omega arith
    by_tests false false false = omega arith

-- no more decimals are written than were read
decimals_len : (decimals : List ℕ) → 1 ≤ length decimals → fraction_len (number_of (three_of decimals)) ≤ suc (length decimals)
decimals_len [] some = absurd (omega arith)
decimals_len (a ∷ []) some = fraction_len_two (number_of (three_of (a ∷ []))) (omega arith)
decimals_len (a ∷ b ∷ []) some = fraction_len_three (number_of (three_of (a ∷ b ∷ []))) (omega arith)
decimals_len (a ∷ b ∷ c ∷ others) some = omega (arith, fraction_len_four (number_of (three_of (a ∷ b ∷ c ∷ others))))

-- nor a point that was not read
fraction_fits : (decimals fraction : List ℕ) → IsFraction decimals fraction → fraction_len (number_of (three_of decimals)) ≤ length fraction
fraction_fits decimals fraction (inl none) = rw (none.0, none.1) (omega arith)
fraction_fits decimals fraction (inr some) = rw some.1 (decimals_len decimals some.0.some)

-- how long a written fraction is
length-fraction_text : (t : ℕ) → length (fraction_text t) ≤ fraction_len t
length-fraction_text t = omega (arith, length-take (fraction_len t) (point_and_three t))

-- the decimals of a fraction are digits
decimals_are_digits : (decimals fraction : List ℕ) → IsFraction decimals fraction → list_all is_ascii_digit decimals ≡ true
decimals_are_digits decimals fraction (inl none) = rw none.0
decimals_are_digits decimals fraction (inr some) = some.0.digits

-- a minus is written only where the text has one
sign_fits : (negative : Bool) (sign : List ℕ) (magnitude : ℕ) → IsSign negative sign
    → length (sign_text (int_lt (signed negative magnitude) (pos 0))) ≤ length sign
sign_fits true sign magnitude minus = rw minus (by_test (int_lt (signed true magnitude) (pos 0)))
  where
    by_test : (b : Bool) → length (sign_text b) ≤ 1
    by_test true = omega arith
    by_test false = omega arith
sign_fits false sign magnitude plus = let no : nat_lt magnitude 0 ≡ false = le-ltb magnitude 0 (omega arith) in rw no (omega arith)

-- the magnitude of a number that was made of one
unsigned_abs-signed : (negative : Bool) (magnitude : ℕ) → unsigned_abs (signed negative magnitude) ≡ magnitude
unsigned_abs-signed true zero = refl
unsigned_abs-signed true (suc n) = refl
unsigned_abs-signed false n = refl

-- the digits before the point are written with no more digits than were read
whole_fits : (whole : List ℕ) → AreDigits whole → length (significant whole) ≤ 12 → length (decimal (number_of whole)) ≤ length whole
whole_fits whole digits few =
    let below = number_of-below (significant whole) (list_all-drop is_ascii_digit (prefix_len is_zero whole) whole digits.digits) in
    let small : number_of (significant whole) < 10 ^ 12 = below_ten_to (number_of (significant whole)) (length (significant whole)) 12 below few in
    length-decimal-le (length whole) (number_of whole) digits.some (number_of-below whole digits.digits) (omega (arith, number_of-significant whole))

-- how long a written number is, by its parts
length-decimal_text : (number : ℤ) (whole thousandths : ℕ) → unsigned_abs number ≡ whole * 1000 + thousandths → thousandths < 1000
    → length (decimal_text number) ≤ length (sign_text (int_lt number (pos 0))) + (length (decimal whole) + fraction_len thousandths)
unfolding decimal_text
length-decimal_text number whole thousandths same below =
    let front : unsigned_abs number / 1000 ≡ whole = omega arith in
    let rest : unsigned_abs number % 1000 ≡ thousandths = omega arith in
    let sign : List ℕ = sign_text (int_lt number (pos 0)) in
    rw (front, rest)
    (omega (
      arith,
      length-append sign (decimal whole ++ fraction_text thousandths),
      length-append (decimal whole) (fraction_text thousandths),
      length-fraction_text thousandths,
    ))

-- each part is written with no more bytes than it was read from
written_fits : (text : List ℕ) (numeral : Numeral) → Spells text numeral → length (significant numeral.whole) ≤ 12
    → length (decimal_text (signed numeral.negative (number_of (numeral.whole ++ three_of numeral.decimals)))) ≤ length text
written_fits text numeral spells few =
    let three : List ℕ = three_of numeral.decimals in
    let magnitude : ℕ = number_of (numeral.whole ++ three) in
    let number : ℤ = signed numeral.negative magnitude in
    let digits = list_all-three_of numeral.decimals (decimals_are_digits numeral.decimals spells.fraction spells.decimals) in
    let below : number_of three < 1000 =
    below_ten_to (number_of three) (length three) 3 (number_of-below three digits) (omega (arith, length-three_of numeral.decimals)) in
    let same : unsigned_abs number ≡ number_of numeral.whole * 1000 + number_of three =
    unsigned_abs-signed numeral.negative magnitude ∙ number_of-append numeral.whole three
    ∙ ap (λ n. number_of numeral.whole * 10 ^ n + number_of three) (length-three_of numeral.decimals) in
    omega (
      arith,
      length-decimal_text number (number_of numeral.whole) (number_of three) same below,
      sign_fits numeral.negative spells.sign magnitude spells.signed,
      whole_fits numeral.whole spells.whole few,
      fraction_fits numeral.decimals spells.fraction spells.decimals,
      ap length spells.joined,
      length-append spells.sign (numeral.whole ++ spells.fraction),
      length-append numeral.whole spells.fraction,
    )

-- so is the whole, at any text that has a value
pub shortest_is_written : ShortestIsWritten
unfolding decimal_of
shortest_is_written text number h = by_parts (numeral_of text) refl h
  where
    by_parts : (found : Option Numeral) → numeral_of text ≡ found → value_if found ≡ Ok number → length (decimal_text number) ≤ length text
    by_parts None f v = absurd cc
    by_parts (Some numeral) f v =
        let value = value_found numeral number v in
        subst (λ z. length (decimal_text z) ≤ length text) value.1 (written_fits text numeral ((parts_are_found text numeral).0 f) value.0)
