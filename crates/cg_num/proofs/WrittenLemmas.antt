-- What is written of a number is read as the same number.
use Rattle.std.proofs.Common.{◌≡◌, ℕ, ◌+◌, ◌-◌, ◌*◌, ◌/◌, ◌%◌, ◌<◌, ◌≤◌, ◌^◌, Bool, true, false, ◌==◌, inl, inr, List, [], ◌++◌, length, take, drop, Ok, ℤ, pos, negsuc, refl, ap, ◌∙◌, sym, cond, arith, rules, nat_lt, decimal}
use Rattle.std.specs.Prelude.{int_lt, unsigned_abs, fold}
use Rattle.std.specs.Fmt.{sign_text}
use Rattle.std.specs.List.{prefix_len, list_all}
use Rattle.std.specs.Char.{is_ascii_digit}
use Rattle.std.proofs.lemmas.Bool.{eqb-true, le-ltb}
use Rattle.std.proofs.lemmas.Bool.Decides.{nat_tests}
use Rattle.std.proofs.lemmas.Fmt.{decimal_nonempty, digits_decimal, digits_value-decimal, length-decimal-le}
use Rattle.std.proofs.lemmas.Int.{ints}
use Rattle.std.proofs.lemmas.List.{length-drop, drop_all}
use Rattle.std.proofs.lemmas.Str.Parse.{IsNumeralModel, numerals_by_fold}
use Rattle.cg_num.specs.Decimal.{IsDecimal, is_zero, number_of, three_of, signed, significant, value_of, value_if, decimal_of}
use Rattle.cg_num.specs.Numeral.{AreDigits, IsSign, IsFraction}
use Rattle.cg_num.specs.Written.{point_and_three, fraction_text, decimal_text, WrittenIsRead}
use Rattle.cg_num.proofs.DigitLemmas.{number_of-append, length-three_of}
use Rattle.cg_num.proofs.NumeralLemmas.{numeral_of-joined}

-- digits and their number are std's
pub own : IsNumeralModel (λ ds. list_all is_ascii_digit ds ≡ true) number_of
own = numerals_by_fold (λ ds. list_all is_ascii_digit ds ≡ true) (search rules) (λ n ds. fold (λ m c. m * 10 + (c - 48)) n ds) (search rules)

-- a whole number is written in digits
decimal_are_digits : (n : ℕ) → n < 2 ^ 64 → AreDigits (decimal n)
decimal_are_digits n small = record { some = decimal_nonempty n small; digits = digits_decimal own n small }

-- which write that number
number_of-decimal : (n : ℕ) → n < 2 ^ 64 → number_of (decimal n) ≡ n
number_of-decimal n small = digits_value-decimal own n small

-- what a fraction of so many thousandths says
record IsFractionOf (thousandths : ℕ) (text : List ℕ) : Type 0 where
  form : IsFraction (drop 1 text) text
  few : length (drop 1 text) ≤ 3
  value : number_of (three_of (drop 1 text)) ≡ thousandths

-- the byte of a digit
digit_is_digit : (d : ℕ) → d < 10 → is_ascii_digit (48 + d) ≡ true
digit_is_digit d small = grind (arith, nat_tests)

-- each fraction that is written says its thousandths
fraction_text_is : (thousandths : ℕ) → thousandths < 1000 → IsFractionOf thousandths (fraction_text thousandths)
fraction_text_is t small = by_tests (t == 0) (t % 100 == 0) (t % 10 == 0) refl refl refl
  where
    first : is_ascii_digit (48 + t / 100) ≡ true
    first = digit_is_digit (t / 100) (omega arith)

    second : is_ascii_digit (48 + t / 10 % 10) ≡ true
    second = digit_is_digit (t / 10 % 10) (omega arith)

    third : is_ascii_digit (48 + t % 10) ≡ true
    third = digit_is_digit (t % 10) (omega arith)

    by_tests : (none one two : Bool) → (t == 0) ≡ none → (t % 100 == 0) ≡ one → (t % 10 == 0) ≡ two
        → IsFractionOf t (take (cond none 0 (cond one 2 (cond two 3 4))) (point_and_three t))
    by_tests true one two n o w = record { form = inl (refl, refl); few = omega arith; value = sym (eqb-true t 0 n) }
    by_tests false true two n o w = record {
      form = inr (record { some = omega arith; digits = rw first }, refl);
      few = omega arith;
      value = omega (arith, eqb-true (t % 100) 0 o);
    }
    by_tests false false true n o w = record {
      form = inr (record { some = omega arith; digits = rw (first, second) }, refl);
      few = omega arith;
      value = omega (arith, eqb-true (t % 10) 0 w);
    }
    by_tests false false false n o w = record {
      form = inr (record { some = omega arith; digits = rw (first, second, third) }, refl);
      few = omega arith;
      value = omega arith;
    }

-- the sign that is written says whether the number is negative
sign_text_is : (negative : Bool) → IsSign negative (sign_text negative)
sign_text_is true = refl
sign_text_is false = inl refl

-- a number is its magnitude with its sign
signed_magnitude : (number : ℤ) → signed (int_lt number (pos 0)) (unsigned_abs number) ≡ number
signed_magnitude (pos n) = let no : nat_lt n 0 ≡ false = le-ltb n 0 (omega arith) in rw no
signed_magnitude (negsuc n) = refl

-- the value of the parts that are written
value_of-written : (negative : Bool) (q t : ℕ) (decimals : List ℕ) → q < 10 ^ 12 → length decimals ≤ 3 → number_of (three_of decimals) ≡ t
    → value_of (record { negative = negative; whole = decimal q; decimals = decimals }) ≡ Ok (signed negative (q * 1000 + t))
value_of-written negative q t decimals small few value =
    let narrow : nat_lt 12 (length (significant (decimal q))) ≡ false =
    le-ltb 12 (length (significant (decimal q)))
    (omega (arith, length-drop (prefix_len is_zero (decimal q)) (decimal q), length-decimal-le 12 q (omega arith) small (omega arith))) in
    let none : drop 3 decimals ≡ [] = drop_all 3 decimals few in
    let number : number_of (decimal q ++ three_of decimals) ≡ q * 1000 + t =
    rw (number_of-append (decimal q) (three_of decimals), length-three_of decimals, number_of-decimal q (omega arith), value) in
    rw (narrow, none, number)

-- a decimal has at most twelve digits before the point
magnitude_below : (number : ℤ) → IsDecimal number → unsigned_abs number < 10 ^ 15
magnitude_below (pos n) range = omega (arith, ints, range.1)
magnitude_below (negsuc n) range = omega (arith, ints, range.0)

-- the parts are found again, and their value is the number
pub written_is_read : WrittenIsRead
unfolding decimal_of decimal_text
written_is_read number range =
    let negative : Bool = int_lt number (pos 0) in
    let magnitude : ℕ = unsigned_abs number in
    let below : magnitude < 10 ^ 15 = magnitude_below number range in
    let fraction : List ℕ = fraction_text (magnitude % 1000) in
    let is_fraction : IsFractionOf (magnitude % 1000) fraction = fraction_text_is (magnitude % 1000) (omega arith) in
    let joined : magnitude / 1000 * 1000 + magnitude % 1000 ≡ magnitude = omega arith in
    ap value_if (numeral_of-joined negative (decimal (magnitude / 1000)) (drop 1 fraction) (sign_text negative) fraction
    (sign_text_is negative) (decimal_are_digits (magnitude / 1000) (omega arith)) is_fraction.form)
    ∙ value_of-written negative (magnitude / 1000) (magnitude % 1000) (drop 1 fraction) (omega arith) is_fraction.few is_fraction.value
    ∙ ap Ok (ap (signed negative) joined ∙ signed_magnitude number)
