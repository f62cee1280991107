-- A number that is written is read as one token, its value.
use Rattle.std.proofs.Common.{◌≡◌, ℕ, zero, suc, ◌+◌, ◌/◌, ◌%◌, ◌<◌, ◌^◌, Bool, true, false, List, [], ◌∷◌, ◌++◌, length, take, slice_index, decimal, nat_lt, Ok, ℤ, pos, negsuc, refl, sym, ap, ◌∙◌, subst, arith}
use Rattle.std.specs.Char.{is_ascii_digit}
use Rattle.std.specs.List.{prefix_len, list_all}
use Rattle.std.proofs.lemmas.Bool.{le-ltb}
use Rattle.std.proofs.lemmas.Bool.Decides.{nat_tests}
use Rattle.std.proofs.lemmas.Fmt.{decimal_nonempty, digits_decimal}
use Rattle.std.proofs.lemmas.Int.{ints}
use Rattle.std.proofs.lemmas.List.{take_at}
use Rattle.cg_num.specs.Decimal.{IsDecimal, decimal_of}
use Rattle.cg_num.specs.Written.{fraction_len, point_and_three, fraction_text, decimal_text}
use Rattle.cg_num.proofs.WrittenLemmas.{own, written_is_read}
use Rattle.cg_token.specs.Kind.{number}
use Rattle.cg_token.specs.Cut.{made, is_blank, begins_word, begins_number, in_number, cut}
use Rattle.cg_token.specs.Lexing.{Lexes}
use Rattle.cg_token.proofs.CutLemmas.{both-true}
use Rattle.cg_token.proofs.LexLemmas.{one-lexes, prefix-stops}

-- the first bytes of those that pass do
take-passes : (p : ℕ → Bool) (n : ℕ) (xs : List ℕ) → list_all p xs ≡ true → list_all p (take n xs) ≡ true
take-passes p zero xs h = refl
take-passes p (suc n) [] h = refl
take-passes p (suc n) (x ∷ xs) h = let both = both-true (p x) (list_all p xs) h in rw both.0 (take-passes p n xs both.1)

-- a digit may stand in a number
digits-pass : (ds : List ℕ) → list_all is_ascii_digit ds ≡ true → list_all in_number ds ≡ true
digits-pass [] h = refl
digits-pass (d ∷ ds) h = let both = both-true (is_ascii_digit d) (list_all is_ascii_digit ds) h in rw both.0 (digits-pass ds both.1)

-- the byte of a digit
digit : (d : ℕ) → d < 10 → is_ascii_digit (48 + d) ≡ true
digit d small = grind (arith, nat_tests)

-- a point and decimals may
fraction-passes : (t : ℕ) → t < 1000 → list_all in_number (fraction_text t) ≡ true
fraction-passes t small =
    let first = digit (t / 100) (omega arith) in
    let second = digit (t / 10 % 10) (omega arith) in
    let third = digit (t % 10) (omega arith) in
    take-passes in_number (fraction_len t) (point_and_three t) (rw (first, second, third) refl)

-- bytes that stand behind one another and pass
append-passes : (p : ℕ → Bool) (xs ys : List ℕ) → list_all p xs ≡ true → list_all p ys ≡ true
    → list_all p (xs ++ ys) ≡ true
append-passes p [] ys h k = k
append-passes p (x ∷ xs) ys h k = let both = both-true (p x) (list_all p xs) h in rw both.0 (append-passes p xs ys both.1 k)

-- a text with a byte in front that may begin a number, and behind it bytes that may stand in one
record HasNumberForm (text : List ℕ) : Type 0 where
  first : ℕ
  others : List ℕ
  whole : text ≡ first ∷ others
  begins : begins_number first ≡ true
  passes : list_all in_number others ≡ true

-- a digit begins a number
digit-begins : (c : ℕ) → is_ascii_digit c ≡ true → begins_number c ≡ true
digit-begins c h = grind (arith, nat_tests)

-- digits, and what stands behind them
digits-form : (ds fraction : List ℕ) → 0 < length ds → list_all is_ascii_digit ds ≡ true
    → list_all in_number fraction ≡ true → HasNumberForm (ds ++ fraction)
digits-form [] fraction some h k = absurd (omega arith)
digits-form (d ∷ ds) fraction some h k =
    let both = both-true (is_ascii_digit d) (list_all is_ascii_digit ds) h in
    record {
      first = d;
      others = ds ++ fraction;
      whole = refl;
      begins = digit-begins d both.0;
      passes = append-passes in_number ds fraction (digits-pass ds both.1) k;
    }

-- a written number has that form
number-form : (z : ℤ) → IsDecimal z → HasNumberForm (decimal_text z)
unfolding decimal_text
number-form (pos n) h =
    let few : n < 2 ^ 64 = omega (arith, ints, h.1) in
    let no : nat_lt n 0 ≡ false = le-ltb n 0 (omega arith) in
    let form = digits-form (decimal (n / 1000)) (fraction_text (n % 1000)) (decimal_nonempty (n / 1000) (omega arith))
    (digits_decimal own (n / 1000) (omega arith)) (fraction-passes (n % 1000) (omega arith)) in
    rw no form
number-form (negsuc n) h =
    let few : suc n < 2 ^ 64 = omega (arith, ints, h.0) in
    let digits = digits-pass (decimal (suc n / 1000)) (digits_decimal own (suc n / 1000) (omega arith)) in
    record {
      first = 45;
      others = decimal (suc n / 1000) ++ fraction_text (suc n % 1000);
      whole = refl;
      begins = refl;
      passes = append-passes in_number (decimal (suc n / 1000)) (fraction_text (suc n % 1000)) digits (fraction-passes (suc n % 1000) (omega arith));
    }

-- what begins a number is no blank
no-blank : (c : ℕ) → begins_number c ≡ true → is_blank c ≡ false
no-blank c h = grind (arith, nat_tests)

-- and begins no word
no-word : (c : ℕ) → begins_number c ≡ true → begins_word c ≡ false
no-word c h = grind (arith, nat_tests)

-- a number in front is cut
number-cut : (c : ℕ) (cs rest : List ℕ) (z : ℤ) → begins_number c ≡ true → list_all in_number cs ≡ true
    → decimal_of (c ∷ cs) ≡ Ok z
    → in_number (slice_index rest 0) ≡ false → cut ((c ∷ cs) ++ rest) ≡ made (number z) (length (c ∷ cs))
unfolding cut
number-cut c cs rest z begins passes value e =
    let long : suc (prefix_len in_number (cs ++ rest)) ≡ length (c ∷ cs) = ap suc (prefix-stops in_number cs rest passes e) in
    let front : take (length (c ∷ cs)) ((c ∷ cs) ++ rest) ≡ c ∷ cs = take_at (c ∷ cs) rest (length (c ∷ cs)) refl in
    let said : decimal_of (take (suc (prefix_len in_number (cs ++ rest))) (c ∷ (cs ++ rest))) ≡ Ok z =
    ap (λ n. decimal_of (take n (c ∷ (cs ++ rest)))) long ∙ ap decimal_of front ∙ value in
    rw (no-blank c begins, no-word c begins, begins, said) (ap (λ n. made (number z) n) long)

-- a written number is one token, before another byte than one of a number
pub number-lexes : (z : ℤ) (rest : List ℕ) → IsDecimal z → in_number (slice_index rest 0) ≡ false
    → Lexes (decimal_text z) rest (number z ∷ [])
number-lexes z rest h e =
    let form = number-form z h in
    let value : decimal_of (form.first ∷ form.others) ≡ Ok z = ap decimal_of (sym form.whole) ∙ written_is_read z h in
    subst (λ text. Lexes text rest (number z ∷ [])) (sym form.whole)
    (one-lexes (form.first ∷ form.others) rest (number z) (number-cut form.first form.others rest z form.begins form.passes value e) refl)
