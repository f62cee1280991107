-- The parts of a number are found in just those texts that are made of them.
use Rattle.std.proofs.Common.{◌≡◌, ℕ, ◌≤◌, Bool, true, false, ◌==◌, ◌&&◌, ◌||◌, inl, inr, List, [], ◌∷◌, ◌++◌, length, take, drop, codes, Some, None, Option, refl, ap, ◌∙◌, sym, subst, cond, arith, nat_lt}
use Rattle.std.proofs.Math.Dec.{eqb-suc-zero}
use Rattle.std.proofs.Math.Seq.{take-append_seam, drop-append_seam}
use Rattle.std.proofs.lemmas.Bool.{eqb-true}
use Rattle.std.proofs.lemmas.Bool.Decides.{nat_tests}
use Rattle.std.proofs.lemmas.List.{take-append-drop}
use Rattle.std.specs.List.{prefix_len, list_all}
use Rattle.std.specs.Char.{is_ascii_digit}
use Rattle.cg_num.specs.Numeral.{Numeral, AreDigits, IsSign, IsFraction, Spells, is_negative, without_sign, decimals_of, joined, numeral_of, PartsAreFound}
use Rattle.cg_num.proofs.DigitLemmas.{list_all-take_prefix}

-- both sides of a test that passes
both_true : (a b : Bool) → (a && b) ≡ true → (a ≡ true) × (b ≡ true)
both_true true b h = (refl, h)
both_true false b h = absurd cc

-- what passes stands in front of what doesn't
prefix_len-front : {X : Type 0} (p : X → Bool) (xs ys : List X) → list_all p xs ≡ true → prefix_len p ys ≡ 0
    → prefix_len p (xs ++ ys) ≡ length xs
prefix_len-front p [] ys passes none = none
prefix_len-front p (x ∷ xs) ys passes none =
    let both = both_true (p x) (list_all p xs) passes in
    rw both.0 (omega (arith, prefix_len-front p xs ys both.1 none))

-- a digit is no sign
digit_is_no_sign : (c : ℕ) → is_ascii_digit c ≡ true → ((c == 43 || c == 45) ≡ false) × ((c == 45) ≡ false)
digit_is_no_sign c digit = (grind (arith, nat_tests), grind (arith, nat_tests))

-- a sign before a digit is found, and whether it is a minus
sign_found : (negative : Bool) (sign : List ℕ) (c : ℕ) (cs : List ℕ) → IsSign negative sign → is_ascii_digit c ≡ true
    → (without_sign (sign ++ (c ∷ cs)) ≡ c ∷ cs) × (is_negative (sign ++ (c ∷ cs)) ≡ negative)
sign_found true sign c cs minus digit = rw minus (refl, refl)
sign_found false sign c cs (inr plus) digit = rw plus (refl, refl)
sign_found false sign c cs (inl none) digit =
    let no_sign = digit_is_no_sign c digit in
    rw none (rw no_sign.0, no_sign.1)

-- the digits of a fraction are found, and no digit stands in front of it
fraction_found : (decimals fraction : List ℕ) → IsFraction decimals fraction
    → (prefix_len is_ascii_digit fraction ≡ 0) × (decimals_of fraction ≡ Some decimals)
fraction_found decimals fraction (inl none) = rw (none.0, none.1) (refl, refl)
fraction_found decimals fraction (inr some) =
    let digits = some.0.digits in
    let nonempty : nat_lt 0 (length decimals) ≡ true = grind (arith, nat_tests, some.0.some) in
    rw some.1 (refl, rw (nonempty, digits))

-- the parts of a text whose front and rest are known
numeral_of-known : (text whole fraction decimals : List ℕ) (negative : Bool)
    → without_sign text ≡ whole ++ fraction → is_negative text ≡ negative → AreDigits whole
    → prefix_len is_ascii_digit (whole ++ fraction) ≡ length whole → decimals_of fraction ≡ Some decimals
    → numeral_of text ≡ Some (record { negative = negative; whole = whole; decimals = decimals })
numeral_of-known text [] fraction decimals negative body minus digits front rest = absurd (omega (arith, digits.some))
numeral_of-known text (c ∷ cs) fraction decimals negative body minus digits front rest =
    rw (body, minus, front, take-append_seam cs fraction, drop-append_seam cs fraction, rest, eqb-suc-zero (length cs))

-- what is made of these parts has these parts
pub numeral_of-joined : (negative : Bool) (whole decimals sign fraction : List ℕ)
    → IsSign negative sign → AreDigits whole → IsFraction decimals fraction
    → numeral_of (sign ++ (whole ++ fraction)) ≡ Some (record { negative = negative; whole = whole; decimals = decimals })
numeral_of-joined negative [] decimals sign fraction is_sign digits is_fraction = absurd (omega (arith, digits.some))
numeral_of-joined negative (c ∷ cs) decimals sign fraction is_sign digits is_fraction =
    let first = both_true (is_ascii_digit c) (list_all is_ascii_digit cs) digits.digits in
    let found = sign_found negative sign c (cs ++ fraction) is_sign first.0 in
    let rest = fraction_found decimals fraction is_fraction in
    numeral_of-known (sign ++ (c ∷ (cs ++ fraction))) (c ∷ cs) fraction decimals negative found.0 found.1 digits
    (prefix_len-front is_ascii_digit (c ∷ cs) fraction digits.digits rest.0) rest.1

-- a text is its sign and what stands behind it
sign_split : (text : List ℕ) → (sign : List ℕ) × IsSign (is_negative text) sign × (text ≡ sign ++ without_sign text)
sign_split [] = ([], inl refl, refl)
sign_split (c ∷ cs) = by_tests (c == 43) (c == 45) refl refl
  where
    by_tests : (plus minus : Bool) → (c == 43) ≡ plus → (c == 45) ≡ minus
        → (sign : List ℕ) × IsSign minus sign × (c ∷ cs ≡ sign ++ cond (plus || minus) cs (c ∷ cs))
    by_tests true true p m = (codes "-", refl, ap (λ x. x ∷ cs) (eqb-true c 45 m))
    by_tests false true p m = (codes "-", refl, ap (λ x. x ∷ cs) (eqb-true c 45 m))
    by_tests true false p m = (codes "+", inr refl, ap (λ x. x ∷ cs) (eqb-true c 43 p))
    by_tests false false p m = ([], inl refl, refl)

-- where decimals are found, a fraction stands
fraction_from_decimals : (fraction decimals : List ℕ) → decimals_of fraction ≡ Some decimals → IsFraction decimals fraction
fraction_from_decimals [] decimals found = inl (cc, refl)
fraction_from_decimals (c ∷ cs) decimals found = by_test (c == 46 && (nat_lt 0 (length cs) && list_all is_ascii_digit cs)) refl found
  where
    by_test : (b : Bool) → (c == 46 && (nat_lt 0 (length cs) && list_all is_ascii_digit cs)) ≡ b
        → cond b (Some cs) None ≡ Some decimals → IsFraction decimals (c ∷ cs)
    by_test true passes found =
        let point = both_true (c == 46) (nat_lt 0 (length cs) && list_all is_ascii_digit cs) passes in
        let digits = both_true (nat_lt 0 (length cs)) (list_all is_ascii_digit cs) point.1 in
        let same : cs ≡ decimals = cc in
        let are_digits : AreDigits cs = record { some = grind (arith, nat_tests, digits.0); digits = digits.1 } in
        inr (subst AreDigits same are_digits, cc (eqb-true c 46 point.0))
    by_test false passes found = absurd cc

-- the parts that a joined numeral came from
joined_found : (negative : Bool) (whole : List ℕ) (found : Option (List ℕ)) (numeral : Numeral) → joined negative whole found ≡ Some numeral
    → (1 ≤ length whole) × (negative ≡ numeral.negative) × (whole ≡ numeral.whole) × (found ≡ Some numeral.decimals)
joined_found negative whole None numeral h = absurd cc
joined_found negative [] (Some decimals) numeral h = absurd cc
joined_found negative (c ∷ cs) (Some decimals) numeral h =
    let found : Numeral = record { negative = negative; whole = c ∷ cs; decimals = decimals } in
    let some : Some found ≡ Some numeral = rw (eqb-suc-zero (length cs)) at h in
    let same : found ≡ numeral = cc in
    (omega arith, ap (λ n. n.negative) same, ap (λ n. n.whole) same, ap (λ n. Some n.decimals) same)

-- a text is made of the parts that are found in it
spells_from_found : (text : List ℕ) (numeral : Numeral) → numeral_of text ≡ Some numeral → Spells text numeral
spells_from_found text numeral h =
    let body : List ℕ = without_sign text in
    let n : ℕ = prefix_len is_ascii_digit body in
    let split = sign_split text in
    let found = joined_found (is_negative text) (take n body) (decimals_of (drop n body)) numeral h in
    let are_digits : AreDigits (take n body) = record { some = found.0; digits = list_all-take_prefix is_ascii_digit body } in
    record {
      sign = split.0;
      fraction = drop n body;
      signed = subst (λ b. IsSign b split.0) found.1 split.1;
      whole = subst AreDigits found.2 are_digits;
      decimals = fraction_from_decimals (drop n body) numeral.decimals found.3;
      joined = split.2 ∙ ap (λ x. split.0 ++ x) (sym (take-append-drop n body) ∙ ap (λ w. w ++ drop n body) found.2);
    }

-- both ways
pub parts_are_found : PartsAreFound
parts_are_found text numeral = (
  spells_from_found text numeral,
  λ spells. subst (λ t. numeral_of t ≡ Some numeral) (sym spells.joined)
      (numeral_of-joined numeral.negative numeral.whole numeral.decimals spells.sign spells.fraction spells.signed spells.whole spells.decimals),
)
