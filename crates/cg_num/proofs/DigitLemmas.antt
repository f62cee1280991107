-- Digits in front of others, and the number that digits write.
use Rattle.std.proofs.Common.{◌≡◌, ℕ, zero, suc, ◌+◌, ◌-◌, ◌*◌, ◌^◌, ◌<◌, ◌≤◌, Bool, true, false, ◌==◌, List, [], ◌∷◌, ◌++◌, length, take, drop, refl, ap, ◌∙◌, sym, cond, min, codes, arith, lit<}
use Rattle.std.proofs.Math.Nat.{pow-suc, pow-le-pow_right}
use Rattle.std.proofs.lemmas.Bool.{eqb-true}
use Rattle.std.proofs.lemmas.Grind.{common_steps}
use Rattle.std.proofs.lemmas.List.Sums.{fold-append}
use Rattle.std.specs.List.{prefix_len, list_all, fold}
use Rattle.std.specs.Char.{is_ascii_digit}
use Rattle.cg_num.specs.Decimal.{is_zero, number_of, three_of, significant}

-- what stands in front and passes, passes
pub list_all-take_prefix : {X : Type 0} (p : X → Bool) (xs : List X) → list_all p (take (prefix_len p xs) xs) ≡ true
list_all-take_prefix p [] = refl
list_all-take_prefix p (x ∷ xs) = by_test (p x) refl (list_all-take_prefix p xs)
  where
    by_test : (b : Bool) → p x ≡ b → list_all p (take (prefix_len p xs) xs) ≡ true
        → list_all p (take (cond b (1 + prefix_len p xs) 0) (x ∷ xs)) ≡ true
    by_test true e others = let next : 1 + prefix_len p xs ≡ suc (prefix_len p xs) = omega arith in rw (next, e) others
    by_test false e others = refl

-- what is left of passing elements passes
pub list_all-drop : {X : Type 0} (p : X → Bool) (n : ℕ) (xs : List X) → list_all p xs ≡ true → list_all p (drop n xs) ≡ true
list_all-drop p zero xs h = h
list_all-drop p (suc n) [] h = refl
list_all-drop p (suc n) (x ∷ xs) h = list_all-drop p n xs (grind (arith, common_steps))

-- digits after a number weigh it by their count
after : (n : ℕ) (digits : List ℕ) → fold (λ n c. n * 10 + (c - 48)) n digits ≡ n * 10 ^ length digits + number_of digits
after n [] = omega arith
after n (c ∷ cs) = rw (pow-suc 10 (length cs)) (omega (arith, after (n * 10 + (c - 48)) cs, after (0 * 10 + (c - 48)) cs))

-- the number of digits that stand behind one another
pub number_of-append : (xs ys : List ℕ) → number_of (xs ++ ys) ≡ number_of xs * 10 ^ length ys + number_of ys
number_of-append xs ys = fold-append (λ n c. n * 10 + (c - 48)) 0 xs ys ∙ after (number_of xs) ys

-- leading zeros add nothing
pub number_of-significant : (whole : List ℕ) → number_of (significant whole) ≡ number_of whole
number_of-significant [] = refl
number_of-significant (c ∷ cs) = by_test (c == 48) refl (number_of-significant cs)
  where
    by_test : (b : Bool) → (c == 48) ≡ b → number_of (significant cs) ≡ number_of cs
        → number_of (drop (cond b (1 + prefix_len is_zero cs) 0) (c ∷ cs)) ≡ number_of (c ∷ cs)
    by_test true e others =
        let next : 1 + prefix_len is_zero cs ≡ suc (prefix_len is_zero cs) = omega arith in
        let zero_digit : 0 * 10 + (c - 48) ≡ 0 = omega (arith, eqb-true c 48 e) in
        rw next (others ∙ sym (ap (λ n. fold (λ n c. n * 10 + (c - 48)) n cs) zero_digit))
    by_test false e others = refl

-- a number of few digits is below a greater power of ten
pub below_ten_to : (n i k : ℕ) → n < 10 ^ i → i ≤ k → n < 10 ^ k
below_ten_to n i k below h = omega (arith, pow-le-pow_right {n = 10} (lit< tt) {i = i} {j = k} h)

-- three decimals, copied over zeros
pub three_of_copied : (decimals : List ℕ) → take (min (length decimals) 3) decimals ++ drop (min (length decimals) 3) (codes "000") ≡ three_of decimals
three_of_copied [] = refl
three_of_copied (a ∷ []) = refl
three_of_copied (a ∷ b ∷ []) = refl
three_of_copied (a ∷ b ∷ c ∷ others) = let all : min (length (a ∷ b ∷ c ∷ others)) 3 ≡ 3 = omega arith in rw all

-- three decimals are three
pub length-three_of : (decimals : List ℕ) → length (three_of decimals) ≡ 3
length-three_of [] = refl
length-three_of (a ∷ []) = refl
length-three_of (a ∷ b ∷ []) = refl
length-three_of (a ∷ b ∷ c ∷ others) = refl

-- and they are digits
pub list_all-three_of : (decimals : List ℕ) → list_all is_ascii_digit decimals ≡ true → list_all is_ascii_digit (three_of decimals) ≡ true
list_all-three_of [] h = refl
list_all-three_of (a ∷ []) h = grind (arith, common_steps)
list_all-three_of (a ∷ b ∷ []) h = grind (arith, common_steps)
list_all-three_of (a ∷ b ∷ c ∷ others) h = grind (arith, common_steps)

-- leading zeros and the missing decimals make no difference
pub number_of-joined : (whole decimals : List ℕ)
    → number_of (whole ++ three_of decimals) ≡ number_of (significant whole) * 1000 + number_of (three_of decimals)
number_of-joined whole decimals = rw (number_of-append whole (three_of decimals), length-three_of decimals, number_of-significant whole)
