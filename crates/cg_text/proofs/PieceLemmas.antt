-- Words and texts: each is cut off exactly where it stands.
use Rattle.std.proofs.Common.{All, IsUtf8, ◌≢◌, Bor, MatchOption, option_map, ◌≡◌, ℕ, suc, ◌+◌, ◌<◌, ◌≤◌, inl, inr, Bool, true, ◌&&◌, ◌==◌, nat_le, List, [], ◌∷◌, ◌++◌, length, take, drop, codes, Option, Some, None, refl, sym, ap, ◌∙◌, subst, arith, append_assoc, eqb-true, le-leb, leb-true, take-append-drop}
use Rattle.std.specs.List.{prefix_len, list_all}
use Rattle.std.specs.Char.{is_ascii_alphanumeric}
use Rattle.std.proofs.lemmas.List.Folds.{length-prefix_len}
use Rattle.std.proofs.lemmas.Bool.Decides.{nat_tests}
use Rattle.std.proofs.lemmas.List.Elements.{All-nil, All-cons}
use Rattle.std.proofs.lemmas.Str.{IsUtf8-from_ascii}
use Rattle.std.proofs.lemmas.Str.Ascii.{IsAscii-from_all}
use Rattle.cg_text.specs.Text.{IsText, quoted}
use Rattle.cg_text.specs.Pieces.{after, run_at, letters_at, text_at}
use Rattle.cg_text.proofs.StepLemmas.{passes, parts, if-some, and-both, is-either, same}

-- a word that stands in front is passed
pub after-append : (word rest : List ℕ) → after word (word ++ rest) ≡ Some rest
after-append [] rest = refl
after-append (c ∷ word) rest = rw (same c) (after-append word rest)

-- what was passed is the word
pub after-is : (word bytes rest : List ℕ) → after word bytes ≡ Some rest → bytes ≡ word ++ rest
after-is [] bytes rest h = cc
after-is (c ∷ word) [] rest h = absurd cc
after-is (c ∷ word) (b ∷ bytes) rest h =
    elim (is-either (b == c)) [
      | inl e ↦ let same_first : b ≡ c = eqb-true b c e in
          let go : after word bytes ≡ Some rest = rw e at h in
          let others : bytes ≡ word ++ rest = after-is word bytes rest go in cc
      | inr e ↦ let stop : None ≡ Some rest = rw e at h in absurd cc
    ]

-- nothing was passed where the word does not stand in front
after-none : (word bytes : List ℕ) (o : Option (List ℕ)) → after word bytes ≡ o → ((rest : List ℕ) → bytes ≡ word ++ rest → ⊥) → None ≡ o
after-none word bytes None e h = refl
after-none word bytes (Some rest) e h = absurd (h rest (after-is word bytes rest e))

-- what a slice gives without the word in front
pub after-strip : (word bytes : List ℕ) (r : Option (Bor (List ℕ))) → MatchOption r ((rest : List ℕ) → bytes ≢ word ++ rest) (λ x. bytes ≡ word ++ x.now) → option_map (λ x. x.now) r ≡ after word bytes
after-strip word bytes None h = after-none word bytes (after word bytes) refl h
after-strip word bytes (Some x) h = sym (ap (λ t. after word t) h ∙ after-append word x.now)

-- what passes a test, before what does not begin so
pub prefix-stops : (p : ℕ → Bool) (xs ys : List ℕ) → list_all p xs ≡ true → prefix_len p ys ≡ 0 → prefix_len p (xs ++ ys) ≡ length xs
prefix-stops p [] ys h e = e
prefix-stops p (x ∷ xs) ys h e =
    let both = and-both (p x) (list_all p xs) h in
    let first : p x ≡ true = both.0 in
    let others : prefix_len p (xs ++ ys) ≡ length xs = prefix-stops p xs ys both.1 e in
    rw (first, others) (omega arith)

-- and nothing else
pub prefix-passes : (p : ℕ → Bool) (xs : List ℕ) → list_all p (take (prefix_len p xs) xs) ≡ true
prefix-passes p [] = refl
prefix-passes p (x ∷ xs) =
    elim (is-either (p x)) [
      | inl e ↦ let others : list_all p (take (prefix_len p xs) xs) ≡ true = prefix-passes p xs in
          let one : 1 + prefix_len p xs ≡ suc (prefix_len p xs) = omega arith in
          rw (e, one) (rw e others)
      | inr e ↦ rw e refl
    ]

-- a letter or a digit is ASCII
letter-small : (c : ℕ) → is_ascii_alphanumeric c ≡ true → c < 128
letter-small c h = grind (arith, nat_tests)

-- so is what passes a test of ASCII
all-small : (p : ℕ → Bool) → ((c : ℕ) → p c ≡ true → c < 128) → (text : List ℕ) → list_all p text ≡ true → All (λ c. c < 128) text
all-small p small [] h = All-nil (λ c. c < 128)
all-small p small (c ∷ cs) h =
    let both = and-both (p c) (list_all p cs) h in
    All-cons (λ c. c < 128) c cs (small c both.0) (all-small p small cs both.1)

-- so what passes it in front is a text
pub run-utf8 : (p : ℕ → Bool) → ((c : ℕ) → p c ≡ true → c < 128) → (bytes front : List ℕ) → front ≡ take (prefix_len p bytes) bytes → IsUtf8 front
run-utf8 p small bytes front e =
    let plain : list_all p front ≡ true = ap (λ t. list_all p t) e ∙ prefix-passes p bytes in
    IsUtf8-from_ascii front (IsAscii-from_all front (all-small p small front plain))

-- so are letters in front
pub letters-utf8 : (bytes front : List ℕ) → front ≡ take (prefix_len is_ascii_alphanumeric bytes) bytes → IsUtf8 front
letters-utf8 bytes front e = run-utf8 is_ascii_alphanumeric letter-small bytes front e

-- the two parts of an append
pub take-front : (xs ys : List ℕ) → take (length xs) (xs ++ ys) ≡ xs
take-front [] ys = refl
take-front (x ∷ xs) ys = ap (λ t. x ∷ t) (take-front xs ys)

-- and the second
pub drop-front : (xs ys : List ℕ) → drop (length xs) (xs ++ ys) ≡ ys
drop-front [] ys = refl
drop-front (x ∷ xs) ys = drop-front xs ys

-- what passes a test, before what begins with nothing that does
pub run-append : (p : ℕ → Bool) (most : ℕ) (text rest : List ℕ) → 1 ≤ length text → length text ≤ most → list_all p text ≡ true → prefix_len p rest ≡ 0
    → run_at p most (text ++ rest) ≡ Some (text, rest)
run-append p most text rest one few h e =
    let len : prefix_len p (text ++ rest) ≡ length text = prefix-stops p text rest h e in
    let some : nat_le 1 (length text) ≡ true = le-leb _ _ one in
    let short : nat_le (length text) most ≡ true = le-leb _ _ few in
    rw (len, some, short, take-front, drop-front) refl

-- What was read passes the test.
pub record IsRun (p : ℕ → Bool) (most : ℕ) (bytes text rest : List ℕ) : Type 0 where
  pub some : 1 ≤ length text
  pub short : length text ≤ most
  pub plain : list_all p text ≡ true
  pub form : bytes ≡ text ++ rest

-- what was read is so
pub run-is : (p : ℕ → Bool) (most : ℕ) (bytes text rest : List ℕ) → run_at p most bytes ≡ Some (text, rest) → IsRun p most bytes text rest
run-is p most bytes text rest h =
    let len = prefix_len p bytes in
    let tested = if-some (nat_le 1 len && nat_le len most) (take len bytes, drop len bytes) (text, rest) h in
    let both = and-both (nat_le 1 len) (nat_le len most) tested.0 in
    let front : take len bytes ≡ text = ap (λ (p : List ℕ × List ℕ). p.0) tested.1 in
    let back : drop len bytes ≡ rest = ap (λ (p : List ℕ × List ℕ). p.1) tested.1 in
    let size : length text ≡ len = ap (λ t. length t) (sym front) ∙ length-prefix_len p bytes in
    let whole : take len bytes ++ drop len bytes ≡ bytes = take-append-drop len bytes in
    let some : 1 ≤ len = leb-true _ _ both.0 in
    let short : len ≤ most = leb-true _ _ both.1 in
    record {
      some = rw size some;
      short = rw size short;
      plain = ap (λ t. list_all p t) (sym front) ∙ prefix-passes p bytes;
      form = sym whole ∙ ap (λ t. t ++ drop len bytes) front ∙ ap (λ t. text ++ t) back;
    }

-- letters before what begins with none
letters-append : (text rest : List ℕ) → IsText text → prefix_len is_ascii_alphanumeric rest ≡ 0 → letters_at (text ++ rest) ≡ Some (text, rest)
letters-append text rest h e = run-append is_ascii_alphanumeric 20 text rest h.some h.short h.plain e

-- what was read is letters
letters-is : (bytes text rest : List ℕ) → letters_at bytes ≡ Some (text, rest) → IsText text × (bytes ≡ text ++ rest)
letters-is bytes text rest h =
    let run = run-is is_ascii_alphanumeric 20 bytes text rest h in
    (record { some = run.some; short = run.short; plain = run.plain }, run.form)

-- a text between its quotes
pub text-append : (text rest : List ℕ) → IsText text → text_at (quoted text ++ rest) ≡ Some (text, rest)
text-append text rest h =
    let letters : letters_at (text ++ 34 ∷ rest) ≡ Some (text, 34 ∷ rest) = letters-append text (34 ∷ rest) h refl in
    let regrouped : (text ++ 34 ∷ []) ++ rest ≡ text ++ 34 ∷ rest = append_assoc text (34 ∷ []) rest in
    rw (regrouped, letters) refl

-- what was read is a text
pub text-is : (bytes text rest : List ℕ) → text_at bytes ≡ Some (text, rest) → IsText text × (bytes ≡ quoted text ++ rest)
text-is bytes text rest h =
    passes _ (after (codes "\"") bytes) _ (text, rest) h (λ from opened h1.
    passes _ (letters_at from) _ (text, rest) h1 (λ (name, behind) read h2.
    passes _ (after (codes "\"") behind) _ (text, rest) h2 (λ others closed h3.
    let begins : bytes ≡ 34 ∷ from = after-is (codes "\"") bytes from opened in
    let ends : behind ≡ 34 ∷ others = after-is (codes "\"") behind others closed in
    let middle = letters-is from name behind read in
    let pair = parts name text others rest h3 in
    let is_name : name ≡ text = pair.0 in
    let is_rest : others ≡ rest = pair.1 in
    let begins_so : from ≡ name ++ behind = middle.1 in
    let whole : bytes ≡ 34 ∷ (text ++ 34 ∷ rest) = cc in
    let regrouped : (text ++ 34 ∷ []) ++ rest ≡ text ++ 34 ∷ rest = append_assoc text (34 ∷ []) rest in
    (subst IsText is_name middle.0, rw regrouped whole))))
