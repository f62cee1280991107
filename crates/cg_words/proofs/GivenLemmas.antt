-- The options of the command, and how they are found.
use Rattle.std.proofs.Common.{◌≡◌, ◌≢◌, ℕ, zero, suc, ◌<◌, inl, inr, true, false, ◌&&◌, List, [], ◌∷◌, length, get_or, bytes_eq, codes, All, AllPairs, Option, Some, None, is_none, refl, sym, ap, ap₂, ◌∙◌, arith, Decides}
use Rattle.std.proofs.lemmas.Bool.Decides.{Decides-or}
use Rattle.std.proofs.lemmas.List.Elements.{All-nil, All-cons}
use Rattle.std.proofs.lemmas.List.Kept.{AllPairs-cons}
use Rattle.std.proofs.lemmas.Slice.Eq.{bytes_eq-Decides}
use Rattle.cg_text.proofs.StepLemmas.{is-either, and-both}
use Rattle.cg_words.specs.Words.{Given, words_of, IsOption, IsGiven}
use Rattle.cg_words.specs.Reading.{list_of, is_option, are_options}

-- other texts are told apart
other-texts : (a b : List ℕ) → a ≢ b → bytes_eq a b ≡ false
other-texts a b h = elim (is-either (bytes_eq a b)) [ inl e ↦ absurd (h ((bytes_eq-Decides a b).0 e)) | inr e ↦ e ]

-- the words two by two
abbrev pub given_in : List (List ℕ) → List Given
given_in [] = []
given_in (word ∷ []) = []
given_in (word ∷ list ∷ others) = record { option = word; list = list } ∷ given_in others

-- the test of an option
pub Decides-is_option : (word : List ℕ) → Decides (is_option word) (IsOption word)
Decides-is_option word =
    Decides-or _ _ (bytes_eq-Decides word (codes "--curves")) (Decides-or _ _ (bytes_eq-Decides word (codes "--models")) (Decides-or _ _ (bytes_eq-Decides word (codes "--sessions"))
    (Decides-or _ _ (bytes_eq-Decides word (codes "--turns")) (bytes_eq-Decides word (codes "--cache")))))

-- what was not found is left out
pub left-out : (option : List ℕ) (words : List (List ℕ)) → list_of option words ≡ None → All (λ one. one.option ≢ option) (given_in words)
left-out option [] h = All-nil (λ one. one.option ≢ option)
left-out option (word ∷ []) h = All-nil (λ one. one.option ≢ option)
left-out option (word ∷ list ∷ others) h =
    elim (is-either (bytes_eq word option)) [
      | inl e ↦ let found : ◌≡◌ {A = Option (List ℕ)} (Some list) None = rw e at h in absurd cc
      | inr e ↦ let more : list_of option others ≡ None = rw e at h in
          let other : word ≢ option = λ same. (let yes : bytes_eq word option ≡ true = (bytes_eq-Decides word option).1 same in cc) in
          All-cons (λ one. one.option ≢ option) (record { option = word; list = list }) (given_in others) other (left-out option others more)
    ]

-- what was found is given
pub is_given : (option list : List ℕ) (words : List (List ℕ)) → list_of option words ≡ Some list → IsGiven (given_in words) option list
is_given option list [] h = absurd cc
is_given option list (word ∷ []) h = absurd cc
is_given option list (word ∷ first ∷ others) h =
    elim (is-either (bytes_eq word option)) [
      | inl e ↦ let found : ◌≡◌ {A = Option (List ℕ)} (Some first) (Some list) = rw e at h in
          let same_list : first ≡ list = cc in
          let here : ◌≡◌ {A = Given} (record { option = word; list = first }) (record { option = option; list = list }) =
          ap₂ (λ o l. record { option = o; list = l }) ((bytes_eq-Decides word option).0 e) same_list in
          (0, omega arith, here)
      | inr e ↦ let more : list_of option others ≡ Some list = rw e at h in
          let (k, below, there) = is_given option list others more in
          (suc k, omega arith, there)
    ]

-- options are words two by two
pub words-given : (words : List (List ℕ)) → are_options words ≡ true → words ≡ words_of (given_in words)
words-given [] h = refl
words-given (word ∷ []) h = absurd cc
words-given (word ∷ list ∷ others) h =
    let both = and-both (is_option word && is_none (list_of word others)) (are_options others) h in
    ap (λ ws. word ∷ list ∷ ws) (words-given others both.1)

-- each of which is known
pub all-known : (words : List (List ℕ)) → are_options words ≡ true → All (λ one. IsOption one.option) (given_in words)
all-known [] h = All-nil (λ one. IsOption one.option)
all-known (word ∷ []) h = absurd cc
all-known (word ∷ list ∷ others) h =
    let both = and-both (is_option word && is_none (list_of word others)) (are_options others) h in
    let first = and-both (is_option word) (is_none (list_of word others)) both.0 in
    All-cons (λ one. IsOption one.option) (record { option = word; list = list }) (given_in others) ((Decides-is_option word).0 first.0) (all-known others both.1)

-- nothing was found
nothing : (o : Option (List ℕ)) → is_none o ≡ true → o ≡ None
nothing None h = refl
nothing (Some x) h = absurd cc

-- and stands once
pub all-once : (words : List (List ℕ)) → are_options words ≡ true → AllPairs (λ a b. a.option ≢ b.option) (given_in words)
all-once [] h = λ i j d below within. absurd (omega arith)
all-once (word ∷ []) h = absurd cc
all-once (word ∷ list ∷ others) h =
    let both = and-both (is_option word && is_none (list_of word others)) (are_options others) h in
    let first = and-both (is_option word) (is_none (list_of word others)) both.0 in
    let apart = left-out word others (nothing (list_of word others) first.1) in
    AllPairs-cons (λ a b. a.option ≢ b.option) (record { option = word; list = list }) (given_in others) (λ k d below e. apart k d below (sym e)) (all-once others both.1)

-- an option that is left out is not found
pub not-found : (option : List ℕ) (given : List Given) → All (λ one. one.option ≢ option) given → list_of option (words_of given) ≡ None
not-found option [] h = refl
not-found option (one ∷ others) h =
    rw (other-texts one.option option (h 0 one (omega arith))) (not-found option others (λ k d below. h (suc k) d (omega arith)))

-- one that stands at a place is found
found-at : (option list : List ℕ) (given : List Given) (k : ℕ) → k < length given → get_or given k (record { option = option; list = list }) ≡ record { option = option; list = list }
    → AllPairs (λ a b. a.option ≢ b.option) given → list_of option (words_of given) ≡ Some list
found-at option list [] k below here once = absurd (omega arith)
found-at option list (one ∷ others) zero below here once =
    let same : one.option ≡ option = ap (λ (g : Given). g.option) here in
    let so : one.list ≡ list = ap (λ (g : Given). g.list) here in
    rw ((bytes_eq-Decides one.option option).1 same) (ap (λ l. Some l) so)
found-at option list (one ∷ others) (suc k) below here once =
    let it : Given = record { option = option; list = list } in
    let apart : one.option ≢ option = λ same. once 0 (suc k) it (omega arith) below (same ∙ sym (ap (λ (g : Given). g.option) here)) in
    rw (other-texts one.option option apart) (found-at option list others k (omega arith) here (λ i j d before within. once (suc i) (suc j) d (omega arith) (omega arith)))

-- one that stands is found
pub found : (option list : List ℕ) (given : List Given) → AllPairs (λ a b. a.option ≢ b.option) given → IsGiven given option list → list_of option (words_of given) ≡ Some list
found option list given once (k, below, here) = found-at option list given k below here once

-- known options that stand once are options
pub are-options : (given : List Given) → All (λ one. IsOption one.option) given → AllPairs (λ a b. a.option ≢ b.option) given → are_options (words_of given) ≡ true
are-options [] known once = refl
are-options (one ∷ others) known once =
    let first : is_option one.option ≡ true = (Decides-is_option one.option).1 (known 0 one (omega arith)) in
    let alone : list_of one.option (words_of others) ≡ None = not-found one.option others (λ k d below e. once 0 (suc k) d (omega arith) (omega arith) (sym e)) in
    let more : are_options (words_of others) ≡ true = are-options others (λ k d below. known (suc k) d (omega arith)) (λ i j d before within. once (suc i) (suc j) d (omega arith) (omega arith)) in
    rw (first, alone, more) refl
