-- The options among the words, read from front to back.
use Rattle.std.proofs.Common.{◌≡◌, ℕ, ◌<◌, ◌≤◌, ◌==◌, Bool, true, false, not, ◌&&◌, List, [], ◌∷◌, length, map, drop, take, get_or, take_all, Option, Some, None, is_none, is_some, option_map, length-drop, ◌-◌, refl, sym, ap, ◌∙◌, arith}
use Rattle.cg_words.specs.Reading.{list_of, is_option, are_options}

-- no option stands in less than two words
pub list_of-short : {X : Type 0} (f : X → List ℕ) (option : List ℕ) (words : List X) → length words < 2 → None ≡ list_of option (map f words)
list_of-short f option [] h = refl
list_of-short f option (word ∷ []) h = refl
list_of-short f option (word ∷ list ∷ others) h = absurd (omega arith)

-- less than two words are options where they are none
pub are_options-short : {X : Type 0} (f : X → List ℕ) (words : List X) → length words < 2 → (length words == 0) ≡ are_options (map f words)
are_options-short f [] h = refl
are_options-short f (word ∷ []) h = refl
are_options-short f (word ∷ list ∷ others) h = absurd (omega arith)

-- two words in front of others are an option and its list
pub are_options-more : {X : Type 0} (f : X → List ℕ) (words : List X) (d : X) → 2 ≤ length words
    → are_options (map f words) ≡ (is_option (f (get_or words 0 d)) && is_none (list_of (f (get_or words 0 d)) (map f (drop 2 words))) && are_options (map f (drop 2 words)))
are_options-more f [] d h = absurd (omega arith)
are_options-more f (word ∷ []) d h = absurd (omega arith)
are_options-more f (word ∷ list ∷ others) d h = refl

-- a word in front that is no option
pub no-option : {X : Type 0} (f : X → List ℕ) (rest words : List X) (word : X) (text : List ℕ) → 2 ≤ length rest → word ≡ get_or rest 0 word → text ≡ f word
    → are_options (map f rest) ≡ are_options (map f words) → is_option text ≡ false → false ≡ are_options (map f words)
no-option f rest words word text two here says kept not_known =
    let named : is_option (f (get_or rest 0 word)) ≡ false = ap (λ w. is_option (f w)) (sym here) ∙ ap is_option (sym says) ∙ not_known in
    let more = are_options-more f rest word two in
    sym (rw named at more) ∙ kept

-- what comes behind two words
pub behind-two : {X : Type 0} (rest : List X) → take (length rest - 2) (drop 2 rest) ≡ drop 2 rest
behind-two rest = take_all _ _ (simp length-drop (omega arith))

some-mapped : {A B : Type 0} (f : A → B) (o : Option A) → is_some (option_map f o) ≡ is_some o
some-mapped f None = refl
some-mapped f (Some x) = refl

-- an option in front that stands again
pub twice : {X A : Type 0} (f : X → List ℕ) (g : A → List ℕ) (rest words : List X) (word : X) (text : List ℕ) (found : Option A) → 2 ≤ length rest → word ≡ get_or rest 0 word → text ≡ f word
    → are_options (map f rest) ≡ are_options (map f words) → option_map g found ≡ list_of text (map f (take (length rest - 2) (drop 2 rest))) → is_some found ≡ true
    → false ≡ are_options (map f words)
twice f g rest words word text found two here says kept looked stands =
    let none : is_none (list_of (f (get_or rest 0 word)) (map f (drop 2 rest))) ≡ false =
    ap (λ w. is_none (list_of (f w) (map f (drop 2 rest)))) (sym here) ∙ ap (λ t. is_none (list_of t (map f (drop 2 rest)))) (sym says)
    ∙ ap (λ xs. is_none (list_of text (map f xs))) (sym (behind-two rest)) ∙ ap is_none (sym looked) ∙ ap not (some-mapped g found ∙ stands) in
    let more = are_options-more f rest word two in
    and-none (is_option (f (get_or rest 0 word))) ∙ sym (rw none at more) ∙ kept
  where
    and-none : (b : Bool) → false ≡ (b && false && are_options (map f (drop 2 rest)))
    and-none true = refl
    and-none false = refl

-- an option in front that does not
pub one-more : {X A : Type 0} (f : X → List ℕ) (g : A → List ℕ) (rest words : List X) (word : X) (text : List ℕ) (found : Option A) → 2 ≤ length rest → word ≡ get_or rest 0 word → text ≡ f word
    → are_options (map f rest) ≡ are_options (map f words) → is_option text ≡ true → option_map g found ≡ list_of text (map f (take (length rest - 2) (drop 2 rest))) → is_some found ≡ false
    → are_options (map f (take (length rest - 2) (drop 2 rest))) ≡ are_options (map f words)
one-more f g rest words word text found two here says kept known looked stands =
    let named : is_option (f (get_or rest 0 word)) ≡ true = ap (λ w. is_option (f w)) (sym here) ∙ ap is_option (sym says) ∙ known in
    let none : is_none (list_of (f (get_or rest 0 word)) (map f (drop 2 rest))) ≡ true =
    ap (λ w. is_none (list_of (f w) (map f (drop 2 rest)))) (sym here) ∙ ap (λ t. is_none (list_of t (map f (drop 2 rest)))) (sym says)
    ∙ ap (λ xs. is_none (list_of text (map f xs))) (sym (behind-two rest)) ∙ ap is_none (sym looked) ∙ ap not (some-mapped g found ∙ stands) in
    let more = are_options-more f rest word two in
    ap (λ xs. are_options (map f xs)) (behind-two rest) ∙ sym (rw (named, none) at more) ∙ kept
