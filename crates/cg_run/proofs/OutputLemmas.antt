-- Texts that are written one after the other.
use Rattle.std.proofs.Common.{◌≡◌, ◌↔◌, ◌⊎◌, inl, inr, Bool, true, false, IsTrue, ℕ, ◌+◌, ◌<◌, ◌≤◌, List, [], ◌∷◌, ◌++◌, map, length, get_or, take, drop, Option, Some, None, sym, ap, subst, ◌∙◌, arith, append-nil, append_assoc, length-append, take_all}
use Rattle.std.specs.List.{concat}
use Rattle.std.proofs.lemmas.Bool.{cases_lt}
use Rattle.std.proofs.lemmas.List.{map-append, take_more, take-append-drop, take-append-le}
use Rattle.std.proofs.lemmas.List.Folds.{concat-append}
use Rattle.std.proofs.Math.Seq.{take-append-add}
use Rattle.cg_io.specs.Sink.{Takes}

-- what a test tells where it answers yes, and where it answers no
pub told_yes : {b : Bool} {P : Type 0} → b ≡ true → (IsTrue b ↔ P) → P
told_yes e i = i.0 e

pub told_no : {b : Bool} (n m : ℕ) → b ≡ false → (IsTrue b ↔ (n < m)) → m ≤ n
told_no n m e i = by_cases (cases_lt n m)
  where
    by_cases : (n < m) ⊎ (m ≤ n) → m ≤ n
    by_cases (inl less) = let t = i.1 less in absurd cc
    by_cases (inr more) = more

pub takes_none : (before : Option (List ℕ)) → Takes before before []
takes_none None = tt
takes_none (Some taken) = ap (λ bytes. Some bytes) (sym (append-nil taken))

pub takes_more : (before between after : Option (List ℕ)) (first second : List ℕ) → Takes before between first → Takes between after second → Takes before after (first ++ second)
takes_more None between after first second x y = tt
takes_more (Some taken) between after first second x y =
    let z : Takes (Some (taken ++ first)) after second = subst (λ o. Takes o after second) x y in
    z ∙ ap (λ bytes. Some bytes) (append_assoc taken first second)

-- the text at a place, behind those before it
module _ {A : Type 0} (bytes : A → List ℕ) (xs : List A) (k : ℕ) (x : A) (is : x ≡ get_or xs k x) (within : k < length xs) where
  abbrev joined : List A → List ℕ
  joined ys = concat (map bytes ys)

  pub one_more : joined (take (k + 1) xs) ≡ joined (take k xs) ++ bytes x
  one_more =
      ap joined (take_more xs k x within ∙ ap (λ y. take k xs ++ y ∷ []) (sym is)) ∙ ap concat (map-append bytes (take k xs) (x ∷ []))
      ∙ concat-append (map bytes (take k xs)) (bytes x ∷ []) ∙ ap (λ text. joined (take k xs) ++ text) (append-nil (bytes x))

  behind : joined xs ≡ joined (take k xs) ++ (bytes x ++ joined (drop (k + 1) xs))
  behind =
      ap joined (sym (take-append-drop (k + 1) xs)) ∙ ap concat (map-append bytes (take (k + 1) xs) (drop (k + 1) xs))
      ∙ concat-append (map bytes (take (k + 1) xs)) (map bytes (drop (k + 1) xs)) ∙ ap (λ text. text ++ joined (drop (k + 1) xs)) one_more
      ∙ append_assoc (joined (take k xs)) (bytes x) (joined (drop (k + 1) xs))

  -- its length fits
  pub within_all : length (joined (take k xs)) + length (bytes x) ≤ length (joined xs)
  within_all =
      let e = ap length behind in
      omega (arith, e, length-append (joined (take k xs)) (bytes x ++ joined (drop (k + 1) xs)), length-append (bytes x) (joined (drop (k + 1) xs)))

  pub next_length : length (joined (take (k + 1) xs)) ≡ length (joined (take k xs)) + length (bytes x)
  next_length = ap length one_more ∙ length-append (joined (take k xs)) (bytes x)

  -- fewer of its bytes are fewer of all
  pub fewer_here : (taken n : ℕ) → taken ≡ length (joined (take k xs)) → n < length (bytes x) → taken + n < length (joined xs)
  fewer_here taken n count few = let w = within_all in omega arith

  pub some_here : (taken n : ℕ) → taken ≡ length (joined (take k xs)) → n ≤ length (bytes x) → taken + n ≤ length (joined xs)
  some_here taken n count few = let w = within_all in omega arith

  -- a part of it
  pub cut_here : (n : ℕ) → n ≤ length (bytes x) → joined (take k xs) ++ take n (bytes x) ≡ take (length (joined (take k xs)) + n) (joined xs)
  cut_here n few =
      ap (λ text. joined (take k xs) ++ text) (sym (take-append-le n (bytes x) (joined (drop (k + 1) xs)) few))
      ∙ sym (take-append-add (joined (take k xs)) (bytes x ++ joined (drop (k + 1) xs)) n) ∙ ap (λ text. take (length (joined (take k xs)) + n) text) (sym behind)

  pub takes_here : (before between after : Option (List ℕ)) (taken n : ℕ) (text : List ℕ) → taken ≡ length (joined (take k xs)) → text ≡ bytes x → n ≤ length text →
      Takes before between (joined (take k xs)) → Takes between after (take n text) → Takes before after (take (taken + n) (joined xs))
  takes_here before between after taken n text count same few first second =
      subst (λ m. Takes before after (take (m + n) (joined xs))) (sym count)
      (subst (λ t. Takes before after t) (cut_here n (subst (λ t. n ≤ length t) same few))
      (takes_more before between after (joined (take k xs)) (take n (bytes x)) first (subst (λ t. Takes between after (take n t)) same second)))

  -- all of it
  pub takes_next : (before between after : Option (List ℕ)) (n : ℕ) (text : List ℕ) → text ≡ bytes x → length text ≤ n → Takes before between (joined (take k xs)) →
      Takes between after (take n text) → Takes before after (joined (take (k + 1) xs))
  takes_next before between after n text same all first second =
      subst (λ t. Takes before after t) (sym one_more)
      (takes_more before between after (joined (take k xs)) (bytes x) first (subst (λ t. Takes between after t) (take_all n text all ∙ same) second))
