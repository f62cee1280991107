-- Whether a curve is known.
use Rattle.std.proofs.Common.{◌≡◌, ℕ, Bool, true, IsTrue, List, [], ◌∷◌, Option, Some, None, IsSome, IfNone, ◌↔◌, ◌||◌, refl, sym, ap, ◌∙◌}
use Rattle.std.specs.List.{Any, list_any}
use Rattle.std.specs.Str.{str_to_ascii_lowercase}
use Rattle.std.proofs.lemmas.List.Folds.{Any-from_list_any, list_any-from_Any}
use Rattle.std.proofs.lemmas.Slice.Eq.{bytes_eq-Decides}
use Rattle.cg_meaning.specs.Tree.{Name}
use Rattle.cg_words.specs.Words.{NamedFile}
use Rattle.cg_words.specs.Reading.{is_same_name}
use Rattle.cg_files.specs.Said.{IsKnown}
use Rattle.cg_files.specs.Inputs.{names_of}

list_any-names : (test : Name → Bool) (named : List NamedFile) → list_any test (names_of named) ≡ list_any (λ (one : NamedFile). test one.name) named
list_any-names test [] = refl
list_any-names test (one ∷ others) = ap (λ b. test one.name || b) (list_any-names test others)

-- the test among named files
pub is_known_if : (named : List NamedFile) (name : Name) (r : Bool) → r ≡ list_any (λ (one : NamedFile). is_same_name one.name name) named → IsTrue r ↔ IsKnown (names_of named) (Some name)
is_known_if named name r is =
    let test : Name → Bool = λ curve. is_same_name curve name in
    let whole : r ≡ list_any test (names_of named) = is ∙ sym (list_any-names test named) in
    (λ yes. same_as (Any-from_list_any test (names_of named) (sym whole ∙ yes)), λ known. whole ∙ list_any-from_Any test (names_of named) (same_back known))
  where
    same_as : Any (λ (curve : Name). is_same_name curve name ≡ true) (names_of named) → IsKnown (names_of named) (Some name)
    same_as (k, curve, within, at, same) = (k, curve, within, at, (bytes_eq-Decides (str_to_ascii_lowercase curve) (str_to_ascii_lowercase name)).0 same)

    same_back : IsKnown (names_of named) (Some name) → Any (λ (curve : Name). is_same_name curve name ≡ true) (names_of named)
    same_back (k, curve, within, at, same) = (k, curve, within, at, (bytes_eq-Decides (str_to_ascii_lowercase curve) (str_to_ascii_lowercase name)).1 same)

-- a model without a curve's line names none
pub known_without : (curves : List Name) (curve : Option Name) (line : Option ℕ) → (IsSome line ↔ IsSome curve) → IfNone line (IsKnown curves curve)
known_without curves curve (Some line) same = tt
known_without curves None None same = tt
known_without curves (Some name) None same = let e = same.1 refl in absurd cc
