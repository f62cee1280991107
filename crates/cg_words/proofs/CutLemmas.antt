-- A list is cut at its commas into the parts that it was made of.
use Rattle.std.proofs.Common.{◌≡◌, ℕ, zero, suc, ◌<◌, false, ◌==◌, List, [], ◌∷◌, length, get_or, All, IsTrue, refl, sym, ap, ◌∙◌, subst, arith, inl, inr}
use Rattle.std.specs.List.{Contains, join_with_byte}
use Rattle.std.specs.Char.{is_ascii_digit}
use Rattle.std.proofs.lemmas.Bool.{ne_eqb}
use Rattle.std.proofs.lemmas.List.Elements.{All-contains, Contains-get_or, Contains-append_cases}
use Rattle.std.proofs.lemmas.List.Splits.{slice_split_none, slice_split_at, length-slice_split, join_with_byte-slice_split}
use Rattle.cg_text.specs.Names.{is_name_byte, IsName}
use Rattle.cg_text.proofs.NameLemmas.{name-bytes}
use Rattle.cg_words.specs.Words.{NamedFile, IsNamedFile, IsNumeral, part_text}
use Rattle.cg_words.specs.Reading.{parts_of}

-- no comma stands in the part
abbrev pub HasNoComma : List ℕ → Type 0
HasNoComma part = ¬ Contains part 44

-- so no byte is one
no-byte : (part : List ℕ) → HasNoComma part → All (λ byte. (byte == 44) ≡ false) part
no-byte part h = λ k d below. ne_eqb (get_or part k d) 44 (λ same. h (subst (Contains part) same (Contains-get_or part k d below)))

-- parts without commas come back
pub parts-joined : (parts : List (List ℕ)) → 0 < length parts → All HasNoComma parts → parts_of (join_with_byte 44 parts) ≡ parts
parts-joined [] some h = absurd (omega arith)
parts-joined (part ∷ []) some h = slice_split_none (λ byte. byte == 44) part (no-byte part (h 0 part (omega arith)))
parts-joined (part ∷ next ∷ others) some h =
    slice_split_at (λ byte. byte == 44) part 44 (join_with_byte 44 (next ∷ others)) (no-byte part (h 0 part (omega arith))) refl
    ∙ ap (λ ps. part ∷ ps) (parts-joined (next ∷ others) (omega arith) (λ k d below. h (suc k) d (omega arith)))

-- so a list has one set of parts
pub parts-of-list : (list : List ℕ) (parts : List (List ℕ)) → list ≡ join_with_byte 44 parts → 0 < length parts → All HasNoComma parts → parts_of list ≡ parts
parts-of-list list parts form some h = ap parts_of form ∙ parts-joined parts some h

-- the parts make the list
pub list-of-parts : (list : List ℕ) (parts : List (List ℕ)) → parts ≡ parts_of list → list ≡ join_with_byte 44 parts
list-of-parts list parts same = sym (ap (join_with_byte 44) same ∙ join_with_byte-slice_split 44 list)

-- there is a part
pub some-part : (list : List ℕ) → 0 < length (parts_of list)
some-part list = omega (arith, length-slice_split (λ byte. byte == 44) list)

-- a name has no comma
name-comma : (name : List ℕ) → IsName name → HasNoComma name
name-comma name h inside = let wrong : IsTrue (is_name_byte 44) = All-contains (λ byte. IsTrue (is_name_byte byte)) name 44 (name-bytes name h) inside in cc

-- behind the mark nothing new stands
behind-at : (file : List ℕ) → HasNoComma file → (k : ℕ) → k < length (61 ∷ file) → get_or (61 ∷ file) k 44 ≡ 44 → ⊥
behind-at file h zero below here = omega (arith, here)
behind-at file h (suc k) below here = h (k, omega arith, here)

behind-mark : (file : List ℕ) → HasNoComma file → HasNoComma (61 ∷ file)
behind-mark file h inside = behind-at file h inside.0 inside.1 inside.2

-- so has a NAME=FILE
pub named-comma : (named : NamedFile) → IsNamedFile named → HasNoComma (part_text named)
named-comma named h inside =
    elim (Contains-append_cases named.name (61 ∷ named.file) 44 inside) [
      | inl there ↦ name-comma named.name h.name there
      | inr there ↦ behind-mark named.file h.file.no_comma there
    ]

-- and so have digits
pub numeral-comma : (numeral : List ℕ) → IsNumeral numeral → HasNoComma numeral
numeral-comma numeral h inside = let wrong : IsTrue (is_ascii_digit 44) = All-contains (λ byte. IsTrue (is_ascii_digit byte)) numeral 44 h.digits inside in cc
