-- The fields of a line, one after another.
use Rattle.std.proofs.Common.{◌≡◌, ℕ, Bool, true, false, List, [], ◌∷◌, take, drop, Result, Ok, Err, None, refl, sym, ap, ◌∙◌, one-add}
use Rattle.std.specs.Prelude.{filter, ℤ, suc}
use Rattle.std.proofs.lemmas.List.Splits.{slice_split-cons_yes, slice_split-cons_no}
use Rattle.std.specs.List.{prefix_len, slice_split, onto_first}
use Rattle.cg_num.specs.Decimal.{decimal_of}
use Rattle.cg_num.specs.declared.decimal.NumFault.{NumFault}
use Rattle.cg_num.specs.declared.decimal.NumFault.TheVariants.{NotANumber}
use Rattle.cg_curve.specs.Lines.{is_separator, is_some_text, fields}
use Rattle.cg_curve.specs.Rows.{row_of_numbers, row_of_fields, row_of}
use Rattle.cg_curve.specs.Reading.{in_field, from_field, first_field, after_field, first_row}

-- the parts that aren't empty
abbrev kept : List (List ℕ) → List (List ℕ)
kept parts = filter is_some_text parts

field_ends : (c : ℕ) (cs : List ℕ) → is_separator c ≡ true → prefix_len in_field (c ∷ cs) ≡ 0
field_ends c cs e = rw e refl

field_goes_on : (c : ℕ) (cs : List ℕ) → is_separator c ≡ false → prefix_len in_field (c ∷ cs) ≡ suc (prefix_len in_field cs)
field_goes_on c cs e = rw e (one-add (prefix_len in_field cs))

separator_before : (c : ℕ) (cs : List ℕ) → is_separator c ≡ true → from_field (c ∷ cs) ≡ from_field cs
separator_before c cs e =
    let more : prefix_len is_separator (c ∷ cs) ≡ suc (prefix_len is_separator cs) = rw e (one-add (prefix_len is_separator cs)) in
    ap (λ (n : ℕ). drop n (c ∷ cs)) more

field_at_once : (c : ℕ) (cs : List ℕ) → is_separator c ≡ false → from_field (c ∷ cs) ≡ c ∷ cs
field_at_once c cs e =
    let none : prefix_len is_separator (c ∷ cs) ≡ 0 = rw e refl in
    ap (λ (n : ℕ). drop n (c ∷ cs)) none

fields_behind : (c : ℕ) (cs : List ℕ) → is_separator c ≡ true → fields (c ∷ cs) ≡ fields cs
fields_behind c cs e = ap kept (slice_split-cons_yes is_separator c cs e)

-- The first part of a text is its bytes up to a separator, and the others are its fields behind.
record Cuts (text : List ℕ) : Type 0 where
  tail : List (List ℕ)
  whole : slice_split is_separator text ≡ take (prefix_len in_field text) text ∷ tail
  behind : kept tail ≡ fields (drop (prefix_len in_field text) text)

-- one byte more, by whether it is a separator
cut_more : (c : ℕ) (cs : List ℕ) (parts : Bool) → is_separator c ≡ parts → Cuts cs → Cuts (c ∷ cs)
cut_more c cs true e rest = record {
  tail = slice_split is_separator cs;
  whole = slice_split-cons_yes is_separator c cs e ∙ sym (ap (λ (n : ℕ). take n (c ∷ cs) ∷ slice_split is_separator cs) (field_ends c cs e));
  behind = sym (ap (λ (n : ℕ). fields (drop n (c ∷ cs))) (field_ends c cs e) ∙ fields_behind c cs e);
}
cut_more c cs false e rest = record {
  tail = rest.tail;
  whole = slice_split-cons_no is_separator c cs e ∙ ap (λ parts. onto_first c parts) rest.whole ∙ sym (ap (λ (n : ℕ). take n (c ∷ cs) ∷ rest.tail) (field_goes_on c cs e));
  behind = rest.behind ∙ sym (ap (λ (n : ℕ). fields (drop n (c ∷ cs))) (field_goes_on c cs e));
}

cuts : (text : List ℕ) → Cuts text
cuts [] = record { tail = []; whole = refl; behind = refl }
cuts (c ∷ cs) = cut_more c cs (is_separator c) refl (cuts cs)

-- the fields from one on, and none from nothing
abbrev cons_field : List ℕ → List (List ℕ) → List (List ℕ)
cons_field [] rest = []
cons_field (c ∷ cs) rest = (c ∷ cs) ∷ rest

-- the first field of a text that begins with it, and those behind
abbrev fields_at : List ℕ → List (List ℕ)
fields_at from = cons_field (take (prefix_len in_field from) from) (fields (drop (prefix_len in_field from) from))

field_first : (c : ℕ) (cs : List ℕ) (n : ℕ) (tail : List (List ℕ)) → kept (take (suc n) (c ∷ cs) ∷ tail) ≡ cons_field (take (suc n) (c ∷ cs)) (kept tail)
field_first c cs n tail = refl

next_more : (c : ℕ) (cs : List ℕ) (parts : Bool) → is_separator c ≡ parts → fields cs ≡ fields_at (from_field cs) → fields (c ∷ cs) ≡ fields_at (from_field (c ∷ cs))
next_more c cs true e rest = fields_behind c cs e ∙ rest ∙ sym (ap fields_at (separator_before c cs e))
next_more c cs false e rest =
    let cut = cuts (c ∷ cs) in
    let size = field_goes_on c cs e in
    ap kept cut.whole ∙ ap (λ (n : ℕ). kept (take n (c ∷ cs) ∷ cut.tail)) size
    ∙ field_first c cs (prefix_len in_field cs) cut.tail
    ∙ sym (ap (λ (n : ℕ). cons_field (take n (c ∷ cs)) (kept cut.tail)) size)
    ∙ ap (λ others. cons_field (take (prefix_len in_field (c ∷ cs)) (c ∷ cs)) others) cut.behind
    ∙ sym (ap fields_at (field_at_once c cs e))

fields_from : (text : List ℕ) → fields text ≡ fields_at (from_field text)
fields_from [] = refl
fields_from (c ∷ cs) = next_more c cs (is_separator c) refl (fields_from cs)

-- the fields of a text are its first and those behind it
next_field : (text : List ℕ) → fields text ≡ cons_field (first_field text) (fields (after_field text))
unfolding first_field after_field
next_field text = fields_from text

-- nothing is no decimal
decimal_none : decimal_of [] ≡ Err NotANumber
unfolding decimal_of
decimal_none = refl

second_none : (bp sigma : Result ℤ NumFault) → row_of_numbers bp (Err NotANumber) sigma ≡ None
second_none (Ok n) sigma = refl
second_none (Err e) sigma = refl

third_none : (bp age : Result ℤ NumFault) → row_of_numbers bp age (Err NotANumber) ≡ None
third_none (Ok n) (Ok m) = refl
third_none (Ok n) (Err e) = refl
third_none (Err e) age = refl

-- three fields one after another, where one may be missing
three : (a b c : List ℕ) (rest : List (List ℕ)) → row_of_fields (cons_field a (cons_field b (cons_field c rest))) ≡ row_of_numbers (decimal_of a) (decimal_of b) (decimal_of c)
three [] b c rest = rw decimal_none refl
three (x ∷ xs) [] c rest = sym (rw decimal_none (second_none (decimal_of (x ∷ xs)) (decimal_of c)))
three (x ∷ xs) (y ∷ ys) [] rest = sym (rw decimal_none (third_none (decimal_of (x ∷ xs)) (decimal_of (y ∷ ys))))
three (x ∷ xs) (y ∷ ys) (z ∷ zs) rest = refl

-- a line says the row of its first three fields
pub row_of_is_first : (line : List ℕ) → row_of line ≡ first_row line
unfolding row_of first_row
row_of_is_first line =
    let t = after_field line in let u = after_field t in
    let last : fields u ≡ cons_field (first_field u) (fields (after_field u)) = next_field u in
    let two : fields t ≡ cons_field (first_field t) (cons_field (first_field u) (fields (after_field u))) = next_field t ∙ ap (λ fs. cons_field (first_field t) fs) last in
    let all : fields line ≡ cons_field (first_field line) (cons_field (first_field t) (cons_field (first_field u) (fields (after_field u)))) =
    next_field line ∙ ap (λ fs. cons_field (first_field line) fs) two in
    ap row_of_fields all ∙ three (first_field line) (first_field t) (first_field u) (fields (after_field u))
