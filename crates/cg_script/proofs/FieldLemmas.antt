-- The fields of bytes, one after another.
use Rattle.std.proofs.Common.{◌≡◌, ℕ, suc, ◌<◌, Bool, true, false, ◌&&◌, List, [], ◌∷◌, length, take, drop, Some, None, refl, sym, ap, ◌∙◌, arith, one-add, filter}
use Rattle.std.proofs.lemmas.List.Splits.{slice_split-cons_yes, slice_split-cons_no}
use Rattle.std.specs.List.{list_all, prefix_len, slice_split, onto_first}
use Rattle.cg_script.specs.Lines.{is_blank}
use Rattle.cg_script.specs.Words.{in_word, behind_blanks, first_word, after_word, is_some_text, fields, has_none, only, both}

-- the parts that aren't empty
abbrev kept : List (List ℕ) → List (List ℕ)
kept parts = filter is_some_text parts

field_ends : (c : ℕ) (cs : List ℕ) → is_blank c ≡ true → prefix_len in_word (c ∷ cs) ≡ 0
field_ends c cs e = rw e refl

field_goes_on : (c : ℕ) (cs : List ℕ) → is_blank c ≡ false → prefix_len in_word (c ∷ cs) ≡ suc (prefix_len in_word cs)
field_goes_on c cs e = rw e (one-add (prefix_len in_word cs))

blank_before : (c : ℕ) (cs : List ℕ) → is_blank c ≡ true → behind_blanks (c ∷ cs) ≡ behind_blanks cs
blank_before c cs e =
    let more : prefix_len is_blank (c ∷ cs) ≡ suc (prefix_len is_blank cs) = rw e (one-add (prefix_len is_blank cs)) in
    ap (λ (n : ℕ). drop n (c ∷ cs)) more

field_at_once : (c : ℕ) (cs : List ℕ) → is_blank c ≡ false → behind_blanks (c ∷ cs) ≡ c ∷ cs
field_at_once c cs e =
    let none : prefix_len is_blank (c ∷ cs) ≡ 0 = rw e refl in
    ap (λ (n : ℕ). drop n (c ∷ cs)) none

fields_behind : (c : ℕ) (cs : List ℕ) → is_blank c ≡ true → fields (c ∷ cs) ≡ fields cs
fields_behind c cs e = ap kept (slice_split-cons_yes is_blank c cs e)

-- The first part of a text is its bytes up to a separator, and the others are its fields behind.
record Cuts (text : List ℕ) : Type 0 where
  tail : List (List ℕ)
  whole : slice_split is_blank text ≡ take (prefix_len in_word text) text ∷ tail
  behind : kept tail ≡ fields (drop (prefix_len in_word text) text)

-- one byte more, by whether it is a separator
cut_more : (c : ℕ) (cs : List ℕ) (parts : Bool) → is_blank c ≡ parts → Cuts cs → Cuts (c ∷ cs)
cut_more c cs true e rest = record {
  tail = slice_split is_blank cs;
  whole = slice_split-cons_yes is_blank c cs e ∙ sym (ap (λ (n : ℕ). take n (c ∷ cs) ∷ slice_split is_blank cs) (field_ends c cs e));
  behind = sym (ap (λ (n : ℕ). fields (drop n (c ∷ cs))) (field_ends c cs e) ∙ fields_behind c cs e);
}
cut_more c cs false e rest = record {
  tail = rest.tail;
  whole = slice_split-cons_no is_blank c cs e ∙ ap (λ parts. onto_first c parts) rest.whole ∙ sym (ap (λ (n : ℕ). take n (c ∷ cs) ∷ rest.tail) (field_goes_on c cs e));
  behind = rest.behind ∙ sym (ap (λ (n : ℕ). fields (drop n (c ∷ cs))) (field_goes_on c cs e));
}

cuts : (text : List ℕ) → Cuts text
cuts [] = record { tail = []; whole = refl; behind = refl }
cuts (c ∷ cs) = cut_more c cs (is_blank c) refl (cuts cs)

-- the fields from one on, and none from nothing
abbrev cons_field : List ℕ → List (List ℕ) → List (List ℕ)
cons_field [] rest = []
cons_field (c ∷ cs) rest = (c ∷ cs) ∷ rest

-- the first field of a text that begins with it, and those behind
abbrev fields_at : List ℕ → List (List ℕ)
fields_at from = cons_field (take (prefix_len in_word from) from) (fields (drop (prefix_len in_word from) from))

field_first : (c : ℕ) (cs : List ℕ) (n : ℕ) (tail : List (List ℕ)) → kept (take (suc n) (c ∷ cs) ∷ tail) ≡ cons_field (take (suc n) (c ∷ cs)) (kept tail)
field_first c cs n tail = refl

next_more : (c : ℕ) (cs : List ℕ) (parts : Bool) → is_blank c ≡ parts → fields cs ≡ fields_at (behind_blanks cs) → fields (c ∷ cs) ≡ fields_at (behind_blanks (c ∷ cs))
next_more c cs true e rest = fields_behind c cs e ∙ rest ∙ sym (ap fields_at (blank_before c cs e))
next_more c cs false e rest =
    let cut = cuts (c ∷ cs) in
    let size = field_goes_on c cs e in
    ap kept cut.whole ∙ ap (λ (n : ℕ). kept (take n (c ∷ cs) ∷ cut.tail)) size
    ∙ field_first c cs (prefix_len in_word cs) cut.tail
    ∙ sym (ap (λ (n : ℕ). cons_field (take n (c ∷ cs)) (kept cut.tail)) size)
    ∙ ap (λ others. cons_field (take (prefix_len in_word (c ∷ cs)) (c ∷ cs)) others) cut.behind
    ∙ sym (ap fields_at (field_at_once c cs e))

fields_from : (text : List ℕ) → fields text ≡ fields_at (behind_blanks text)
fields_from [] = refl
fields_from (c ∷ cs) = next_more c cs (is_blank c) refl (fields_from cs)

-- the fields of a text are its first and those behind it
next_field : (text : List ℕ) → fields text ≡ cons_field (first_word text) (fields (after_word text))
unfolding first_word after_word
next_field text = fields_from text

-- a text that begins with a word
first_at_once : (c : ℕ) (cs : List ℕ) → is_blank c ≡ false → first_word (c ∷ cs) ≡ take (suc (prefix_len in_word cs)) (c ∷ cs)
unfolding first_word
first_at_once c cs e =
    ap (λ (from : List ℕ). take (prefix_len in_word from) from) (field_at_once c cs e) ∙ ap (λ (n : ℕ). take n (c ∷ cs)) (field_goes_on c cs e)

-- nothing but blanks has no field, and something else has one
none_more : (c : ℕ) (cs : List ℕ) (blank : Bool) → is_blank c ≡ blank → list_all is_blank cs ≡ has_none (fields cs)
    → list_all is_blank (c ∷ cs) ≡ has_none (fields (c ∷ cs))
none_more c cs true e rest = ap (λ b. b && list_all is_blank cs) e ∙ rest ∙ sym (ap has_none (fields_behind c cs e))
none_more c cs false e rest =
    ap (λ b. b && list_all is_blank cs) e
    ∙ sym (ap has_none (next_field (c ∷ cs)) ∙ ap (λ word. has_none (cons_field word (fields (after_word (c ∷ cs))))) (first_at_once c cs e))

pub blanks_none : (bytes : List ℕ) → list_all is_blank bytes ≡ has_none (fields bytes)
blanks_none [] = refl
blanks_none (c ∷ cs) = none_more c cs (is_blank c) refl (blanks_none cs)

-- without a first word there is no field
no_word : (bytes word : List ℕ) → word ≡ first_word bytes → length word ≡ 0 → fields bytes ≡ []
no_word bytes [] e none = next_field bytes ∙ ap (λ w. cons_field w (fields (after_word bytes))) (sym e)
no_word bytes (c ∷ cs) e none = absurd (omega arith)

pub only_none : (bytes word : List ℕ) → word ≡ first_word bytes → length word ≡ 0 → None ≡ only (fields bytes)
only_none bytes word e none = sym (ap only (no_word bytes word e none))

pub both_none : (bytes word : List ℕ) → word ≡ first_word bytes → length word ≡ 0 → None ≡ both (fields bytes)
both_none bytes word e none = sym (ap both (no_word bytes word e none))

-- with one, that is the first field, and the others are those behind it
some_word : (bytes word rest : List ℕ) → word ≡ first_word bytes → rest ≡ after_word bytes → 0 < length word → fields bytes ≡ word ∷ fields rest
some_word bytes [] rest e is_rest some = absurd (omega arith)
some_word bytes (c ∷ cs) rest e is_rest some = next_field bytes ∙ sym (ap (λ w. cons_field w (fields (after_word bytes))) e ∙ refl) ∙ ap (λ r. (c ∷ cs) ∷ fields r) (sym is_rest)

only_first : (word : List ℕ) (others : List (List ℕ)) → has_none others ≡ true → only (word ∷ others) ≡ Some word
only_first word [] e = refl
only_first word (other ∷ others) e = absurd cc

only_not : (word : List ℕ) (others : List (List ℕ)) → has_none others ≡ false → only (word ∷ others) ≡ None
only_not word [] e = absurd cc
only_not word (other ∷ others) e = refl

pub only_is : (bytes word rest : List ℕ) → word ≡ first_word bytes → rest ≡ after_word bytes → 0 < length word → list_all is_blank rest ≡ true → Some word ≡ only (fields bytes)
only_is bytes word rest e is_rest some blank =
    sym (ap only (some_word bytes word rest e is_rest some) ∙ only_first word (fields rest) (sym (blanks_none rest) ∙ blank))

pub only_more : (bytes word rest : List ℕ) → word ≡ first_word bytes → rest ≡ after_word bytes → 0 < length word → list_all is_blank rest ≡ false → None ≡ only (fields bytes)
only_more bytes word rest e is_rest some blank =
    sym (ap only (some_word bytes word rest e is_rest some) ∙ only_not word (fields rest) (sym (blanks_none rest) ∙ blank))

-- two fields are the first, and the only one behind it
both_of : (word : List ℕ) (others : List (List ℕ)) (second : List ℕ) → only others ≡ Some second → both (word ∷ others) ≡ Some (word, second)
both_of word [] second e = absurd cc
both_of word (other ∷ []) second e = cc
both_of word (other ∷ more ∷ others) second e = absurd cc

both_not : (word : List ℕ) (others : List (List ℕ)) → only others ≡ None → both (word ∷ others) ≡ None
both_not word [] e = refl
both_not word (other ∷ []) e = absurd cc
both_not word (other ∷ more ∷ others) e = refl

pub both_are : (bytes word rest second : List ℕ) → word ≡ first_word bytes → rest ≡ after_word bytes → 0 < length word → Some second ≡ only (fields rest) → Some (word, second) ≡ both (fields bytes)
both_are bytes word rest second e is_rest some h = sym (ap both (some_word bytes word rest e is_rest some) ∙ both_of word (fields rest) second (sym h))

pub both_more : (bytes word rest : List ℕ) → word ≡ first_word bytes → rest ≡ after_word bytes → 0 < length word → None ≡ only (fields rest) → None ≡ both (fields bytes)
both_more bytes word rest e is_rest some h = sym (ap both (some_word bytes word rest e is_rest some) ∙ both_not word (fields rest) (sym h))
