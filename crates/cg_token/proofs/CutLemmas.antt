-- Pieces of bytes: each but the last takes some of them, so bytes are cut in one way.
use Rattle.std.proofs.Common.{◌≡◌, ℕ, zero, suc, ◌+◌, ◌<◌, Bool, true, false, cond, ◌&&◌, ◌||◌, eqb, List, [], ◌∷◌, length, take, slice_index, Result, Ok, Err, refl, sym, ap, ◌∙◌, subst, arith, nat_lt}
use Rattle.std.specs.List.{prefix_len, list_all}
use Rattle.std.specs.Str.{is_utf8}
use Rattle.std.proofs.lemmas.List.{length-drop}
use Rattle.cg_num.specs.Decimal.{decimal_of}
use Rattle.cg_num.specs.declared.decimal.NumFault.{NumFault}
use Rattle.std.specs.Prelude.{ℤ}
use Rattle.std.specs.Int.{is_in_range}
use Rattle.cg_token.specs.declared.token.Mark.{Mark}
use Rattle.cg_token.specs.declared.token.Mark.TheVariants.{ParenOpen, ParenClose, BraceOpen, BraceClose, Comma, Semicolon, Equals}
use Rattle.cg_token.specs.Kind.{Kind, gap, word, text, mark, is_last}
use Rattle.cg_token.specs.Cut.{Cut, made, nothing, is_blank, begins_word, in_word, begins_number, in_number, in_text, in_line, open_len, comment_at, text_at, number_if, number_at, mark_at, cut, AreWords}
use Rattle.cg_token.specs.Tokens.{Placed, line_after, behind, AreOthers, AreCut, IsCutOnce}

-- of two conjuncts both hold
pub both-true : (a b : Bool) → (a && b) ≡ true → (a ≡ true) × (b ≡ true)
both-true true b h = (refl, h)
both-true false b h = absurd cc

-- a piece that is not the last has a byte, and a word is one
pub record Good (x : Cut) : Type 0 where
  pub moves : is_last x.kind ≡ false → 0 < x.used
  pub words : AreWords x.kind

-- a choice of two such pieces is one
good_if : (q : Bool) (x y : Cut) → (q ≡ true → Good x) → Good y → Good (cond q x y)
good_if true x y p q = p refl
good_if false x y p q = q

-- of what is no token
none_good : Good nothing
none_good = record { moves = λ h. absurd cc; words = tt }

-- of a blank
gap_good : (n : ℕ) → Good (made gap (suc n))
gap_good n = record { moves = λ _. omega arith; words = tt }

-- of a number, or of none
number_good : (r : Result ℤ NumFault) (n : ℕ) → Good (number_if r (suc n))
number_good (Ok z) n = record { moves = λ _. omega arith; words = tt }
number_good (Err f) n = none_good

-- of a mark
mark_one : (m : Mark) → Good (made (mark m) 1)
mark_one m = record { moves = λ _. omega arith; words = tt }

-- of a comment to the end of the line
gap_two : (n : ℕ) → Good (made gap (n + 2))
gap_two n = record { moves = λ _. omega arith; words = tt }

-- of a closed comment
gap_four : (n : ℕ) → Good (made gap (n + 4))
gap_four n = record { moves = λ _. omega arith; words = tt }

-- of a text
text_two : (t : List ℕ) (n : ℕ) → Good (made (text t) (n + 2))
text_two t n = record { moves = λ _. omega arith; words = tt }

-- of each byte that may be a mark
mark_good : (c : ℕ) → Good (mark_at c)
mark_good c =
    good_if (eqb c 40) (made (mark ParenOpen) 1) _ (λ _. mark_one ParenOpen) (
    good_if (eqb c 41) (made (mark ParenClose) 1) _ (λ _. mark_one ParenClose) (
    good_if (eqb c 123) (made (mark BraceOpen) 1) _ (λ _. mark_one BraceOpen) (
    good_if (eqb c 125) (made (mark BraceClose) 1) _ (λ _. mark_one BraceClose) (
    good_if (eqb c 44) (made (mark Comma) 1) _ (λ _. mark_one Comma) (
    good_if (eqb c 59) (made (mark Semicolon) 1) _ (λ _. mark_one Semicolon) (
    good_if (eqb c 61) (made (mark Equals) 1) _ (λ _. mark_one Equals) (
    none_good)))))))

-- of each comment
comment_good : (cs : List ℕ) → Good (comment_at cs)
comment_good [] = none_good
comment_good (c ∷ cs) =
    good_if (eqb c 47) (made gap (prefix_len in_line cs + 2)) _ (λ _. gap_two (prefix_len in_line cs)) (
    good_if (eqb c 42 && nat_lt (open_len cs) (length cs)) (made gap (open_len cs + 4)) nothing (λ _. gap_four (open_len cs)) none_good)

-- of each text
text_good : (cs : List ℕ) → Good (text_at cs)
text_good cs =
    let n = prefix_len in_text cs in
    good_if (eqb (slice_index cs n) 34 && is_utf8 (take n cs)) (made (text (take n cs)) (n + 2)) nothing (λ _. text_two (take n cs) n) none_good

-- what stands in front and passes, passes
take_prefix : (p : ℕ → Bool) (xs : List ℕ) → list_all p (take (prefix_len p xs) xs) ≡ true
take_prefix p [] = refl
take_prefix p (x ∷ xs) = go (p x) refl (take_prefix p xs) where
  go : (q : Bool) → p x ≡ q → list_all p (take (prefix_len p xs) xs) ≡ true → list_all p (take (cond q (1 + prefix_len p xs) 0) (x ∷ xs)) ≡ true
  go true e ih = let one : 1 + prefix_len p xs ≡ suc (prefix_len p xs) = omega arith in rw one (rw e ih)
  go false e ih = refl

-- three tests of four
or_more : (d u l e : Bool) → ((u || l) || e) ≡ true → (((d || u) || l) || e) ≡ true
or_more true u l e h = refl
or_more false u l e h = h

-- the first byte of a word is one of a word
pub word-first : (c : ℕ) → begins_word c ≡ true → in_word c ≡ true
word-first c h = or_more (is_in_range 48 57 c) (is_in_range 65 90 c) (is_in_range 97 122 c) (eqb c 95) h

-- of a word
word_good : (c : ℕ) (cs : List ℕ) → begins_word c ≡ true → Good (made (word (take (prefix_len in_word cs + 1) (c ∷ cs))) (prefix_len in_word cs + 1))
word_good c cs h =
    let one : prefix_len in_word cs + 1 ≡ suc (prefix_len in_word cs) = omega arith in
    record { moves = λ _. omega arith; words = record { letters = rw one (rw (word-first c h) (take_prefix in_word cs)) } }

-- of each piece
pub cut-good : (bytes : List ℕ) → Good (cut bytes)
unfolding cut
cut-good [] = record { moves = λ h. absurd cc; words = tt }
cut-good (c ∷ cs) =
    good_if (is_blank c) (made gap 1) _ (λ _. gap_good 0) (
    good_if (begins_word c) (made (word (take (prefix_len in_word cs + 1) (c ∷ cs))) (prefix_len in_word cs + 1)) _ (λ h. word_good c cs h) (
    good_if (begins_number c) (number_at c cs) _ (λ _. number_good (decimal_of (take (suc (prefix_len in_number cs)) (c ∷ cs))) (prefix_len in_number cs)) (
    good_if (eqb c 34) (text_at cs) _ (λ _. text_good cs) (
    good_if (eqb c 47) (comment_at cs) (mark_at c) (λ _. comment_good cs) (mark_good c)))))

-- the word in front is one
pub cut-words : (bytes : List ℕ) → AreWords (cut bytes).kind
cut-words bytes = (cut-good bytes).words

-- a piece that is not the last has a byte
pub cut-moves : (bytes : List ℕ) → is_last (cut bytes).kind ≡ false → 0 < (cut bytes).used
cut-moves bytes = (cut-good bytes).moves

-- and so have the bytes
some_bytes : (bytes : List ℕ) → is_last (cut bytes).kind ≡ false → 0 < length bytes
unfolding cut
some_bytes [] h = absurd cc
some_bytes (c ∷ cs) h = omega arith

-- fewer bytes stand behind a piece
pub behind-shorter : (bytes : List ℕ) → is_last (cut bytes).kind ≡ false → length (behind bytes) < length bytes
behind-shorter bytes h = omega (arith, cut-moves bytes h, some_bytes bytes h, length-drop (cut bytes).used bytes)

-- a piece on its line
placed : ℕ → Kind → Placed
placed line kind = record { line = line; kind = kind }

-- the pieces of bytes, from those of the bytes behind the first
pieces_by : (q : Bool) (line : ℕ) (bytes : List ℕ) → is_last (cut bytes).kind ≡ q → (q ≡ false → (ts : List Placed) × AreCut (line_after line bytes) (behind bytes) ts) → (ts : List Placed) × AreCut line bytes ts
unfolding placed
pieces_by true line bytes e more =
    (placed line (cut bytes).kind ∷ [], (refl, refl, subst (λ (q : Bool). AreOthers q [] (AreCut (line_after line bytes) (behind bytes) [])) (sym e) refl))
pieces_by false line bytes e more =
    let m = more refl in
    (placed line (cut bytes).kind ∷ m.0, (refl, refl, subst (λ (q : Bool). AreOthers q m.0 (AreCut (line_after line bytes) (behind bytes) m.0)) (sym e) m.1))

-- the pieces of so many bytes
pieces : (n line : ℕ) (bytes : List ℕ) → length bytes < n → (ts : List Placed) × AreCut line bytes ts
pieces zero line bytes h = absurd (omega arith)
pieces (suc n) line bytes h =
    pieces_by (is_last (cut bytes).kind) line bytes refl (λ e. pieces n (line_after line bytes) (behind bytes) (omega (arith, behind-shorter bytes e)))

-- other pieces are the same
same_others : (q : Bool) (ts us : List Placed) (line : ℕ) (rest : List ℕ) → ((vs : List Placed) → AreCut line rest ts → AreCut line rest vs → ts ≡ vs)
    → AreOthers q ts (AreCut line rest ts) → AreOthers q us (AreCut line rest us) → ts ≡ us
same_others true ts us line rest ih p q = p ∙ sym q
same_others false ts us line rest ih p q = ih us p q

-- pieces of the same bytes are the same
pub same-pieces : (ts us : List Placed) (line : ℕ) (bytes : List ℕ) → AreCut line bytes ts → AreCut line bytes us → ts ≡ us
unfolding placed
same-pieces [] us line bytes p q = absurd p
same-pieces (t ∷ ts) [] line bytes p q = absurd q
same-pieces (t ∷ ts) (u ∷ us) line bytes p q =
    let k : t.kind ≡ u.kind = p.0 ∙ sym q.0 in
    let l : t.line ≡ u.line = p.1 ∙ sym q.1 in
    let head : t ≡ u = ap (λ (x : ℕ). placed x t.kind) l ∙ ap (λ (x : Kind). placed u.line x) k in
    let tail : ts ≡ us = same_others (is_last u.kind) ts us (line_after line bytes) (behind bytes) (λ vs a b. same-pieces ts vs (line_after line bytes) (behind bytes) a b)
    (subst (λ (j : Kind). AreOthers (is_last j) ts (AreCut (line_after line bytes) (behind bytes) ts)) k p.2) q.2 in
    ap (λ (x : Placed). x ∷ ts) head ∙ ap (λ (x : List Placed). u ∷ x) tail

-- bytes are cut in one way
pub cut-once : (line : ℕ) (bytes : List ℕ) → IsCutOnce line bytes
cut-once line bytes =
    let p = pieces (suc (length bytes)) line bytes (omega arith) in
    record { pieces = p.0; cut = p.1; one = λ others are. same-pieces others p.0 line bytes are p.1 }
