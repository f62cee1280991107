-- Bytes that are read as these tokens wherever they stand in front.
use Rattle.std.proofs.Common.{◌≡◌, ℕ, zero, suc, ◌+◌, Bool, true, false, not, cond, List, [], ◌∷◌, ◌++◌, length, drop, slice_index, replicate, refl, sym, ap, ◌∙◌, subst, arith, append_assoc, codes}
use Rattle.std.specs.List.{prefix_len, list_all}
use Rattle.std.specs.Str.{is_utf8}
use Rattle.std.proofs.lemmas.Bool.Decides.{nat_tests}
use Rattle.std.proofs.lemmas.List.{map-append, take_at, drop_at, length-append}
use Rattle.cg_token.specs.Kind.{Kind, gap, word, text, mark, is_last, is_gap}
use Rattle.cg_token.specs.declared.token.Mark.{Mark}
use Rattle.cg_token.specs.declared.token.Mark.TheVariants.{ParenOpen, ParenClose, BraceOpen, BraceClose, Comma, Semicolon, Equals}
use Rattle.cg_token.specs.Cut.{Cut, made, is_blank, begins_word, in_text, in_word, text_at, cut}
use Rattle.cg_token.specs.Tokens.{Placed, AreCut, AreOthers, line_after, behind, tokens_in, kinds}
use Rattle.cg_token.specs.Lexing.{Lexes, PiecesStandByThemselves}
use Rattle.cg_token.proofs.CutLemmas.{both-true}

-- tokens of pieces that stand behind one another
pub tokens-append : (a b : List Placed) → tokens_in (a ++ b) ≡ tokens_in a ++ tokens_in b
tokens-append [] b = refl
tokens-append (t ∷ a) b = by_test (not (is_gap t.kind)) (tokens-append a b)
  where
    by_test : (q : Bool) → tokens_in (a ++ b) ≡ tokens_in a ++ tokens_in b → cond q (t ∷ tokens_in (a ++ b)) (tokens_in (a ++ b)) ≡ cond q (t ∷ tokens_in a) (tokens_in a) ++ tokens_in b
    by_test true others = ap (λ (x : List Placed). t ∷ x) others
    by_test false others = others

-- one text behind another
pub then-lexes : (a b rest : List ℕ) (ks js : List Kind) → Lexes a (b ++ rest) ks → Lexes b rest js → Lexes (a ++ b) rest (ks ++ js)
unfolding Lexes
then-lexes a b rest ks js p q line ts h =
    let f = p line ts (rw append_assoc at h) in
    let g = q f.line f.others f.next in
    record {
      line = g.line;
      front = f.front ++ g.front;
      others = g.others;
      whole = f.whole ∙ ap (λ (x : List Placed). f.front ++ x) g.whole ∙ sym (append_assoc f.front g.front g.others);
      same = ap kinds (tokens-append f.front g.front) ∙ map-append (λ (t : Placed). t.kind) (tokens_in f.front) (tokens_in g.front) ∙ rw (f.same, g.same) refl;
      next = g.next;
    }

-- no bytes have no tokens
pub none-lexes : (rest : List ℕ) → Lexes [] rest []
unfolding Lexes
none-lexes rest line ts h = record { line = line; front = []; others = ts; whole = refl; same = refl; next = h }

-- what a piece is among tokens
abbrev pub kept : Kind → List Kind
kept k = cond (not (is_gap k)) (k ∷ []) []

-- a piece of this kind alone
kept-same : (t : Placed) (k : Kind) → t.kind ≡ k → kinds (tokens_in (t ∷ [])) ≡ kept k
kept-same t k e = by_test (not (is_gap t.kind)) ∙ ap kept e
  where
    by_test : (q : Bool) → kinds (cond q (t ∷ []) []) ≡ cond q (t.kind ∷ []) []
    by_test true = refl
    by_test false = refl

-- the bytes of one piece, which is not the last
pub one-lexes : (bytes rest : List ℕ) (k : Kind) → cut (bytes ++ rest) ≡ made k (length bytes) → is_last k ≡ false → Lexes bytes rest (kept k)
unfolding Lexes
one-lexes bytes rest k e last line [] h = absurd h
one-lexes bytes rest k e last line (t ∷ us) h =
    let all = bytes ++ rest in
    let same : t.kind ≡ k = h.0 ∙ ap (λ (c : Cut). c.kind) e in
    let more : AreCut (line_after line all) (behind all) us = subst (λ (q : Bool). AreOthers q us (AreCut (line_after line all) (behind all) us)) (ap is_last same ∙ last) h.2 in
    let rest_is : behind all ≡ rest = ap (λ (c : Cut). drop c.used all) e ∙ drop_at bytes rest (length bytes) refl in
    record {
      line = line_after line all;
      front = t ∷ [];
      others = us;
      whole = refl;
      same = kept-same t k same;
      next = subst (λ (x : List ℕ). AreCut (line_after line all) x us) rest_is more;
    }

-- a blank
pub blank-lexes : (rest : List ℕ) → Lexes (codes " ") rest []
unfolding cut
blank-lexes rest = one-lexes (codes " ") rest gap refl refl

-- an LF
pub newline-lexes : (rest : List ℕ) → Lexes (codes "\n") rest []
unfolding cut
newline-lexes rest = one-lexes (codes "\n") rest gap refl refl

-- blanks
pub blanks-lex : (count : ℕ) (rest : List ℕ) → Lexes (replicate count 32) rest []
blanks-lex zero rest = none-lexes rest
blanks-lex (suc count) rest = then-lexes (32 ∷ []) (replicate count 32) rest [] [] (blank-lexes (replicate count 32 ++ rest)) (blanks-lex count rest)

-- the byte of a mark
abbrev pub byte_of : Mark → ℕ
byte_of ParenOpen = 40
byte_of ParenClose = 41
byte_of BraceOpen = 123
byte_of BraceClose = 125
byte_of Comma = 44
byte_of Semicolon = 59
byte_of Equals = 61

-- a mark
pub mark-lexes : (m : Mark) (rest : List ℕ) → Lexes (byte_of m ∷ []) rest (mark m ∷ [])
unfolding cut
mark-lexes ParenOpen rest = one-lexes (40 ∷ []) rest (mark ParenOpen) refl refl
mark-lexes ParenClose rest = one-lexes (41 ∷ []) rest (mark ParenClose) refl refl
mark-lexes BraceOpen rest = one-lexes (123 ∷ []) rest (mark BraceOpen) refl refl
mark-lexes BraceClose rest = one-lexes (125 ∷ []) rest (mark BraceClose) refl refl
mark-lexes Comma rest = one-lexes (44 ∷ []) rest (mark Comma) refl refl
mark-lexes Semicolon rest = one-lexes (59 ∷ []) rest (mark Semicolon) refl refl
mark-lexes Equals rest = one-lexes (61 ∷ []) rest (mark Equals) refl refl

-- bytes that pass a test, before one that doesn't
pub prefix-stops : (p : ℕ → Bool) (xs rest : List ℕ) → list_all p xs ≡ true → p (slice_index rest 0) ≡ false → prefix_len p (xs ++ rest) ≡ length xs
prefix-stops p [] [] h e = refl
prefix-stops p [] (c ∷ rest) h e = rw e refl
prefix-stops p (x ∷ xs) rest h e =
    let both = both-true (p x) (list_all p xs) h in
    rw (both.0, prefix-stops p xs rest both.1 e) (omega arith)

-- a letter is no blank
no_blank : (c : ℕ) → begins_word c ≡ true → is_blank c ≡ false
no_blank c h = grind (arith, nat_tests)

-- a word in front is cut
word_cut : (c : ℕ) (w rest : List ℕ) → begins_word c ≡ true → list_all in_word w ≡ true → in_word (slice_index rest 0) ≡ false → cut ((c ∷ w) ++ rest) ≡ made (word (c ∷ w)) (length (c ∷ w))
unfolding cut
word_cut c w rest h letters e =
    let long : prefix_len in_word (w ++ rest) + 1 ≡ length (c ∷ w) = omega (arith, prefix-stops in_word w rest letters e) in
    rw (no_blank c h, h, long) (ap (λ (x : List ℕ). made (word x) (length (c ∷ w))) (take_at (c ∷ w) rest (length (c ∷ w)) refl))

-- a word, before another byte than one of a word
pub word-lexes : (c : ℕ) (w rest : List ℕ) → begins_word c ≡ true → list_all in_word w ≡ true → in_word (slice_index rest 0) ≡ false → Lexes (c ∷ w) rest (word (c ∷ w) ∷ [])
word-lexes c w rest h letters e = one-lexes (c ∷ w) rest (word (c ∷ w)) (word_cut c w rest h letters e) refl

-- the bytes of a text end at the quote
at_quote : (n rest : List ℕ) → slice_index (n ++ 34 ∷ rest) (length n) ≡ 34
at_quote [] rest = refl
at_quote (c ∷ n) rest = at_quote n rest

-- a text before a quote is cut
text_cut : (n rest : List ℕ) → list_all in_text n ≡ true → is_utf8 n ≡ true → text_at (n ++ 34 ∷ rest) ≡ made (text n) (length n + 2)
text_cut n rest h u = rw (prefix-stops in_text n (34 ∷ rest) h refl, at_quote n rest, take_at n (34 ∷ rest) (length n) refl, u) refl

-- a text in its quotes
pub text-lexes : (n rest : List ℕ) → list_all in_text n ≡ true → is_utf8 n ≡ true → Lexes (34 ∷ (n ++ 34 ∷ [])) rest (text n ∷ [])
unfolding cut
text-lexes n rest h u =
    let long : length n + 2 ≡ length (34 ∷ (n ++ 34 ∷ [])) = omega (arith, length-append n (34 ∷ [])) in
    one-lexes (34 ∷ (n ++ 34 ∷ [])) rest (text n) (ap text_at (append_assoc n (34 ∷ []) rest) ∙ text_cut n rest h u ∙ ap (λ (m : ℕ). made (text n) m) long) refl

-- pieces stand by themselves
pub stand-by-themselves : PiecesStandByThemselves
stand-by-themselves = record { joined = then-lexes; worded = word-lexes; quoted = text-lexes }
