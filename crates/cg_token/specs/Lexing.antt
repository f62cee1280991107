-- Bytes that are read as these tokens wherever they stand: what a writer needs to know of its texts. chron's own.
use Rattle.std.specs.Prelude.{◌≡◌, ℕ, true, false, List, [], ◌∷◌, ◌++◌, codes, slice_index}
use Rattle.std.specs.List.{list_all}
use Rattle.std.specs.Str.{is_utf8}
use Rattle.cg_token.specs.Kind.{Kind, word, text}
use Rattle.cg_token.specs.Cut.{begins_word, in_word, in_text}
use Rattle.cg_token.specs.Tokens.{Placed, AreCut, tokens_in, kinds}

-- the first pieces have these tokens, and the others are those of the bytes that come after
pub record Found (ks : List Kind) (rest : List ℕ) (ts : List Placed) : Type 0 where
  pub line : ℕ
  pub front : List Placed
  pub others : List Placed
  pub whole : ts ≡ front ++ others
  pub same : kinds (tokens_in front) ≡ ks
  pub next : AreCut line rest others

-- these bytes before those are read as these tokens, from each line on
unfoldable pub Lexes : List ℕ → List ℕ → List Kind → Type 0
Lexes bytes rest ks = (line : ℕ) (ts : List Placed) → AreCut line (bytes ++ rest) ts → Found ks rest ts

-- Texts that lex join. A word does before another byte than one of a word, and a text does in its quotes.
pub record PiecesStandByThemselves : Type 0 where
  pub joined : (a b rest : List ℕ) (ks js : List Kind) → Lexes a (b ++ rest) ks → Lexes b rest js
      → Lexes (a ++ b) rest (ks ++ js)
  pub worded : (c : ℕ) (w rest : List ℕ) → begins_word c ≡ true → list_all in_word w ≡ true
      → in_word (slice_index rest 0) ≡ false → Lexes (c ∷ w) rest (word (c ∷ w) ∷ [])
  pub quoted : (n rest : List ℕ) → list_all in_text n ≡ true → is_utf8 n ≡ true
      → Lexes (codes "\"" ++ n ++ codes "\"") rest (text n ∷ [])
