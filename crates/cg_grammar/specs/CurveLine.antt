-- Where a file names its curve, and on which line. chron's own.
use Rattle.std.specs.Prelude.{◌≡◌, ℕ, ◌+◌, Bool, false, List, [], ◌∷◌, codes, bytes_eq, slice_get, Option, Some, None, option_map, option_and_then, if◌then◌else◌}
use Rattle.std.specs.Option.{option_or}
use Rattle.cg_meaning.specs.Tree.{Chronology}
use Rattle.cg_token.specs.Kind.{Kind, word, text, mark}
use Rattle.cg_token.specs.Tokens.{Placed, AreCut, tokens_in, kinds}
use Rattle.cg_token.specs.declared.token.Mark.TheVariants.{ParenOpen, Comma, Equals}
use Rattle.cg_grammar.specs.Arguments.{with_ending}
use Rattle.cg_grammar.specs.Text.{Spells}

-- the word Curve
abbrev pub is_curve : Kind → Bool
is_curve (word letters) = bytes_eq letters (codes "Curve")
is_curve _ = false

-- which of the tokens behind the word Curve, counted from 0, names the curve's file: the text behind an equals sign, or
-- the last of one text or two behind an opening parenthesis
abbrev pub place_behind : List Kind → Option ℕ
place_behind (mark Equals ∷ text file ∷ tokens) = Some 1
place_behind (mark ParenOpen ∷ text name ∷ mark Comma ∷ text file ∷ tokens) = Some 3
place_behind (mark ParenOpen ∷ text file ∷ tokens) = Some 1
place_behind _ = None

-- which of all tokens is the first that does
abbrev pub name_place : List Kind → Option ℕ
name_place [] = None
name_place (token ∷ tokens) =
    let here = if is_curve token then place_behind tokens else None in
    option_map (λ place. place + 1) (option_or here (name_place tokens))

-- that token
abbrev pub curve_name : List Placed → Option Placed
curve_name tokens = option_and_then (λ place. slice_get tokens place) (name_place (kinds tokens))

-- the line on which bytes name a curve, or none
pub record IsCurveLine (bytes : List ℕ) (line : Option ℕ) : Type 0 where
  pub pieces : List Placed
  pub cut : AreCut 1 bytes pieces
  pub told : line ≡ option_map (λ token. token.line) (curve_name (tokens_in pieces))

-- the curve of a name
abbrev pub curve_of : Kind → List ℕ
curve_of (text file) = with_ending file
curve_of _ = []

-- bytes name a curve on one line or on none, and what stands there is the curve of the chronology that they spell
pub record HasOneCurveLine (bytes : List ℕ) : Type 0 where
  pub line : Option ℕ
  pub here : IsCurveLine bytes line
  pub one : (other : Option ℕ) → IsCurveLine bytes other → other ≡ line
  pub curve : (chronology : Chronology) → Spells bytes chronology
      → chronology.curve ≡ option_map (λ token. curve_of token.kind) (curve_name (tokens_in here.pieces))

-- each list of bytes does
abbrev pub EachHasOneCurveLine : Type 0
EachHasOneCurveLine = (bytes : List ℕ) → HasOneCurveLine bytes
