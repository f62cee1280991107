-- What the tokens so far say of the line of the curve's name.
use Rattle.std.specs.Prelude.{ℕ, List, [], ◌∷◌, ◌++◌, codes, Option, option_map}
use Rattle.cg_token.specs.Kind.{Kind, word, text, mark}
use Rattle.cg_token.specs.Tokens.{Placed}
use Rattle.cg_token.specs.declared.token.Mark.TheVariants.{ParenOpen, Comma, Equals}
use Rattle.cg_grammar.specs.CurveLine.{curve_name}
use Rattle.cg_cql.specs.declared.naming.Naming.{Naming}
use Rattle.cg_cql.specs.declared.naming.Naming.TheVariants.{Nothing, Word, Equated, Opening, First, Parted, Named}

-- the line of the name among tokens
abbrev pub line_in : List Placed → Option ℕ
line_in tokens = option_map (λ token. token.line) (curve_name tokens)

-- a token on a line that tells nothing
abbrev pub bare : Kind → Placed
bare kind = record { line = 0; kind = kind }

-- the word Curve
abbrev pub the_word : Placed
the_word = bare (word (codes "Curve"))

-- the tokens that a naming keeps, with the line of its text
abbrev pub kept : Naming → List Placed
kept Nothing = []
kept Word = the_word ∷ []
kept Equated = the_word ∷ bare (mark Equals) ∷ []
kept Opening = the_word ∷ bare (mark ParenOpen) ∷ []
kept (First line) = the_word ∷ bare (mark ParenOpen) ∷ record { line = line; kind = text [] } ∷ []
kept (Parted line) =
    the_word ∷ bare (mark ParenOpen) ∷ record { line = line; kind = text [] } ∷ bare (mark Comma) ∷ []
kept (Named line) = the_word ∷ bare (mark Equals) ∷ record { line = line; kind = text [] } ∷ []

-- the line of the name, from the tokens that are to come
abbrev pub line_from : Naming → List Placed → Option ℕ
line_from naming tokens = line_in (kept naming ++ tokens)
