-- What a token means.
use Rattle.std.specs.Prelude.{◌≡◌, ℕ}
use Rattle.cg_token.specs.Kind.{Kind, gap, word, text, number, mark, ended, unreadable}
use Rattle.cg_token.specs.Cut.{Cut}
use Rattle.cg_token.specs.declared.token.Token.{Token}
use Rattle.cg_token.specs.declared.token.Token.TheVariants as tokens

-- the kind of a token
abbrev pub kind_of : Token → Kind
kind_of tokens.Gap = gap
kind_of (tokens.Word w) = word w.now
kind_of (tokens.Text t) = text t.now
kind_of (tokens.Number n) = number n
kind_of (tokens.Mark m) = mark m
kind_of tokens.End = ended
kind_of tokens.Unreadable = unreadable

-- a token with its length is this piece
abbrev pub IsCut : Token × ℕ → Cut → Type 0
IsCut found c = (kind_of found.0 ≡ c.kind) × (found.1 ≡ c.used)
