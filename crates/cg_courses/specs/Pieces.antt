-- What a session tells, piece by piece. chron's own.
use Rattle.std.specs.Prelude.{ℕ, List, [], ◌∷◌}
use Rattle.std.specs.List.{flat_map}
use Rattle.cg_meaning.specs.Tree.{Name, Chronology}
use Rattle.cg_meaning.specs.Scene.{Grid, Scene}
use Rattle.cg_sharing.specs.Cause.{Cause}

-- A marginal that is computed: of an event of a version's model, where it is dated; the event by its name and its number.
pub record Print : Type 0 where
  pub name : Name
  pub version : ℕ
  pub chronology : Chronology
  pub scene : Scene
  pub event : ℕ

-- How many claims a session made so far, how each was answered, and how many messages it published.
pub record Counts : Type 0 where
  pub claims : ℕ
  pub hits : ℕ
  pub mine : ℕ
  pub busy : ℕ
  pub no_room : ℕ
  pub published : ℕ

-- The session's number; the version that it went to, made or committed; its grid; the line of a command that is refused,
-- and why; a marginal by its pairs of bounds, or by the years that cover most of it; the text of a version's model; and the
-- counts of its claims.
pub data Piece : Type 0 where
  Begun : ℕ → Piece
  At : ℕ → Piece
  Made : ℕ → Piece
  Committed : ℕ → Piece
  On : Grid → Piece
  Refused : ℕ → Cause → Piece
  Marginal : Print → Piece
  Ranges : Print → Piece
  Model : ℕ → Chronology → Piece
  Work : Counts → Piece

-- the marginals of one piece, of which pairs or ranges are told
abbrev pub prints_in : Piece → List Print
prints_in (Marginal print) = print ∷ []
prints_in (Ranges print) = print ∷ []
prints_in other = []

-- those of which ranges are told
abbrev pub ranges_in : Piece → List Print
ranges_in (Ranges print) = print ∷ []
ranges_in other = []

-- the same of all pieces
abbrev pub prints_of : List Piece → List Print
prints_of pieces = flat_map prints_in pieces

abbrev pub ranges_of : List Piece → List Print
ranges_of pieces = flat_map ranges_in pieces
