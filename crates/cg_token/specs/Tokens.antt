-- The pieces of a file, one behind another, each with its line; and the tokens among them. chron's own.
use Rattle.std.specs.Prelude.{◌≡◌, ℕ, ◌+◌, not, Bool, true, false, List, [], ◌∷◌, take, drop, map, filter, count_by}
use Rattle.std.specs.Char.{is_newline}
use Rattle.cg_token.specs.Kind.{Kind, is_last, is_gap}
use Rattle.cg_token.specs.Cut.{cut}

-- a piece, and the line on which it begins
pub record Placed : Type 0 where
  pub line : ℕ
  pub kind : Kind

-- how many LF bytes there are
abbrev pub newlines : List ℕ → ℕ
newlines bytes = count_by is_newline bytes

-- the line behind the piece in front
abbrev pub line_after : ℕ → List ℕ → ℕ
line_after line bytes = line + newlines (take (cut bytes).used bytes)

-- the bytes behind the piece in front
abbrev pub behind : List ℕ → List ℕ
behind bytes = drop (cut bytes).used bytes

-- none behind a last piece, and else those that this fact is of
abbrev pub AreOthers : Bool → List Placed → Type 0 → Type 0
AreOthers true ts more = ts ≡ []
AreOthers false ts more = more

-- The bytes, which begin on this line, are cut into these pieces: the first stands in front, and the others are those
-- of the bytes behind it. The last is the end of the file, or what is no token.
abbrev pub AreCut : ℕ → List ℕ → List Placed → Type 0
AreCut line bytes [] = ⊥
AreCut line bytes (t ∷ ts) = (t.kind ≡ (cut bytes).kind)
    × (t.line ≡ line)
    × AreOthers (is_last t.kind) ts (AreCut (line_after line bytes) (behind bytes) ts)

-- bytes are cut into pieces in one way
pub record IsCutOnce (line : ℕ) (bytes : List ℕ) : Type 0 where
  pub pieces : List Placed
  pub cut : AreCut line bytes pieces
  pub one : (others : List Placed) → AreCut line bytes others → others ≡ pieces

abbrev pub EachIsCutOnce : Type 0
EachIsCutOnce = (line : ℕ) (bytes : List ℕ) → IsCutOnce line bytes

-- the pieces that are no gaps
abbrev pub tokens_in : List Placed → List Placed
tokens_in pieces = filter (λ t. not (is_gap t.kind)) pieces

-- pieces without their lines
abbrev pub kinds : List Placed → List Kind
kinds ts = map (λ t. t.kind) ts
