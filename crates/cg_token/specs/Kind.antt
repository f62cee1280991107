-- What stands in a file of the CQL2 profile. After the OxCal 4 manual (CQL2).
use Rattle.std.specs.Prelude.{ℕ, Bool, true, false, List, ℤ}
use Rattle.cg_token.specs.declared.token.Mark.{Mark}

-- a blank or a comment; a token; the end; what is no token
pub data Kind : Type 0 where
  gap : Kind
  word : List ℕ → Kind
  text : List ℕ → Kind
  number : ℤ → Kind
  mark : Mark → Kind
  ended : Kind
  unreadable : Kind

-- nothing is read behind these
abbrev pub is_last : Kind → Bool
is_last ended = true
is_last unreadable = true
is_last _ = false

-- what is dropped between tokens
abbrev pub is_gap : Kind → Bool
is_gap gap = true
is_gap _ = false
