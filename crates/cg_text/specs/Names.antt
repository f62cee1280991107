-- The names of models and curves. chron's own.
use Rattle.std.specs.Prelude.{ℕ, ◌≤◌, Bool, ◌==◌, ◌||◌, List, length, IsTrue, Option}
use Rattle.std.specs.List.{list_all}
use Rattle.std.specs.Char.{is_ascii_alphanumeric}
use Rattle.cg_meaning.specs.Tree.{Name}
use Rattle.cg_text.specs.Pieces.{run_at}

-- what such a name consists of: ASCII letters, digits, `_`, `-` and `.`
abbrev pub is_name_byte : ℕ → Bool
is_name_byte c = is_ascii_alphanumeric c || c == 95 || c == 45 || c == 46

-- 1 to 64 of these
pub record IsName (name : Name) : Type 0 where
  pub some : 1 ≤ length name
  pub short : length name ≤ 64
  pub plain : IsTrue (list_all is_name_byte name)

-- a name in front, with no byte of a name behind it
abbrev pub name_at : List ℕ → Option (Name × List ℕ)
name_at bytes = run_at is_name_byte 64 bytes
