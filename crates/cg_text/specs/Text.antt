-- The texts between quotes, and the ends of files. chron's own.
use Rattle.std.specs.Prelude.{◌≡◌, ◌⊎◌, ℕ, ◌≤◌, List, [], ◌++◌, length, codes, IsTrue}
use Rattle.std.specs.List.{list_all}
use Rattle.std.specs.Char.{is_ascii_alphanumeric}
use Rattle.cg_meaning.specs.Tree.{Name}

-- 1 to 20 ASCII letters or digits
pub record IsText (text : List ℕ) : Type 0 where
  pub some : 1 ≤ length text
  pub short : length text ≤ 20
  pub plain : IsTrue (list_all is_ascii_alphanumeric text)

-- a text, or none
abbrev pub IsTitle : Name → Type 0
IsTitle name = (name ≡ []) ⊎ IsText name

-- a text as it stands in a file
abbrev pub quoted : List ℕ → List ℕ
quoted text = codes "\"" ++ text ++ codes "\""

-- what may stand at the end of a file: nothing, or one LF
abbrev pub IsEnd : List ℕ → Type 0
IsEnd end = (end ≡ []) ⊎ (end ≡ codes "\n")
