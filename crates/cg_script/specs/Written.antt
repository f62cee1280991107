-- What a line shows by itself, its statement being bytes still. chron's own.
use Rattle.std.specs.Prelude.{ℕ, Bool, ◌&&◌, List, [], ◌∷◌, length, nat_le, ◌==◌, Option, Some, None, option_map, ℤ, if◌then◌else◌}
use Rattle.std.specs.List.{list_all}
use Rattle.std.specs.Char.{is_ascii_digit}
use Rattle.cg_num.specs.Numeral.{is_negative, without_sign}
use Rattle.cg_num.specs.Decimal.{signed, number_of}
use Rattle.cg_meaning.specs.Tree.{Name}
use Rattle.cg_text.specs.Pieces.{◌>>=◌}
use Rattle.cg_text.specs.Names.{name_at}
use Rattle.cg_script.specs.Words.{behind_blanks, first_word, after_word, is_some_text, fields, has_none, only, both, word_of, sole_name, two_names, name_and_statement}
use Rattle.cg_script.specs.declared.word.Word.{Word}
use Rattle.cg_script.specs.declared.word.Word.TheVariants as words

pub data Written : Type 0 where
  Grid : ℤ → ℤ → Written
  Open : Name → Written
  Take : ℕ → Written
  Undo : Written
  Set : Name → List ℕ → Written
  Add : Name → List ℕ → Written
  Insert : Name → List ℕ → Written
  Drop : Name → Written
  Rename : Name → Name → Written
  Commit : Name → Written
  Print : Name → Written
  Ranges : Name → Written
  Model : Written
  Work : Written

-- one digit or more, and nothing else
abbrev pub are_digits : List ℕ → Bool
are_digits bytes = is_some_text bytes && list_all is_ascii_digit bytes

-- the field writes a whole number: digits, behind a sign or none
abbrev pub is_whole : List ℕ → Bool
is_whole field = are_digits (without_sign field)

-- the number that it writes then
abbrev pub whole_number : List ℕ → ℤ
whole_number field = signed (is_negative field) (number_of (without_sign field))

-- the grid of two fields, if they write whole numbers
abbrev pub grid_of : List ℕ → List ℕ → Option Written
grid_of older younger =
    if is_whole older && is_whole younger then Some (Grid (whole_number older) (whole_number younger)) else None

-- the name of a model that a field is
abbrev pub model_name : List ℕ → Option Name
model_name field = name_at field >>= λ name. if is_some_text name.1 then None else Some name.0

-- the number of a version that a field writes: a `v`, and 1 to 7 digits
abbrev pub version_of : List ℕ → Option ℕ
version_of [] = None
version_of (c ∷ digits) =
    if c == 118 && (are_digits digits && nat_le (length digits) 7) then Some (number_of digits) else None

-- the name of a model that is the only field
abbrev pub sole_model : List ℕ → Option Name
sole_model bytes = only (fields bytes) >>= model_name

-- the number of a version that is the only field
abbrev pub sole_version : List ℕ → Option ℕ
sole_version bytes = only (fields bytes) >>= version_of

-- this, where there is no field
abbrev pub alone : Written → List (List ℕ) → Option Written
alone written fields = if has_none fields then Some written else None

-- what is made of two parts, if they are found
abbrev pub of_two : {A B : Type 0} → (A → B → Written) → Option (A × B) → Option Written
of_two written pair = option_map (λ p. written p.0 p.1) pair

-- a command by its word and what stands behind the blanks that follow; none where that isn't what the command takes
abbrev pub shown : Word → List ℕ → Option Written
shown words.Grid rest = both (fields rest) >>= λ pair. grid_of pair.0 pair.1
shown words.Open rest = option_map (λ name. Open name) (sole_model rest)
shown words.Take rest = option_map (λ number. Take number) (sole_version rest)
shown words.Undo rest = alone Undo (fields rest)
shown words.Set rest = of_two (λ event statement. Set event statement) (name_and_statement rest)
shown words.Add rest = of_two (λ group statement. Add group statement) (name_and_statement rest)
shown words.Insert rest = of_two (λ node statement. Insert node statement) (name_and_statement rest)
shown words.Drop rest = option_map (λ node. Drop node) (sole_name rest)
shown words.Rename rest = of_two (λ node new. Rename node new) (two_names rest)
shown words.Commit rest = option_map (λ name. Commit name) (sole_model rest)
shown words.Print rest = option_map (λ event. Print event) (sole_name rest)
shown words.Ranges rest = option_map (λ event. Ranges event) (sole_name rest)
shown words.Model rest = alone Model (fields rest)
shown words.Work rest = alone Work (fields rest)

-- what a line shows, if its word is that of a command
abbrev pub written_of : List ℕ → Option Written
written_of line = word_of (first_word line) >>= λ word. shown word (behind_blanks (after_word line))
