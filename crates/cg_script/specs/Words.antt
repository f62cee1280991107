-- The words of lines, and the names between quotes. chron's own.
use Rattle.std.specs.Prelude.{ℕ, Bool, true, false, not, List, [], ◌∷◌, length, take, drop, filter, codes, bytes_eq, nat_le, Option, Some, None, if◌then◌else◌}
use Rattle.std.specs.List.{list_all, prefix_len, slice_split}
use Rattle.std.specs.Fmt.Cut.{floor_char_boundary}
use Rattle.cg_meaning.specs.Tree.{Name}
use Rattle.cg_text.specs.Pieces.{◌>>=◌}
use Rattle.cg_token.specs.Kind.{Kind, text}
use Rattle.cg_token.specs.Cut.{cut}
use Rattle.cg_token.specs.Tokens.{behind}
use Rattle.cg_script.specs.Lines.{is_blank}
use Rattle.cg_script.specs.declared.word.Word.{Word}
use Rattle.cg_script.specs.declared.word.Word.TheVariants.{Grid, Open, Take, Undo, Set, Add, Insert, Drop, Rename, Commit, Print, Ranges, Model, Work}

-- the byte isn't a blank
abbrev pub in_word : ℕ → Bool
in_word c = not (is_blank c)

-- what stands behind the blanks in front
abbrev pub behind_blanks : List ℕ → List ℕ
behind_blanks bytes = drop (prefix_len is_blank bytes) bytes

-- the first word, up to a blank or the end, and nothing where there is none
unfoldable pub first_word : List ℕ → List ℕ
first_word bytes = let from = behind_blanks bytes in take (prefix_len in_word from) from

-- what stands behind the first word
unfoldable pub after_word : List ℕ → List ℕ
after_word bytes = let from = behind_blanks bytes in drop (prefix_len in_word from) from

-- there is a byte
abbrev pub is_some_text : List ℕ → Bool
is_some_text [] = false
is_some_text (c ∷ cs) = true

-- what stands between blanks, where that isn't nothing
abbrev pub fields : List ℕ → List (List ℕ)
fields bytes = filter is_some_text (slice_split is_blank bytes)

-- there is no field
abbrev pub has_none : List (List ℕ) → Bool
has_none [] = true
has_none (field ∷ others) = false

-- the only field
abbrev pub only : List (List ℕ) → Option (List ℕ)
only (field ∷ []) = Some field
only _ = None

-- both fields, where there are two
abbrev pub both : List (List ℕ) → Option (List ℕ × List ℕ)
both (first ∷ second ∷ []) = Some (first, second)
both _ = None

-- the command that has this word
unfoldable pub word_of : List ℕ → Option Word
word_of word =
    if bytes_eq word (codes "grid") then Some Grid
    else (if bytes_eq word (codes "open") then Some Open
    else (if bytes_eq word (codes "take") then Some Take
    else (if bytes_eq word (codes "undo") then Some Undo
    else (if bytes_eq word (codes "set") then Some Set
    else (if bytes_eq word (codes "add") then Some Add
    else (if bytes_eq word (codes "insert") then Some Insert
    else (if bytes_eq word (codes "drop") then Some Drop
    else (if bytes_eq word (codes "rename") then Some Rename
    else (if bytes_eq word (codes "commit") then Some Commit
    else (if bytes_eq word (codes "print") then Some Print
    else (if bytes_eq word (codes "ranges") then Some Ranges
    else (if bytes_eq word (codes "model") then Some Model
    else (if bytes_eq word (codes "work") then Some Work
    else None)))))))))))))

-- it is a command that prints
abbrev pub prints : Option Word → Bool
prints (Some Print) = true
prints (Some Ranges) = true
prints _ = false

-- a word in a cause is cut to its first 120 bytes, at the end of a character
abbrev pub cut_word : List ℕ → List ℕ
cut_word word = if nat_le (length word) 120 then word else take (floor_char_boundary word 120) word

-- a piece that is a text of at most 120 bytes, with what stands behind it
abbrev pub title_if : Kind → List ℕ → Option (Name × List ℕ)
title_if (text title) rest = if nat_le (length title) 120 then Some (title, rest) else None
title_if _ rest = None

-- at most 120 bytes between quotes in front, as a text of a model file: UTF-8 without quotes and control characters
abbrev pub title_at : List ℕ → Option (Name × List ℕ)
title_at bytes = title_if (cut bytes).kind (behind bytes)

-- the same where there is a byte between them
abbrev pub quoted_at : List ℕ → Option (Name × List ℕ)
quoted_at bytes = title_at bytes >>= λ name. if is_some_text name.0 then Some name else None

-- what stands behind blanks in front, at least one
abbrev pub behind_blank : List ℕ → Option (List ℕ)
behind_blank [] = None
behind_blank (c ∷ cs) = if is_blank c then Some (behind_blanks cs) else None

-- a name in quotes, and nothing but blanks behind it
abbrev pub sole_name : List ℕ → Option Name
sole_name bytes = quoted_at bytes >>= λ name. if list_all is_blank name.1 then Some name.0 else None

-- two names in quotes, of which the second may be empty, and nothing but blanks behind them
abbrev pub two_names : List ℕ → Option (Name × Name)
two_names bytes =
    quoted_at bytes >>= λ name. behind_blank name.1 >>= λ rest. title_at rest >>= λ new.
    if list_all is_blank new.1 then Some (name.0, new.0) else None

-- a name in quotes, and the statement behind it: the rest of the line behind the blanks, if that isn't nothing
abbrev pub name_and_statement : List ℕ → Option (Name × List ℕ)
name_and_statement bytes =
    quoted_at bytes >>= λ name. behind_blank name.1 >>= λ statement.
    if is_some_text statement then Some (name.0, statement) else None
