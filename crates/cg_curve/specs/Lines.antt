-- The lines of a curve file that hold data, and their fields. The form of IntCal20's .14c files.
use Rattle.std.specs.Prelude.{ℕ, Bool, true, false, ◌==◌, ◌||◌, not, List, [], ◌∷◌, slice_index, filter}
use Rattle.std.specs.List.{list_all, enumerate_from, slice_split}
use Rattle.std.specs.Str.Lines.{lines}

-- a space or a tab
abbrev pub is_blank : ℕ → Bool
is_blank c = c == 32 || c == 9

-- a comma or a blank
abbrev pub is_separator : ℕ → Bool
is_separator c = c == 44 || is_blank c

-- a line without data: it is empty, blank or a remark, which begins with # or !
abbrev pub is_skipped : List ℕ → Bool
is_skipped line = list_all is_blank line || (slice_index line 0 == 35 || slice_index line 0 == 33)

-- the lines with data, each with its number, where the first line of the bytes has this one
unfoldable pub lines_from : ℕ → List ℕ → List (ℕ × List ℕ)
lines_from number bytes = filter (λ line. not (is_skipped line.1)) (enumerate_from number (lines bytes))

-- the lines with data, each with its number, counted from 1
abbrev pub data_lines : List ℕ → List (ℕ × List ℕ)
data_lines bytes = lines_from 1 bytes

-- the text isn't empty
abbrev pub is_some_text : List ℕ → Bool
is_some_text [] = false
is_some_text (c ∷ cs) = true

-- what stands between separators, where that isn't nothing
abbrev pub fields : List ℕ → List (List ℕ)
fields line = filter is_some_text (slice_split is_separator line)
