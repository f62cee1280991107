-- The lines of a session script that hold commands. chron's own.
use Rattle.std.specs.Prelude.{ℕ, Bool, ◌==◌, ◌||◌, not, List, slice_index, filter}
use Rattle.std.specs.List.{list_all, enumerate_from}
use Rattle.std.specs.Str.Lines.{lines}

-- a space or a tab
abbrev pub is_blank : ℕ → Bool
is_blank c = c == 32 || c == 9

-- a line without a command: it is empty, blank or a remark, which begins with #
abbrev pub is_skipped : List ℕ → Bool
is_skipped line = list_all is_blank line || slice_index line 0 == 35

-- the lines with a command, each with its number, where the first line of the bytes has this one
unfoldable pub lines_from : ℕ → List ℕ → List (ℕ × List ℕ)
lines_from number bytes = filter (λ line. not (is_skipped line.1)) (enumerate_from number (lines bytes))

-- the lines with a command, each with its number, counted from 1
abbrev pub command_lines : List ℕ → List (ℕ × List ℕ)
command_lines bytes = lines_from 1 bytes
