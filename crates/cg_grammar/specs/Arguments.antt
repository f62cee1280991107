-- What stands between the parentheses of a statement. After the OxCal 4 manual (CQL2); ranges are chron's own.
use Rattle.std.specs.Prelude.{ℕ, ◌+◌, ◌-◌, Bool, true, false, ◌==◌, ◌&&◌, ◌||◌, not, nat_le, nat_lt, List, [], ◌∷◌, ◌++◌, length, drop, slice_index, codes, Option, Some, None, ℤ, pos, negsuc, int_le, int_div, int_rem, if◌then◌else◌}
use Rattle.std.specs.Ordering.{int_eq}
use Rattle.std.specs.Str.{str_eq_ignore_ascii_case}
use Rattle.cg_num.specs.Year.{bp_of_calendar}
use Rattle.cg_meaning.specs.Tree as spec
use Rattle.cg_token.specs.Kind.{Kind, word, text, number, mark}
use Rattle.cg_token.specs.declared.token.Mark.TheVariants.{ParenOpen, ParenClose, Comma}
use Rattle.cg_grammar.specs.declared.command.Command.{Command}
use Rattle.cg_grammar.specs.declared.command.Command.TheVariants.{Boundary, CDate, RDate, Options, Curve}
use Rattle.cg_grammar.specs.Words.{word_of}

-- Nothing; one text or two; a number or two, behind a text or behind none.
pub data Given : Type 0 where
  nothing : Given
  one : List ℕ → Given
  two : List ℕ → List ℕ → Given
  value : Option (List ℕ) → ℤ → Given
  values : Option (List ℕ) → ℤ → ℤ → Given

-- these tokens behind a text and a comma, or behind nothing
abbrev pub text_first : Option (List ℕ) → List Kind → List Kind
text_first None tokens = tokens
text_first (Some name) tokens = text name ∷ mark Comma ∷ tokens

-- their tokens
abbrev pub tokens_of : Given → List Kind
tokens_of nothing = []
tokens_of (one name) = text name ∷ []
tokens_of (two name file) = text name ∷ mark Comma ∷ text file ∷ []
tokens_of (value name first) = text_first name (number first ∷ [])
tokens_of (values name first second) = text_first name (number first ∷ mark Comma ∷ number second ∷ [])

-- at most 120 bytes, and no equals sign in front
abbrev pub is_name : List ℕ → Bool
is_name name = nat_le (length name) 120 && not (slice_index name 0 == 61)

-- it ends in .14c, ASCII case aside
unfoldable pub has_ending : List ℕ → Bool
has_ending name = nat_le 4 (length name) && str_eq_ignore_ascii_case (drop (length name - 4) name) (codes ".14c")

-- the name of a curve's file, with its ending
unfoldable pub with_ending : List ℕ → List ℕ
with_ending name = if has_ending name then name else name ++ codes ".14c"

-- not empty, and at most 120 bytes with the ending
abbrev pub is_file : List ℕ → Bool
is_file name = nat_lt 0 (length name) && nat_le (length name + (if has_ending name then 0 else 4)) 120

-- 58,051 BC to AD 2950
abbrev pub is_calendar : ℤ → Bool
is_calendar year = not (int_eq year (pos 0)) && (int_le (negsuc 58050) year && int_le year (pos 2950))

-- a number of thousandths that is a whole calendar year in range
abbrev pub is_year : ℤ → Bool
is_year thousandths = int_eq (int_rem thousandths (pos 1000)) (pos 0) && is_calendar (int_div thousandths (pos 1000))

-- -2,000 to 60,000 years
abbrev pub is_age : ℤ → Bool
is_age thousandths = int_le (negsuc 1999999) thousandths && int_le thousandths (pos 60000000)

-- an error of 1 to 10,000 years
abbrev pub is_error : ℤ → Bool
is_error thousandths = int_le (pos 1000) thousandths && int_le thousandths (pos 10000000)

-- a text may be the first argument
abbrev pub takes_text : Command → List ℕ → Bool
takes_text Options name = false
takes_text Curve name = is_name name || is_file name
takes_text _ name = is_name name

-- a text may be the second
abbrev pub takes_file : Command → List ℕ → Bool
takes_file Curve name = is_file name
takes_file _ name = false

-- a comma may come behind a first text
abbrev pub goes_on : Command → List ℕ → Bool
goes_on CDate name = true
goes_on RDate name = true
goes_on Curve name = is_name name
goes_on _ name = false

-- a number may be the first number
abbrev pub takes_value : Command → ℤ → Bool
takes_value CDate thousandths = is_year thousandths
takes_value RDate thousandths = is_age thousandths
takes_value _ thousandths = false

-- a comma may come behind a first number
abbrev pub has_error : Command → Bool
has_error CDate = true
has_error RDate = true
has_error _ = false

-- a number may be the second
abbrev pub takes_error : Command → ℤ → Bool
takes_error CDate thousandths = int_eq thousandths (pos 0) || is_error thousandths
takes_error RDate thousandths = is_error thousandths
takes_error _ thousandths = false

-- a comma may come behind these
abbrev pub may_part : Command → Given → Bool
may_part command (one name) = goes_on command name
may_part command (value name first) = has_error command
may_part command _ = false

-- the closing parenthesis may come
abbrev pub is_whole : Command → Given → Bool
is_whole CDate (value name first) = true
is_whole CDate (values name first second) = true
is_whole CDate _ = false
is_whole RDate (values name first second) = true
is_whole RDate _ = false
is_whole Curve (one name) = is_file name
is_whole Curve (two name file) = true
is_whole Curve _ = false
is_whole _ nothing = true
is_whole _ (one name) = true
is_whole _ _ = false

-- a first text with a comma behind it, where there is one
abbrev pub fits_first : Command → Option (List ℕ) → Bool
fits_first command None = true
fits_first command (Some name) = takes_text command name && goes_on command name

-- they may be the first arguments of the command
abbrev pub fits : Command → Given → Bool
fits command nothing = true
fits command (one name) = takes_text command name
fits command (two name file) = fits_first command (Some name) && takes_file command file
fits command (value name first) = fits_first command name && takes_value command first
fits command (values name first second) =
    (fits_first command name && takes_value command first) && (has_error command && takes_error command second)

-- they are the arguments of the command
abbrev pub is_call : Command → Given → Bool
is_call command given = fits command given && is_whole command given

-- a command with its arguments
abbrev pub call : Command → Given → List Kind
call command given = word (word_of command) ∷ mark ParenOpen ∷ (tokens_of given ++ mark ParenClose ∷ [])

-- the name that a first text gives
abbrev pub name_or : Option (List ℕ) → List ℕ
name_or None = []
name_or (Some name) = name

-- the name that they give
abbrev pub name_in : Given → List ℕ
name_in nothing = []
name_in (one name) = name
name_in (two name file) = name
name_in (value name first) = name_or name
name_in (values name first second) = name_or name

-- the curve that they name: the last text
abbrev pub file_in : Given → List ℕ
file_in (one name) = with_ending name
file_in (two name file) = with_ending file
file_in _ = []

-- the cal BP year of thousandths of a calendar year
abbrev pub year_in : ℤ → ℤ
year_in thousandths = bp_of_calendar (int_div thousandths (pos 1000))

-- the dating that they state
abbrev pub dating_in : Command → Given → spec.Dating
dating_in CDate (value name year) = spec.Exact (year_in year)
dating_in CDate (values name year error) =
    if int_eq error (pos 0) then spec.Exact (year_in year) else spec.Normal (year_in year) error
dating_in RDate (values name first error) = spec.Carbon first error
dating_in _ _ = spec.Free

-- the event of a statement
abbrev pub event_in : Command → Given → spec.Tree
event_in Boundary given = spec.Boundary (name_in given)
event_in command given = spec.Leaf (name_in given) (dating_in command given)
