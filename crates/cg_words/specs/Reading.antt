-- How words are read: the options among them, the parts of a list, and names that stand once.
use Rattle.std.specs.Prelude.{◌≡◌, bytes_eq, ℕ, Bool, true, false, not, ◌&&◌, ◌||◌, ◌==◌, List, [], ◌∷◌, codes, option_map, All, Option, Some, None, if◌then◌else◌, is_none}
use Rattle.std.specs.List.{list_any, slice_split, Contains}
use Rattle.std.specs.Str.{str_to_ascii_lowercase}
use Rattle.cg_num.specs.Decimal.{number_of}
use Rattle.cg_words.specs.Words.{NamedFile, IsNamedFile, part_text, IsFile, IsNumeral, IsTurn, Lists, AreLists}
use Rattle.cg_words.specs.declared.lists.Lists as declared

-- the list behind the first such option
abbrev pub list_of : List ℕ → List (List ℕ) → Option (List ℕ)
list_of option [] = None
list_of option (word ∷ []) = None
list_of option (word ∷ list ∷ others) = if bytes_eq word option then Some list else list_of option others

abbrev pub is_option : List ℕ → Bool
is_option word =
    bytes_eq word (codes "--curves") || (bytes_eq word (codes "--models") || (bytes_eq word (codes "--sessions")
    || (bytes_eq word (codes "--turns") || bytes_eq word (codes "--cache"))))

-- options, each with a word behind it, and each at most once
abbrev pub are_options : List (List ℕ) → Bool
are_options [] = true
are_options (word ∷ []) = false
are_options (word ∷ list ∷ others) = is_option word && is_none (list_of word others) && are_options others

-- the same names, ASCII case aside
abbrev pub is_same_name : List ℕ → List ℕ → Bool
is_same_name a b = bytes_eq (str_to_ascii_lowercase a) (str_to_ascii_lowercase b)

-- no name is the same as a later one
abbrev pub are_distinct : (List ℕ → List ℕ → Bool) → List NamedFile → Bool
are_distinct is_same [] = true
are_distinct is_same (named ∷ others) = not (list_any (λ other. is_same named.name other.name) others) && are_distinct is_same others

-- the parts between the commas
abbrev pub parts_of : List ℕ → List (List ℕ)
parts_of list = slice_split (λ byte. byte == 44) list

-- a part of the list is of this kind
abbrev pub HasPart : (List ℕ → Type 0) → List ℕ → Type 0
HasPart IsFaulty list = (part : List ℕ) × Contains (parts_of list) part × IsFaulty part

-- the part is this NAME=FILE
abbrev pub SaysNamed : List ℕ → NamedFile → Type 0
SaysNamed part named = (part ≡ part_text named) × IsNamedFile named

-- The parts are these files.
pub record AreFiles (parts files : List (List ℕ)) : Type 0 where
  pub same : files ≡ parts
  pub each : All IsFile files

-- The part is a number of one of so many sessions.
pub record SaysTurn (sessions : ℕ) (part : List ℕ) (turn : ℕ) : Type 0 where
  pub numeral : IsNumeral part
  pub number : turn ≡ number_of part
  pub known : IsTurn sessions turn

abbrev pub SaysNoTurn : ℕ → List ℕ → Type 0
SaysNoTurn sessions part = (turn : ℕ) → ¬ SaysTurn sessions part turn

-- nothing is so
abbrev pub Nothing : {A : Type 0} → (A → Type 0) → Type 0
Nothing {A} Is = (x : A) → ¬ Is x

-- what the code's lists are
abbrev pub lists_in : declared.Lists → Lists
lists_in lists = record {
  curves = option_map (λ list. list.now) lists.curves;
  models = lists.models.now;
  sessions = lists.sessions.now;
  turns = option_map (λ list. list.now) lists.turns;
  cache = option_map (λ list. list.now) lists.cache;
}

-- the words have no lists
abbrev pub HasNoLists : List (List ℕ) → Type 0
HasNoLists words = (lists : Lists) → ¬ AreLists words lists
