-- What the words of the command line ask for.
use Rattle.std.specs.Prelude.{◌≡◌, ◌≢◌, ◌⊎◌, ℕ, ◌<◌, ◌≤◌, IsTrue, List, [], ◌∷◌, ◌++◌, length, map, codes, All, AllPairs, Option, Some, None}
use Rattle.std.specs.List.{Contains, join_with_byte}
use Rattle.std.specs.Char.{is_ascii_digit}
use Rattle.cg_num.specs.Decimal.{number_of}
use Rattle.cg_curve.specs.Curves.{IsSameCurveName}
use Rattle.cg_text.specs.Names.{IsName}

-- a file that is known by a name: NAME=FILE
pub record NamedFile : Type 0 where
  pub name : List ℕ
  pub file : List ℕ

-- The files of the curves, those of the models, those of the session scripts, the numbers of the sessions whose turns
-- come one after another, and how many results the cache may keep.
pub record Request : Type 0 where
  pub curves : List NamedFile
  pub models : List NamedFile
  pub sessions : List (List ℕ)
  pub turns : List ℕ
  pub cache : ℕ

-- commas part the files of a list
pub record IsFile (file : List ℕ) : Type 0 where
  pub some : 0 < length file
  pub few : length file ≤ 240
  pub no_comma : ¬ Contains file 44

pub record IsNamedFile (named : NamedFile) : Type 0 where
  pub name : IsName named.name
  pub file : IsFile named.file

-- the part NAME=FILE of a list
abbrev pub part_text : NamedFile → List ℕ
part_text named = named.name ++ (61 ∷ named.file)

-- the text is no NAME=FILE
abbrev pub NamesNothing : List ℕ → Type 0
NamesNothing text = (named : NamedFile) → IsNamedFile named → text ≢ part_text named

-- A list of so many named files at most, no two of them with the same name.
pub record AreNamed (most : ℕ) (IsSame : List ℕ → List ℕ → Type 0) (list : List ℕ) (named : List NamedFile) : Type 0 where
  pub form : list ≡ join_with_byte 44 (map part_text named)
  pub some : 0 < length named
  pub few : length named ≤ most
  pub files : All IsNamedFile named
  pub distinct : AllPairs (λ a b. ¬ IsSame a.name b.name) named

-- A list of the files of the sessions.
pub record AreSessions (list : List ℕ) (sessions : List (List ℕ)) : Type 0 where
  pub form : list ≡ join_with_byte 44 sessions
  pub some : 0 < length sessions
  pub few : length sessions ≤ 8
  pub files : All IsFile sessions

-- One to seven digits. The first may be zeros.
pub record IsNumeral (numeral : List ℕ) : Type 0 where
  pub some : 0 < length numeral
  pub few : length numeral ≤ 7
  pub digits : All (λ byte. IsTrue (is_ascii_digit byte)) numeral

-- the number of one of so many sessions
pub record IsTurn (sessions turn : ℕ) : Type 0 where
  pub some : 1 ≤ turn
  pub known : turn ≤ sessions

-- A list of the numbers of sessions, of which there are so many.
pub record AreTurns (sessions : ℕ) (list : List ℕ) (turns : List ℕ) : Type 0 where
  pub numerals : List (List ℕ)
  pub form : list ≡ join_with_byte 44 numerals
  pub some : 0 < length turns
  pub few : length turns ≤ 10000
  pub digits : All IsNumeral numerals
  pub numbers : turns ≡ map number_of numerals
  pub known : All (IsTurn sessions) turns

-- a list that may be left out, and is then empty
abbrev pub MayBe : {A : Type 0} → (List ℕ → List A → Type 0) → Option (List ℕ) → List A → Type 0
MayBe Are None items = items ≡ []
MayBe Are (Some list) items = Are list items

-- The text says how many results the cache may keep.
pub record IsCacheSize (text : List ℕ) (size : ℕ) : Type 0 where
  pub numeral : IsNumeral text
  pub number : size ≡ number_of text
  pub few : size ≤ 256

-- a size that may be left out, and is then 64
abbrev pub MayBeCacheSize : Option (List ℕ) → ℕ → Type 0
MayBeCacheSize None size = size ≡ 64
MayBeCacheSize (Some text) size = IsCacheSize text size

-- The lists of the five options, of which that of the cache is one number. Three of them may be left out.
pub record Lists : Type 0 where
  pub curves : Option (List ℕ)
  pub models : List ℕ
  pub sessions : List ℕ
  pub turns : Option (List ℕ)
  pub cache : Option (List ℕ)

-- The lists ask for this.
pub record AskFor (lists : Lists) (request : Request) : Type 0 where
  pub curves : MayBe (AreNamed 4 IsSameCurveName) lists.curves request.curves
  pub models : AreNamed 8 ◌≡◌ lists.models request.models
  pub sessions : AreSessions lists.sessions request.sessions
  pub turns : MayBe (AreTurns (length request.sessions)) lists.turns request.turns
  pub cache : MayBeCacheSize lists.cache request.cache

-- an option, and the list behind it
pub record Given : Type 0 where
  pub option : List ℕ
  pub list : List ℕ

abbrev pub words_of : List Given → List (List ℕ)
words_of [] = []
words_of (given ∷ others) = given.option ∷ given.list ∷ words_of others

abbrev pub IsOption : List ℕ → Type 0
IsOption word =
    (word ≡ codes "--curves") ⊎ (word ≡ codes "--models") ⊎ (word ≡ codes "--sessions")
    ⊎ (word ≡ codes "--turns") ⊎ (word ≡ codes "--cache")

-- the option is given with this list
abbrev pub IsGiven : List Given → List ℕ → List ℕ → Type 0
IsGiven given option list = Contains given (record { option = option; list = list })

-- the option is given with this list, or is left out
abbrev pub MayBeGiven : List Given → List ℕ → Option (List ℕ) → Type 0
MayBeGiven given option None = All (λ one. one.option ≢ option) given
MayBeGiven given option (Some list) = IsGiven given option list

-- The words are the command, and behind it options in any order, each at most once, with these lists.
pub record AreLists (words : List (List ℕ)) (lists : Lists) : Type 0 where
  pub given : List Given
  pub form : words ≡ codes "alone" ∷ words_of given
  pub known : All (λ one. IsOption one.option) given
  pub once : AllPairs (λ a b. a.option ≢ b.option) given
  pub curves : MayBeGiven given (codes "--curves") lists.curves
  pub models : IsGiven given (codes "--models") lists.models
  pub sessions : IsGiven given (codes "--sessions") lists.sessions
  pub turns : MayBeGiven given (codes "--turns") lists.turns
  pub cache : MayBeGiven given (codes "--cache") lists.cache

-- The words ask for this.
pub record AreWords (words : List (List ℕ)) (request : Request) : Type 0 where
  pub lists : Lists
  pub stand : AreLists words lists
  pub ask : AskFor lists request

-- the words ask for nothing
abbrev pub AreNoWords : List (List ℕ) → Type 0
AreNoWords words = (request : Request) → ¬ AreWords words request

-- words ask for one thing at most
abbrev pub AskForOneThing : Type 0
AskForOneThing = (words : List (List ℕ)) (x y : Request) → AreWords words x → AreWords words y → x ≡ y

-- What every request keeps to.
pub record IsRequest (request : Request) : Type 0 where
  pub few_curves : length request.curves ≤ 4
  pub curve_names : AllPairs (λ a b. ¬ IsSameCurveName a.name b.name) request.curves
  pub some_models : 0 < length request.models
  pub few_models : length request.models ≤ 8
  pub model_names : AllPairs (λ a b. a.name ≢ b.name) request.models
  pub some_sessions : 0 < length request.sessions
  pub few_sessions : length request.sessions ≤ 8
  pub session_files : All IsFile request.sessions
  pub few_turns : length request.turns ≤ 10000
  pub turns_known : All (IsTurn (length request.sessions)) request.turns
  pub small_cache : request.cache ≤ 256
