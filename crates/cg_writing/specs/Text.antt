-- The canonical text of a chronology: statements of the OxCal 4 manual (CQL2), one in a line, each behind one blank for
-- each group around it. Blanks, line ends and the form of numbers are chron's own.
use Rattle.std.specs.Prelude.{ℕ, ◌+◌, List, [], ◌∷◌, ◌++◌, codes, replicate, Option, Some, None, ℤ, pos, ◌-ℤ◌, int_le, if◌then◌else◌}
use Rattle.std.specs.Fmt.{signed_decimal}
use Rattle.cg_num.specs.Written.{decimal_text}
use Rattle.cg_meaning.specs.Tree.{Name, Dating, Free, Exact, Normal, Carbon, Tree, Leaf, Boundary, Group, Trees, none, more, Chronology}
use Rattle.cg_model.specs.Group.{word_of_kind}

-- the calendar year of a cal BP year: AD years are positive, BC years negative, and there is no year 0
abbrev pub calendar_of : ℤ → ℤ
calendar_of bp = if int_le bp (pos 1949) then pos 1950 -ℤ bp else pos 1949 -ℤ bp

-- a text in quotes
abbrev pub quoted : List ℕ → List ℕ
quoted text = codes "\"" ++ text ++ codes "\""

-- a name, and what parts it from what follows; an empty name is left out with it
abbrev pub name_text : Name → List ℕ → List ℕ
name_text [] comma = []
name_text (c ∷ cs) comma = quoted (c ∷ cs) ++ comma

-- the word of an event with such a dating
abbrev pub word_of_dating : Dating → List ℕ
word_of_dating Free = codes "Date"
word_of_dating (Exact year) = codes "C_Date"
word_of_dating (Normal year error) = codes "C_Date"
word_of_dating (Carbon age error) = codes "R_Date"

-- what stands between a name and the values of a dating
abbrev pub comma_of : Dating → List ℕ
comma_of Free = []
comma_of _ = codes ","

-- the values of a dating: a calendar year, and ages and errors in years without a needless zero
abbrev pub values_text : Dating → List ℕ
values_text Free = []
values_text (Exact year) = signed_decimal (calendar_of year)
values_text (Normal year error) = signed_decimal (calendar_of year) ++ codes "," ++ decimal_text error
values_text (Carbon age error) = decimal_text age ++ codes "," ++ decimal_text error

-- the arguments of an event: its name, and the values of its dating
abbrev pub arguments_text : Name → Dating → List ℕ
arguments_text name dating = name_text name (comma_of dating) ++ values_text dating

-- a word with its arguments in parentheses
abbrev pub call_text : List ℕ → List ℕ → List ℕ
call_text word arguments = word ++ codes "(" ++ arguments ++ codes ")"

-- a line at this depth
abbrev pub line : ℕ → List ℕ → List ℕ
line depth text = replicate depth 32 ++ text ++ codes "\n"

-- A statement at this depth, where the top has depth 0: a line for an event; for a group a line, its members one
-- deeper, and a line that closes it.
abbrev mutual
  pub statement_text : ℕ → Tree → List ℕ
  statement_text depth (Leaf name dating) =
      line depth (call_text (word_of_dating dating) (arguments_text name dating) ++ codes ";")
  statement_text depth (Boundary name) = line depth (call_text (codes "Boundary") (name_text name []) ++ codes ";")
  statement_text depth (Group kind name ts) =
      line depth (call_text (word_of_kind kind) (name_text name []) ++ codes "{")
      ++ statements_text (depth + 1) ts
      ++ line depth (codes "};")

  pub statements_text : ℕ → Trees → List ℕ
  statements_text depth none = []
  statements_text depth (more t ts) = statement_text depth t ++ statements_text depth ts

-- the line of the curve, where one is named
abbrev pub curve_text : Option Name → List ℕ
curve_text None = []
curve_text (Some file) = line 0 (call_text (codes "Curve") (quoted file) ++ codes ";")

-- the curve, and the top statements
abbrev pub model_text : Chronology → List ℕ
model_text chronology = curve_text chronology.curve ++ statements_text 0 chronology.top
