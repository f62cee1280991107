-- Codes: what an evaluation computes, in bytes, without names. chron's own.
use Rattle.std.specs.Prelude.{ℕ, ◌+◌, ◌-◌, List, [], ◌∷◌, ◌++◌, codes, ℤ, pos, ◌+ℤ◌, unsigned_abs}
use Rattle.std.specs.Int.{w16, w32, to_be_bytes}
use Rattle.cg_meaning.specs.Tree.{Dating, Free, Exact, Normal, Carbon, Kind, Sequence, Phase, After, Before}
use Rattle.cg_meaning.specs.Tree.{Tree, Leaf, Boundary, Group, Trees, none, more}
use Rattle.cg_meaning.specs.Scene.{Grid, year_of}
use Rattle.cg_code.specs.Content.{Content, Row, Table, Marginal}

-- a number in two bytes, the high one first
abbrev pub in_two : ℕ → List ℕ
in_two number = to_be_bytes w16 number

-- a number in four bytes, the highest first
abbrev pub in_four : ℕ → List ℕ
in_four number = to_be_bytes w32 number

-- a year as its cal BP number + 1,000
abbrev pub year_bytes : ℤ → List ℕ
year_bytes year = in_two (unsigned_abs (year +ℤ pos 1000))

-- a radiocarbon age in thousandths of a year + 2,000,000
abbrev pub age_bytes : ℤ → List ℕ
age_bytes age = in_four (unsigned_abs (age +ℤ pos 2000000))

-- an error in thousandths of a year
abbrev pub error_bytes : ℤ → List ℕ
error_bytes error = in_four (unsigned_abs error)

-- the letter of a dating, and its values
abbrev pub dating_bytes : Dating → List ℕ
dating_bytes Free = codes "D"
dating_bytes (Exact year) = codes "X" ++ year_bytes year
dating_bytes (Normal year error) = codes "N" ++ (year_bytes year ++ error_bytes error)
dating_bytes (Carbon age error) = codes "C" ++ (age_bytes age ++ error_bytes error)

-- the letter of a group
abbrev pub kind_bytes : Kind → List ℕ
kind_bytes Sequence = codes "S"
kind_bytes Phase = codes "P"
kind_bytes After = codes "A"
kind_bytes Before = codes "F"

-- how many members there are, not counting what stands inside them
abbrev pub members_in : Trees → ℕ
members_in none = 0
members_in (more t ts) = 1 + members_in ts

-- a node without its name: a group by its letter, the number of its members, and they themselves
abbrev mutual
  pub tree_bytes : Tree → List ℕ
  tree_bytes (Leaf name dating) = dating_bytes dating
  tree_bytes (Boundary name) = codes "B"
  tree_bytes (Group kind name ts) = kind_bytes kind ++ (in_two (members_in ts) ++ trees_bytes ts)

  pub trees_bytes : Trees → List ℕ
  trees_bytes none = []
  trees_bytes (more t ts) = tree_bytes t ++ trees_bytes ts

-- the oldest and the youngest year of a grid
abbrev pub grid_bytes : Grid → List ℕ
grid_bytes grid = year_bytes grid.oldest ++ year_bytes (year_of grid (grid.cells - 1))

-- the letter of a kind of evaluation
abbrev pub letter_of : Content → List ℕ
letter_of (Row dating) = codes "R"
letter_of (Table tree) = codes "T"
letter_of (Marginal top event) = codes "M"

-- what it is of: the model of a marginal as one Phase, and the event's number
abbrev pub content_bytes : Content → List ℕ
content_bytes (Row dating) = dating_bytes dating
content_bytes (Table tree) = tree_bytes tree
content_bytes (Marginal top event) = tree_bytes (Group Phase [] top) ++ in_two event

-- the code of an evaluation on a grid, with the curve of this number, which is 0 for none
abbrev pub code_of : Content → Grid → ℕ → List ℕ
code_of content grid curve = letter_of content ++ (grid_bytes grid ++ (curve ∷ content_bytes content))
