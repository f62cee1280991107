-- The rows of a curve: what a line says, and which rows are a curve.
use Rattle.std.specs.Prelude.{◌≡◌, ℕ, ◌≤◌, List, [], ◌∷◌, length, map, All, Any, Option, Some, None, Result, Ok, Err, ℤ, pos, negsuc, ◌-ℤ◌, ◌<ℤ◌, ◌≤ℤ◌, int_rem, int_div, unsigned_abs, if◌then◌else◌}
use Rattle.std.specs.Ordering.{int_eq}
use Rattle.cg_num.specs.Decimal.{decimal_of}
use Rattle.cg_num.specs.declared.decimal.NumFault.{NumFault}
use Rattle.cg_meaning.specs.Curve.{Row, Curve}
use Rattle.cg_curve.specs.Lines.{fields}

-- the row of three numbers of thousandths, if the first of them is whole
abbrev pub whole_row : ℤ → ℤ → ℤ → Option Row
whole_row bp age sigma =
    if int_eq (int_rem bp (pos 1000)) (pos 0) then Some (record { year = int_div bp (pos 1000); age = age; sigma = sigma })
    else None

-- the same, if there are three
abbrev pub row_of_numbers : Result ℤ NumFault → Result ℤ NumFault → Result ℤ NumFault → Option Row
row_of_numbers (Ok bp) (Ok age) (Ok sigma) = whole_row bp age sigma
row_of_numbers (Err e) age sigma = None
row_of_numbers (Ok bp) (Err e) sigma = None
row_of_numbers (Ok bp) (Ok age) (Err e) = None

-- the row of the first three fields, if they are decimals and cal BP is whole; further fields aren't read
abbrev pub row_of_fields : List (List ℕ) → Option Row
row_of_fields [] = None
row_of_fields (bp ∷ []) = None
row_of_fields (bp ∷ age ∷ []) = None
row_of_fields (bp ∷ age ∷ sigma ∷ more) = row_of_numbers (decimal_of bp) (decimal_of age) (decimal_of sigma)

-- the row that a line says
unfoldable pub row_of : List ℕ → Option Row
row_of line = row_of_fields (fields line)

-- each line says its row
abbrev pub SayRows : List (ℕ × List ℕ) → List Row → Type 0
SayRows lines rows = map (λ line. row_of line.1) lines ≡ map (λ row. Some row) rows

-- an age within -10,000 to 70,000, and a sigma within 0 to 10,000
pub record IsRowInRange (row : Row) : Type 0 where
  pub age_low : negsuc 9999999 ≤ℤ row.age
  pub age_high : row.age ≤ℤ pos 70000000
  pub sigma_low : pos 0 ≤ℤ row.sigma
  pub sigma_high : row.sigma ≤ℤ pos 10000000

-- the relation holds of each row and the next
abbrev pub EachNext : (Row → Row → Type 0) → List Row → Type 0
EachNext Next [] = Unit {0}
EachNext Next (row ∷ []) = Unit {0}
EachNext Next (row ∷ next ∷ rows) = Next row next × EachNext Next (next ∷ rows)

-- the first row is the older one
abbrev pub IsOlder : Row → Row → Type 0
IsOlder row next = next.year <ℤ row.year

-- the first row is the younger one
abbrev pub IsYounger : Row → Row → Type 0
IsYounger row next = row.year <ℤ next.year

-- the rows are at most 1,000 years apart
abbrev pub IsNear : Row → Row → Type 0
IsNear row next = unsigned_abs (row.year -ℤ next.year) ≤ 1000

-- The rows are a curve, the oldest first: in range, in strict order, without a wide gap, and 2 to 20,000.
pub record IsCurve (rows : Curve) : Type 0 where
  pub in_range : All IsRowInRange rows
  pub order : EachNext IsOlder rows
  pub near : EachNext IsNear rows
  pub some : 2 ≤ length rows
  pub few : length rows ≤ 20000

-- the year lies within the rows: one is at it or older, and one at it or younger
abbrev pub Covers : Curve → ℤ → Type 0
Covers rows year = Any (λ row. year ≤ℤ row.year) rows × Any (λ row. row.year ≤ℤ year) rows
