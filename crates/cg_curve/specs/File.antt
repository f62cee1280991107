-- What a curve file says, and the first fault of bytes that are none. The form of IntCal20's .14c files.
use Rattle.std.specs.Prelude.{◌≡◌, ℕ, ◌<◌, ◌≤◌, ◌⊎◌, List, [], ◌∷◌, ◌++◌, length, All, Option, Some, None, reverse}
use Rattle.cg_meaning.specs.Curve.{Row, Curve}
use Rattle.cg_curve.specs.Lines.{data_lines}
use Rattle.cg_curve.specs.Rows.{row_of, SayRows, IsRowInRange, EachNext, IsOlder, IsYounger, IsNear, IsCurve}
use Rattle.cg_curve.specs.declared.fault.CurveFault.{CurveFault}
use Rattle.cg_curve.specs.declared.fault.CurveFault.TheVariants.{BadRow, OutOfRange, Order, Gap, TooMany, TooFew, NoMemory}

-- The bytes are a file of the curve: their lines with data say its rows, the oldest first or the youngest first.
pub record IsCurveFile (bytes : List ℕ) (curve : Curve) : Type 0 where
  pub is_curve : IsCurve curve
  pub rows : SayRows (data_lines bytes) curve ⊎ SayRows (data_lines bytes) (reverse curve)

-- the years strictly fall, or they strictly rise
abbrev pub AreInOrder : List Row → Type 0
AreInOrder rows = EachNext IsOlder rows ⊎ EachNext IsYounger rows

-- Rows in the order of a file with nothing wrong so far.
pub record AreGood (rows : List Row) : Type 0 where
  pub in_range : All IsRowInRange rows
  pub order : AreInOrder rows
  pub near : EachNext IsNear rows
  pub few : length rows ≤ 20000

-- the fact holds of the row that a line says
abbrev pub IfSaid : Option Row → (Row → Type 0) → Type 0
IfSaid None Fact = ⊥
IfSaid (Some row) Fact = Fact row

-- Good rows come before the line of this number, and what the line says after them has the cause.
pub record FailsAt (bytes : List ℕ) (number : ℕ) (Cause : List Row → Option Row → Type 0) : Type 0 where
  pub before : List (ℕ × List ℕ)
  pub line : List ℕ
  pub others : List (ℕ × List ℕ)
  pub rows : List Row
  pub parted : data_lines bytes ≡ before ++ (number, line) ∷ others
  pub said : SayRows before rows
  pub good : AreGood rows
  pub cause : Cause rows (row_of line)

-- The lines say good rows, but fewer than 2.
pub record SaysTooFew (bytes : List ℕ) : Type 0 where
  pub rows : List Row
  pub said : SayRows (data_lines bytes) rows
  pub good : AreGood rows
  pub too_few : length rows < 2

-- the line says no row
abbrev pub SaysNone : List Row → Option Row → Type 0
SaysNone rows said = said ≡ None

-- the row isn't in range
abbrev pub PassesRange : List Row → Option Row → Type 0
PassesRange rows said = IfSaid said (λ row. ¬ IsRowInRange row)

-- the row is in range, and not in the order of the rows before it
abbrev pub BreaksOrder : List Row → Option Row → Type 0
BreaksOrder rows said = IfSaid said (λ row. IsRowInRange row × (¬ AreInOrder (rows ++ row ∷ [])))

-- the row is in range and in order, and too far from the row before it
abbrev pub LeavesGap : List Row → Option Row → Type 0
LeavesGap rows said = IfSaid said (λ row. IsRowInRange row × AreInOrder (rows ++ row ∷ []) × (¬ EachNext IsNear (rows ++ row ∷ [])))

-- nothing is wrong with the row but that 20,000 come before it
abbrev pub IsTooMany : List Row → Option Row → Type 0
IsTooMany rows said =
    IfSaid said (λ row. IsRowInRange row × AreInOrder (rows ++ row ∷ []) × EachNext IsNear (rows ++ row ∷ []) × (20000 < length (rows ++ row ∷ [])))

-- the first line of the bytes that has a fault, and there the first cause that holds; want of memory is no fault of theirs
abbrev pub HasFault : List ℕ → CurveFault → Type 0
HasFault bytes (BadRow number) = FailsAt bytes number SaysNone
HasFault bytes (OutOfRange number) = FailsAt bytes number PassesRange
HasFault bytes (Order number) = FailsAt bytes number BreaksOrder
HasFault bytes (Gap number) = FailsAt bytes number LeavesGap
HasFault bytes (TooMany number) = FailsAt bytes number IsTooMany
HasFault bytes TooFew = SaysTooFew bytes
HasFault bytes NoMemory = ⊥

-- Bytes are a file of exactly one curve, or have exactly one fault.
pub record IsDecided (bytes : List ℕ) : Type 0 where
  pub one : ((curve : Curve) × IsCurveFile bytes curve) ⊎ ((fault : CurveFault) × HasFault bytes fault)
  pub not_both : (curve : Curve) (fault : CurveFault) → IsCurveFile bytes curve → ¬ HasFault bytes fault
  pub one_curve : (a b : Curve) → IsCurveFile bytes a → IsCurveFile bytes b → a ≡ b
  pub one_fault : (f g : CurveFault) → HasFault bytes f → HasFault bytes g → f ≡ g

-- each list of bytes is
abbrev pub EachIsDecided : Type 0
EachIsDecided = (bytes : List ℕ) → IsDecided bytes
