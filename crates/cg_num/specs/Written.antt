-- How a decimal number is written: no needless zeros, and no point for a whole number. chron's own.
use Rattle.std.specs.Prelude.{◌≡◌, ℕ, ◌+◌, ◌/◌, ◌%◌, ◌==◌, ◌≤◌, List, [], ◌∷◌, ◌++◌, length, take, decimal, Ok, ℤ, pos, int_lt, unsigned_abs, if◌then◌else◌}
use Rattle.std.specs.Fmt.{sign_text}
use Rattle.cg_num.specs.Decimal.{IsDecimal, decimal_of}

-- how much is written of a point and three decimals: to the last decimal that isn't 0
abbrev pub fraction_len : ℕ → ℕ
fraction_len thousandths =
    if thousandths == 0 then 0
    else (if thousandths % 100 == 0 then 2
    else (if thousandths % 10 == 0 then 3
    else 4))

-- a point and three decimals, for thousandths below 1,000
abbrev pub point_and_three : ℕ → List ℕ
point_and_three thousandths = 46 ∷ (48 + thousandths / 100) ∷ (48 + thousandths / 10 % 10) ∷ (48 + thousandths % 10) ∷ []

-- what is written behind the whole part
abbrev pub fraction_text : ℕ → List ℕ
fraction_text thousandths = take (fraction_len thousandths) (point_and_three thousandths)

-- a minus before a negative number, the whole part, and the rest behind a point
unfoldable pub decimal_text : ℤ → List ℕ
decimal_text number =
    let magnitude = unsigned_abs number in
    sign_text (int_lt number (pos 0)) ++ (decimal (magnitude / 1000) ++ fraction_text (magnitude % 1000))

-- what is written is read again
abbrev pub WrittenIsRead : Type 0
WrittenIsRead = (number : ℤ) → IsDecimal number → decimal_of (decimal_text number) ≡ Ok number

-- no shorter text is read as the number: neither a zero nor a point is needless
abbrev pub ShortestIsWritten : Type 0
ShortestIsWritten = (text : List ℕ) (number : ℤ) → decimal_of text ≡ Ok number → length (decimal_text number) ≤ length text
