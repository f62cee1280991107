-- Decimal numbers: the thousandths that a text says, the first fault of a text that says none, and how a number is written. chron's own.
use Rattle.std.specs.Prelude.{ℕ, ◌+◌, ◌-◌, ◌*◌, Bool, ◌==◌, not, List, ◌++◌, length, take, drop, codes, fold, Option, Some, None, Result, Ok, Err, ℤ, pos, negsuc, neg_ℤ, ◌≤ℤ◌, nat_lt, if◌then◌else◌}
use Rattle.std.specs.List.{prefix_len, list_all}
use Rattle.cg_num.specs.Numeral.{Numeral, numeral_of}
use Rattle.cg_num.specs.declared.decimal.NumFault.{NumFault}
use Rattle.cg_num.specs.declared.decimal.NumFault.TheVariants.{NotANumber, TooWide, TooManyDecimals}

-- the numbers of thousandths that have at most twelve digits before the point
abbrev pub IsDecimal : ℤ → Type 0
IsDecimal number = (negsuc 999999999999998 ≤ℤ number) × (number ≤ℤ pos 999999999999999)

-- the byte is the digit 0
abbrev pub is_zero : ℕ → Bool
is_zero c = c == 48

-- the number that digits write
abbrev pub number_of : List ℕ → ℕ
number_of digits = fold (λ n c. n * 10 + (c - 48)) 0 digits

-- the first three decimals, those that aren't written being zeros
abbrev pub three_of : List ℕ → List ℕ
three_of decimals = take 3 (decimals ++ codes "000")

-- the number of a magnitude, with a minus or without
abbrev pub signed : Bool → ℕ → ℤ
signed negative magnitude = if negative then neg_ℤ (pos magnitude) else pos magnitude

-- the digits before the point from the first on that isn't a zero
abbrev pub significant : List ℕ → List ℕ
significant whole = drop (prefix_len is_zero whole) whole

-- the thousandths that a numeral says, or the first fault that holds
abbrev pub value_of : Numeral → Result ℤ NumFault
value_of numeral =
    if nat_lt 12 (length (significant numeral.whole)) then Err TooWide
    else (if not (list_all is_zero (drop 3 numeral.decimals)) then Err TooManyDecimals
    else Ok (signed numeral.negative (number_of (numeral.whole ++ three_of numeral.decimals))))

-- the same where there may be no numeral
abbrev pub value_if : Option Numeral → Result ℤ NumFault
value_if None = Err NotANumber
value_if (Some numeral) = value_of numeral

-- the thousandths that a text says, or the first fault that holds
unfoldable pub decimal_of : List ℕ → Result ℤ NumFault
decimal_of text = value_if (numeral_of text)
