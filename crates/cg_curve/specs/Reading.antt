-- How a curve file is read line by line, with the newest row first.
use Rattle.std.specs.Prelude.{◌≡◌, ℕ, reverse, Bool, true, false, ◌==◌, ◌&&◌, not, List, [], ◌∷◌, length, take, drop, nat_le, Option, Some, None, Result, Ok, Err, ℤ, pos, negsuc, ◌-ℤ◌, int_lt, unsigned_abs, if◌then◌else◌}
use Rattle.std.specs.List.{prefix_len}
use Rattle.std.specs.Ordering.{int_eq}
use Rattle.cg_num.specs.Decimal.{decimal_of}
use Rattle.cg_meaning.specs.Curve.{Row}
use Rattle.cg_curve.specs.Lines.{is_separator, is_skipped}
use Rattle.cg_curve.specs.Rows.{row_of_numbers, row_of}
use Rattle.cg_curve.specs.declared.fault.CurveFault.{CurveFault}
use Rattle.cg_curve.specs.declared.fault.CurveFault.TheVariants.{BadRow, OutOfRange, Order, Gap, TooMany, TooFew, NoMemory}

-- the byte isn't the end of a line
abbrev pub in_line : ℕ → Bool
in_line c = not (c == 10)

-- the byte belongs to a field
abbrev pub in_field : ℕ → Bool
in_field c = not (is_separator c)

-- the text from its first field on
abbrev pub from_field : List ℕ → List ℕ
from_field text = drop (prefix_len is_separator text) text

-- the first field of a text, and nothing where there is none
unfoldable pub first_field : List ℕ → List ℕ
first_field text = let from = from_field text in take (prefix_len in_field from) from

-- the text behind its first field
unfoldable pub after_field : List ℕ → List ℕ
after_field text = let from = from_field text in drop (prefix_len in_field from) from

-- the row of the first three fields
unfoldable pub first_row : List ℕ → Option Row
first_row line =
    let age = after_field line in let sigma = after_field age in
    row_of_numbers (decimal_of (first_field line)) (decimal_of (first_field age)) (decimal_of (first_field sigma))

-- whether age and sigma are in range
abbrev pub in_range : Row → Bool
in_range r =
    not (int_lt r.age (negsuc 9999999)) && (not (int_lt (pos 70000000) r.age) && (not (int_lt r.sigma (pos 0)) && not (int_lt (pos 10000000) r.sigma)))

-- whether a year goes on in the order of the rows
abbrev pub in_order : List Row → ℤ → Bool
in_order [] year = true
in_order (last ∷ []) year = not (int_eq year last.year)
in_order (last ∷ before ∷ rows) year = if int_lt last.year before.year then int_lt year last.year else int_lt last.year year

-- whether a year is at most 1,000 from the last
abbrev pub is_near : List Row → ℤ → Bool
is_near [] year = true
is_near (last ∷ rows) year = nat_le (unsigned_abs (last.year -ℤ year)) 1000

-- the rows with the one that a line says, or the first fault of that
abbrev pub with_row : ℕ → List Row → Option Row → Result (List Row) CurveFault
with_row number rows None = Err (BadRow number)
with_row number rows (Some row) =
    if not (in_range row) then Err (OutOfRange number)
    else (if not (in_order rows row.year) then Err (Order number)
    else (if not (is_near rows row.year) then Err (Gap number)
    else (if nat_le 20000 (length rows) then Err (TooMany number)
    else Ok (row ∷ rows))))

-- the rows with that of a line, if it holds data
abbrev pub with_line : ℕ → List Row → List ℕ → Result (List Row) CurveFault
with_line number rows line = if is_skipped line then Ok rows else with_row number rows (row_of line)

-- a call that may want memory answers this, and leaves these rows where it is Ok
abbrev pub GivesRows : Result (List Row) CurveFault → List Row → Result (Unit {0}) CurveFault → Type 0
GivesRows wanted rows (Ok done) = wanted ≡ Ok rows
GivesRows wanted rows (Err NoMemory) = Unit {0}
GivesRows wanted rows (Err (BadRow n)) = wanted ≡ Err (BadRow n)
GivesRows wanted rows (Err (OutOfRange n)) = wanted ≡ Err (OutOfRange n)
GivesRows wanted rows (Err (Order n)) = wanted ≡ Err (Order n)
GivesRows wanted rows (Err (Gap n)) = wanted ≡ Err (Gap n)
GivesRows wanted rows (Err (TooMany n)) = wanted ≡ Err (TooMany n)
GivesRows wanted rows (Err TooFew) = wanted ≡ Err TooFew

-- whether the second row is older than the first
abbrev pub do_rise : List Row → Bool
do_rise [] = false
do_rise (first ∷ []) = false
do_rise (first ∷ second ∷ rows) = int_lt first.year second.year

-- the rows of a file from the oldest to the youngest
abbrev pub oldest_first : List Row → List Row
oldest_first rows = if do_rise rows then reverse rows else rows
