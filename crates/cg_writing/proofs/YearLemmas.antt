-- Calendar years as numbers of thousandths: how they are written, and that each is a year of the grammar.
use Rattle.std.proofs.Common.{◌≡◌, ◌≢◌, suc, ◌+◌, ◌*◌, ◌/◌, ◌%◌, Bool, true, false, ◌∷◌, decimal, nat_lt, ℤ, pos, negsuc, neg_ℤ, ◌≤ℤ◌, ◌-ℤ◌, cond, int_le, int_eq, int_div, int_rem, refl, sym, ap, ◌∙◌, arith}
use Rattle.std.specs.Fmt.{signed_decimal}
use Rattle.std.proofs.lemmas.Int.{ints}
use Rattle.std.proofs.lemmas.Bool.{le-ltb, false_from_ne_true}
use Rattle.std.proofs.lemmas.Bool.Decides.{Decides-int_eq}
use Rattle.std.proofs.lemmas.List.{append-nil}
use Rattle.cg_num.specs.Decimal.{IsDecimal}
use Rattle.cg_num.specs.Year.{IsYear, IsCalendarYear, bp_of_calendar}
use Rattle.cg_num.specs.Written.{decimal_text}
use Rattle.cg_grammar.specs.Arguments.{is_calendar, is_year, year_in}
use Rattle.cg_writing.specs.Text.{calendar_of}

-- a test of whole numbers
pub le-true : (x y : ℤ) → x ≤ℤ y → int_le x y ≡ true
le-true x y h = grind (arith, ints)

-- the other way
true-le : (x y : ℤ) → int_le x y ≡ true → x ≤ℤ y
true-le x y h = grind (arith, ints)

-- and of their equality
pub eq-false : (x y : ℤ) → x ≢ y → int_eq x y ≡ false
eq-false x y h = false_from_ne_true (int_eq x y) (λ e. h ((Decides-int_eq x y).0 e))

-- AD years
bp-late : (year : ℤ) → pos 1 ≤ℤ year → bp_of_calendar year ≡ pos 1950 -ℤ year
bp-late (pos n) h = refl
bp-late (negsuc n) h = absurd (omega (arith, ints, h))

-- BC years
bp-early : (year : ℤ) → year ≤ℤ negsuc 0 → bp_of_calendar year ≡ pos 1949 -ℤ year
bp-early (pos n) h = absurd (omega (arith, ints, h))
bp-early (negsuc n) h = refl

-- each year has its calendar year, and comes back from it
pub calendar-back : (bp : ℤ) → IsYear bp → IsCalendarYear (calendar_of bp) × (bp_of_calendar (calendar_of bp) ≡ bp)
calendar-back bp h = by_test (int_le bp (pos 1949)) refl
  where
    by_test : (late : Bool) → int_le bp (pos 1949) ≡ late
        → IsCalendarYear (cond late (pos 1950 -ℤ bp) (pos 1949 -ℤ bp)) × (bp_of_calendar (cond late (pos 1950 -ℤ bp) (pos 1949 -ℤ bp)) ≡ bp)
    by_test true e =
        let some : pos 1 ≤ℤ (pos 1950 -ℤ bp) = omega (arith, ints, true-le bp (pos 1949) e) in
        (((λ z. absurd (omega (arith, ints, z, some))), omega (arith, ints, h.0), omega (arith, ints, h.0)), bp-late (pos 1950 -ℤ bp) some ∙ omega (arith, ints))
    by_test false e =
        let old : pos 1950 ≤ℤ bp = grind (arith, ints) in
        let none : (pos 1949 -ℤ bp) ≤ℤ negsuc 0 = omega (arith, ints, old) in
        (((λ z. absurd (omega (arith, ints, z, none))), omega (arith, ints, h.1), omega (arith, ints, old)), bp-early (pos 1949 -ℤ bp) none ∙ omega (arith, ints))

-- the thousandths of a whole number
abbrev pub thousandths_of : ℤ → ℤ
thousandths_of (pos n) = pos (n * 1000)
thousandths_of (negsuc n) = negsuc (n * 1000 + 999)

-- they are whole
thousandths-whole : (n : ℤ) → int_rem (thousandths_of n) (pos 1000) ≡ pos 0
thousandths-whole (pos n) = let none : n * 1000 % 1000 ≡ 0 = omega arith in ap pos none
thousandths-whole (negsuc n) = let none : suc (n * 1000 + 999) % 1000 ≡ 0 = omega arith in ap (λ m. neg_ℤ (pos m)) none

-- and the number comes back from them
thousandths-back : (n : ℤ) → int_div (thousandths_of n) (pos 1000) ≡ n
thousandths-back (pos n) = let same : n * 1000 / 1000 ≡ n = omega arith in ap pos same
thousandths-back (negsuc n) = let same : suc (n * 1000 + 999) / 1000 ≡ suc n = omega arith in ap (λ m. neg_ℤ (pos m)) same

-- a whole number is written without a point
pub whole-text : (n : ℤ) → signed_decimal n ≡ decimal_text (thousandths_of n)
unfolding decimal_text
whole-text (pos n) =
    let no : nat_lt (n * 1000) 0 ≡ false = le-ltb (n * 1000) 0 (omega arith) in
    let whole : n * 1000 / 1000 ≡ n = omega arith in
    let part : n * 1000 % 1000 ≡ 0 = omega arith in
    rw (no, whole, part) (sym (append-nil (decimal n)))
whole-text (negsuc n) =
    let whole : suc (n * 1000 + 999) / 1000 ≡ suc n = omega arith in
    let part : suc (n * 1000 + 999) % 1000 ≡ 0 = omega arith in
    rw (whole, part) (ap (λ ds. 45 ∷ ds) (sym (append-nil (decimal (suc n)))))

-- a calendar year in range is one of the grammar's
calendar-true : (year : ℤ) → IsCalendarYear year → is_calendar year ≡ true
calendar-true year h = rw (eq-false year (pos 0) h.0, le-true (negsuc 58050) year h.1, le-true year (pos 2950) h.2) refl

-- so are its thousandths
pub year-true : (year : ℤ) → IsCalendarYear year → is_year (thousandths_of year) ≡ true
year-true year h = rw (thousandths-whole year, thousandths-back year) (calendar-true year h)

-- from which the year comes back
pub year-back : (bp : ℤ) → IsYear bp → year_in (thousandths_of (calendar_of bp)) ≡ bp
year-back bp h = ap bp_of_calendar (thousandths-back (calendar_of bp)) ∙ (calendar-back bp h).1

-- they are a decimal
pub year-decimal : (year : ℤ) → IsCalendarYear year → IsDecimal (thousandths_of year)
year-decimal (pos n) h = (omega (arith, ints), omega (arith, ints, h.2))
year-decimal (negsuc n) h = (omega (arith, ints, h.1), omega (arith, ints))
