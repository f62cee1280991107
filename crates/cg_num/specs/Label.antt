-- How a year is printed.
use Rattle.std.specs.Prelude.{◌≡◌, ℕ, suc, ◌≤◌, List, ◌++◌, codes, decimal, ℤ, pos, negsuc, ◌-ℤ◌, int_le, if◌then◌else◌}
use Rattle.std.specs.Fmt.{signed_decimal}
use Rattle.cg_num.specs.Year.{bp_of_calendar}

-- the label of a cal BP year: AD to 1949 cal BP, and BC from 1950 cal BP on
abbrev pub label_of : ℤ → List ℕ
label_of bp =
    if int_le bp (pos 1949) then codes "AD " ++ signed_decimal (pos 1950 -ℤ bp)
    else signed_decimal (bp -ℤ pos 1949) ++ codes " BC"

-- each calendar year is printed as itself: n from 1 on as `AD n`, and -n as `n BC`
pub record LabelsNameTheirYears : Type 0 where
  pub ad : (n : ℕ) → 1 ≤ n → label_of (bp_of_calendar (pos n)) ≡ codes "AD " ++ decimal n
  pub bc : (n : ℕ) → label_of (bp_of_calendar (negsuc n)) ≡ decimal (suc n) ++ codes " BC"
