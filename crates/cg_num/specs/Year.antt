-- Years as cal BP numbers, and as calendar years: AD years are positive, BC years negative, and there is no year 0.
use Rattle.std.specs.Prelude.{ℤ, pos, negsuc, ◌-ℤ◌, ◌≤ℤ◌, ◌≢◌}

-- the cal BP numbers that are years: -1,000 to 60,000
abbrev pub IsYear : ℤ → Type 0
IsYear number = (negsuc 999 ≤ℤ number) × (number ≤ℤ pos 60000)

-- the calendar years of the same span: 58,051 BC to 1 BC and AD 1 to AD 2950
abbrev pub IsCalendarYear : ℤ → Type 0
IsCalendarYear number = (number ≢ pos 0) × (negsuc 58050 ≤ℤ number) × (number ≤ℤ pos 2950)

-- the cal BP number of a calendar year: 0 cal BP is AD 1950, and 1 BC comes right before AD 1
abbrev pub bp_of_calendar : ℤ → ℤ
bp_of_calendar (pos n) = pos 1950 -ℤ pos n
bp_of_calendar (negsuc n) = pos 1949 -ℤ negsuc n
