-- Days counted from 1 March 00 on, so that a leap day ends its year: how the code finds a date some days later.
-- That this count agrees with the date that follows is proved, day by day.
-- Assumes nothing.
use Rattle.std.specs.Prelude.{ℕ, ◌+◌, ◌-◌, ◌*◌, ◌/◌, ◌%◌, if◌then◌else◌, nat_lt}
use Rattle.dates.specs.Dates.{Date}

-- the days before the month m in a year that begins in March, March being 0
abbrev pub days_before : ℕ → ℕ
days_before m = (153 * m + 2) / 5

-- the day of a date, counted from 1 March 00 on: 0 to 36,524
unfoldable pub number : Date → ℕ
number d =
    if nat_lt d.month 3 then 1461 * ((d.year + 99) % 100) / 4 + days_before (d.month + 9) + (d.date - 1)
    else 1461 * d.year / 4 + days_before (d.month - 3) + (d.date - 1)

-- the date at a day of a year, and at a month of it, where years begin in March
abbrev pub date_in : ℕ → ℕ → ℕ → Date
date_in year day m =
    if nat_lt m 10 then record { date = day - days_before m + 1; month = m + 3; year = year }
    else record { date = day - days_before m + 1; month = m - 9; year = (year + 1) % 100 }

abbrev pub date_in_year : ℕ → ℕ → Date
date_in_year year day = date_in year day ((5 * day + 2) / 153)

-- the date of the day of that number
unfoldable pub date_at : ℕ → Date
date_at n = date_in_year ((4 * n + 3) / 1461) (n - 1461 * ((4 * n + 3) / 1461) / 4)
