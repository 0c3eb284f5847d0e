-- Dates of a calendar with two digits of the year: the lengths of months, the dates that exist, the date that follows.
-- Assumes nothing.
use Rattle.std.specs.Prelude.{ℕ, ◌+◌, ◌%◌, ◌<◌, ◌≤◌, if◌then◌else◌, ◌||◌, ◌==◌, nat_lt}

pub record Date : Type 0 where
  pub date : ℕ
  pub month : ℕ
  pub year : ℕ

-- February has 29 days when 4 divides the year, 00 included; April, June, September and November have 30.
abbrev pub month_length : ℕ → ℕ → ℕ
month_length year month =
    if month == 2 then (if year % 4 == 0 then 29 else 28)
    else (if month == 4 || (month == 6 || (month == 9 || month == 11)) then 30 else 31)

abbrev pub Between : ℕ → ℕ → ℕ → Type 0
Between low high n = (low ≤ n) × (n ≤ high)

-- The dates that exist.
abbrev pub Dated : Date → Type 0
Dated d = Between 1 (month_length d.year d.month) d.date × (Between 1 12 d.month × (d.year < 100))

-- The date that follows; after 31 December 99 comes 1 January 00.
abbrev pub date_after : Date → Date
date_after d =
    if nat_lt d.date (month_length d.year d.month) then record { date = d.date + 1; month = d.month; year = d.year }
    else (if nat_lt d.month 12 then record { date = 1; month = d.month + 1; year = d.year }
    else (if nat_lt d.year 99 then record { date = 1; month = 1; year = d.year + 1 }
    else record { date = 1; month = 1; year = 0 }))
