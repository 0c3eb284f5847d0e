-- The time at a second counted from the midnight before a time: how the code goes many seconds on.
-- That it is the time of as many single seconds is proved.
-- Assumes nothing.
use Rattle.std.specs.Prelude.{ℕ, ◌+◌, ◌-◌, ◌*◌, ◌/◌, ◌%◌}
use Rattle.calendar.specs.Time.{Time}
use Rattle.dates.specs.Dates.{date_after}
use Rattle.steps.specs.Iterate.{iterate}

abbrev pub second_of_day : Time → ℕ
second_of_day t = 3600 * t.hour + 60 * t.minute + t.second

-- this time of the day, n days after the day of t
abbrev pub on_day : Time → ℕ → ℕ → ℕ → ℕ → Time
on_day t n hour minute second =
    record { second = second; minute = minute; hour = hour; day = 1 + (t.day - 1 + n) % 7; date = iterate date_after n t.date }

-- the second r of a day
abbrev pub at_time : Time → ℕ → ℕ → Time
at_time t n r = on_day t n (r / 3600) (r % 3600 / 60) (r % 3600 % 60)

-- the second s, counted from the midnight before t
abbrev pub at_second : Time → ℕ → Time
at_second t s = at_time t (s / 86400) (s % 86400)
