-- A time of the clock, the times that exist, and the time one second on.
-- Assumes nothing.
use Rattle.std.specs.Prelude.{ℕ, ◌+◌, ◌<◌, if◌then◌else◌, nat_lt}
use Rattle.dates.specs.Dates.{Date, Dated, Between, date_after}

pub record Time : Type 0 where
  pub second : ℕ
  pub minute : ℕ
  pub hour : ℕ
  pub day : ℕ
  pub date : Date

-- Each part is in its range, and the month has that date.
abbrev pub Exists : Time → Type 0
Exists t = (((t.second < 60) × (t.minute < 60)) × ((t.hour < 24) × Between 1 7 t.day)) × Dated t.date

-- The day of the week that follows, whatever the date: 7, then 1.
abbrev pub day_after : ℕ → ℕ
day_after day = if nat_lt day 7 then day + 1 else 1

-- One second on.
abbrev pub next : Time → Time
next t =
    if nat_lt t.second 59 then record { second = t.second + 1; minute = t.minute; hour = t.hour; day = t.day; date = t.date }
    else (if nat_lt t.minute 59 then record { second = 0; minute = t.minute + 1; hour = t.hour; day = t.day; date = t.date }
    else (if nat_lt t.hour 23 then record { second = 0; minute = 0; hour = t.hour + 1; day = t.day; date = t.date }
    else record { second = 0; minute = 0; hour = 0; day = day_after t.day; date = date_after t.date }))
