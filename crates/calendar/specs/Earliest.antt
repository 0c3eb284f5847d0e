-- The first match inside an hour, a day and a date: how the code finds the first of all.
-- Assumes nothing.
use Rattle.std.specs.Prelude.{◌≡◌, ℕ, ◌/◌, ◌%◌, ◌^◌, ◌<◌, ◌≤◌, Bool, true, ◌&&◌, List, Some, None, Option, ◌≢◌, slice_index}
use Rattle.calendar.specs.Alarm.{heard}
use Rattle.calendar.specs.declared.alarm.AlarmBytes.{AlarmBytes}
use Rattle.calendar.specs.declared.location.Location.TheVariants.{Seconds, Minutes, Hours, Date}

-- no number from `from` on and below `to` passes the test
abbrev pub Quiet : (ℕ → Bool) → ℕ → ℕ → Type 0
Quiet test from to = (j : ℕ) → from ≤ j → j < to → test j ≢ true

-- the first number from `from` on and below `limit` that passes the test, or none where none does
abbrev pub Earliest : (ℕ → Bool) → ℕ → ℕ → Option ℕ → Type 0
Earliest test from limit (Some n) = ((from ≤ n) × (n < limit)) × ((test n ≡ true) × Quiet test from n)
Earliest test from limit None = Quiet test from limit

-- what always answers with the first number below `limit`, from the number that it is asked on, that passes the test
abbrev pub FindsFirst : (ℕ → Option ℕ → Type 0) → (ℕ → Bool) → ℕ → Type 0
FindsFirst answers test limit = (from : ℕ) → from < 2 ^ 32 → (result : Option ℕ) → answers from result → Earliest test from limit result

-- an alarm's four bytes with their locations
abbrev pub alarm_bytes : List ℕ → AlarmBytes
alarm_bytes alarm = record {
  second = record { location = Seconds; byte = slice_index alarm 0 };
  minute = record { location = Minutes; byte = slice_index alarm 1 };
  hour = record { location = Hours; byte = slice_index alarm 2 };
  date = record { location = Date; byte = slice_index alarm 3 };
}

-- a test of a quotient and of a remainder
abbrev pub parted : ℕ → (ℕ → Bool) → (ℕ → Bool) → ℕ → Bool
parted width outer inner n = outer (n / width) && inner (n % width)

-- minute and second are heard at a second of an hour
abbrev pub in_hour : List ℕ → ℕ → Bool
in_hour alarm = parted 60 (heard Minutes (slice_index alarm 1)) (heard Seconds (slice_index alarm 0))

-- hour, minute and second are heard at a second of a day
abbrev pub in_day : List ℕ → ℕ → Bool
in_day alarm = parted 3600 (heard Hours (slice_index alarm 2)) (in_hour alarm)

-- so they are on a day of that date
abbrev pub on_date : List ℕ → ℕ → ℕ → Bool
on_date alarm d second = heard Date (slice_index alarm 3) d && in_day alarm second
