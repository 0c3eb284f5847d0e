-- Which seven locations are a date, which time they are, and how a time stands in the locations.
-- Assumes nothing.
use Rattle.std.specs.Prelude.{◌≡◌, ℕ, ◌-◌, true, false, if◌then◌else◌, List, [], ◌∷◌, Some, None, Ok, Err, Option, Result, nat_le, slice_index}
use Rattle.bcd.specs.Digits.{digits}
use Rattle.calendar.specs.Locations.{number, low, high, table, value, stands, joined}
use Rattle.calendar.specs.Of.{time_of}
use Rattle.calendar.specs.Time.{Time}
use Rattle.calendar.specs.declared.counters.Counters.{Counters}
use Rattle.calendar.specs.declared.fault.CalendarFault.{CalendarFault}
use Rattle.calendar.specs.declared.location.Location.{Location}
use Rattle.calendar.specs.declared.location.Location.TheVariants as at
use Rattle.dates.specs.Dates.{Date, Between, month_length}

-- What a location counts that holds this byte, or the fault at it.
abbrev pub Counts : Location → ℕ → Result ℕ CalendarFault → Type 0
Counts l byte (Ok n) = (stands l byte ≡ true) × ((n ≡ value l byte) × Between (low l) (high l) n)
Counts l byte (Err fault) = (stands l byte ≡ false) × (fault ≡ record { location = number l })

-- the byte of a location among the seven of registers 9 to 15
abbrev pub byte_at : List ℕ → Location → ℕ
byte_at bytes l = slice_index bytes (number l - 9)

-- the lowest of these locations that does not stand
abbrev pub lowest_fault : List Location → List ℕ → Option Location
lowest_fault [] bytes = None
lowest_fault (l ∷ ls) bytes = if stands l (byte_at bytes l) then lowest_fault ls bytes else Some l

-- the date in the locations 13 to 15
abbrev pub date_in : List ℕ → Date
date_in bytes = record {
  date = value at.Date (byte_at bytes at.Date);
  month = value at.Month (byte_at bytes at.Month);
  year = value at.Year (byte_at bytes at.Year);
}

-- the time in the locations 9 to 15
abbrev pub time_in : List ℕ → Time
time_in bytes = record {
  second = value at.Seconds (byte_at bytes at.Seconds);
  minute = value at.Minutes (byte_at bytes at.Minutes);
  hour = value at.Hours (byte_at bytes at.Hours);
  day = value at.Day (byte_at bytes at.Day);
  date = date_in bytes;
}

-- location 13 where the month lacks the date
abbrev pub lacking : Date → Option Location
lacking d = if nat_le d.date (month_length d.year d.month) then None else Some at.Date

abbrev pub or_else : Option Location → Option Location → Option Location
or_else (Some k) other = Some k
or_else None other = other

-- Why seven bytes are no date: the lowest location that does not stand, else that of the date where the month lacks it.
abbrev pub fault_in : List ℕ → Option Location
fault_in bytes = or_else (lowest_fault table bytes) (lacking (date_in bytes))

abbrev pub unless : Option Location → Time → Result Time CalendarFault
unless None t = Ok t
unless (Some l) t = Err (record { location = number l })

-- The time that seven bytes are, or the location at fault.
abbrev pub reading : List ℕ → Result Time CalendarFault
reading bytes = unless (fault_in bytes) (time_in bytes)

-- what was read, as a time
abbrev pub read_as : Result Counters CalendarFault → Result Time CalendarFault
read_as (Ok c) = Ok (time_of c)
read_as (Err fault) = Err fault

-- the seven bytes of a time, joined with the spare bits of seven bytes
abbrev pub locations_of : Time → List ℕ → List ℕ
locations_of t bytes =
    joined at.Seconds t.second (byte_at bytes at.Seconds) ∷ joined at.Minutes t.minute (byte_at bytes at.Minutes)
    ∷ joined at.Hours t.hour (byte_at bytes at.Hours) ∷ joined at.Day t.day (byte_at bytes at.Day)
    ∷ joined at.Date t.date.date (byte_at bytes at.Date) ∷ joined at.Month t.date.month (byte_at bytes at.Month)
    ∷ joined at.Year t.date.year (byte_at bytes at.Year) ∷ []

-- the seven bytes of a time, with no spare bit set
abbrev pub digits_of : Time → List ℕ
digits_of t =
    digits t.second ∷ digits t.minute ∷ digits t.hour ∷ digits t.day ∷ digits t.date.date ∷ digits t.date.month
    ∷ digits t.date.year ∷ []
