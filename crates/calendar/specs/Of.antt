-- The time that the counters hold.
-- Assumes nothing.
use Rattle.calendar.specs.Time.{Time}
use Rattle.calendar.specs.declared.counters.Counters.{Counters}
use Rattle.dates.specs.Of.{date_of}

abbrev pub time_of : Counters → Time
time_of c = record { second = c.second; minute = c.minute; hour = c.hour; day = c.day; date = date_of c.date }
