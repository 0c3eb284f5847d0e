-- The date that the counters of date, month and year hold.
-- Assumes nothing.
use Rattle.dates.specs.Dates.{Date}
use Rattle.dates.specs.declared.date.CalendarDate.{CalendarDate}

abbrev pub date_of : CalendarDate → Date
date_of d = record { date = d.date; month = d.month; year = d.year }
