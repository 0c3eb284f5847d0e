-- The number of each refusal.
-- Assumes nothing.
use Rattle.std.specs.Prelude.{ℕ}
use Rattle.calendar.specs.declared.fault.CalendarFault.{CalendarFault}

-- locations that are no date
abbrev pub refusal : CalendarFault → ℕ
refusal _ = 8
