-- The loop stands at a second of the day that it has come to, and no second before it matches.
-- Assumes nothing.
use Rattle.std.proofs.Common.{◌≡◌, ◌+◌, ◌*◌, ◌≤◌}
use Rattle.dates.specs.Dates.{date_after}
use Rattle.dates.specs.Of.{date_of}
use Rattle.steps.specs.Iterate.{iterate}
use Rattle.calendar.specs.Moments.{second_of_day}
use Rattle.calendar.specs.Of.{time_of}
use Rattle.calendar.specs.Earliest.{Quiet}
use Rattle.calendar.proofs.Rings.{matches_at}
use Rattle.calendar.proofs.alarm.Alarm.first_match.Given as goal

abbrev pub invariant-loop-day : goal.invariant-loop-day
invariant-loop-day l =
    ((date_of l.date ≡ iterate date_after l.day (date_of l.counters.date)) × (l.from ≤ 86400))
    × ((second_of_day (time_of l.counters) + 1 ≤ 86400 * l.day + l.from)
    × Quiet (matches_at l.self.bytes (time_of l.counters)) (second_of_day (time_of l.counters) + 1) (86400 * l.day + l.from))
