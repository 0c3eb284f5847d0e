-- The byte of the hour, and in its hours those of the minute and the second.
-- Assumes nothing.
use Rattle.std.proofs.Common.{rules}
use Rattle.calendar.specs.Earliest.{in_hour}
use Rattle.calendar.proofs.alarm.Alarm.first_in_day.Goals as goal

pub first_parted-requires-clause-finds : goal.first_parted-requires-clause-finds
first_parted-requires-clause-finds c = (in_hour c.args.self.now.bytes, λ from h r p. search rules)

pub returns : goal.returns
returns c =
    let found = c.first_parted.ensures (in_hour c.args.self.now.bytes) (λ from h r p. search rules) in
    rw c.by_location.ensures at found
