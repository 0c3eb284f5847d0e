-- The byte of the minute, and in its minutes the one of the second.
-- Assumes nothing.
use Rattle.std.proofs.Common.{rules, slice_index_or}
use Rattle.calendar.specs.Alarm.{heard}
use Rattle.calendar.specs.declared.location.Location.TheVariants.{Seconds}
use Rattle.calendar.proofs.alarm.Alarm.first_in_hour.Goals as goal

pub first_parted-requires-clause-finds : goal.first_parted-requires-clause-finds
first_parted-requires-clause-finds c = (heard Seconds (slice_index_or c.args.self.now.bytes 0 0), λ from h r p. search rules)

pub returns : goal.returns
returns c =
    let found = c.first_parted.ensures (heard Seconds (slice_index_or c.args.self.now.bytes 0 0)) (λ from h r p. search rules) in
    rw c.by_location.ensures at found
