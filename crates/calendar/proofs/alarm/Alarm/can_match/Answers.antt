-- Byte by byte it is decided whether any time matches.
-- Assumes nothing.
use Rattle.std.proofs.Common.{◌≡◌, rules}
use Rattle.calendar.specs.Alarm.{matchable}
use Rattle.calendar.proofs.Matchable.{tells}
use Rattle.calendar.proofs.alarm.Alarm.can_match.Goals as goal

pub returns-then-can_hear-3 : goal.returns-then-can_hear-3
returns-then-can_hear-3 c =
    let is : _ ≡ matchable c.args.self.now.bytes = search rules in
    let t = tells c.args.self.now.bytes _ is in
    record { is = is; some = t.0; all = t.1 }

pub returns-else-can_hear-3 : goal.returns-else-can_hear-3
returns-else-can_hear-3 c =
    let is : _ ≡ matchable c.args.self.now.bytes = search rules in
    let t = tells c.args.self.now.bytes _ is in
    record { is = is; some = t.0; all = t.1 }
