-- The day so many numbers on is the day so many days later.
-- Assumes nothing.
use Rattle.std.proofs.Common.{◌≡◌, ◌+◌, ◌%◌, sym, ap, ◌∙◌, arith}
use Rattle.dates.specs.Of.{date_of}
use Rattle.dates.specs.Numbering.{number, date_at}
use Rattle.dates.proofs.Days.{days_later}
use Rattle.dates.proofs.date.CalendarDate.later.Goals as goal

pub returns : goal.returns
returns c =
    let d = date_of c.args.self in
    let n = c.args.days in
    let here = c.number.ensures.is in
    let there : _ ≡ (number d + n) % 36525 = omega arith in
    c.at.ensures ∙ (ap date_at there ∙ sym (days_later d c.args.self.exists n))
