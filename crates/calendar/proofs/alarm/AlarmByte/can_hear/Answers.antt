-- What is heard first from the lowest number on is there where any number is heard.
-- Assumes nothing.
use Rattle.std.proofs.Common.{◌+◌, ◌∙◌, subst}
use Rattle.calendar.specs.Alarm.{heard}
use Rattle.calendar.specs.Earliest.{Earliest}
use Rattle.calendar.specs.Locations.{low, high}
use Rattle.calendar.proofs.Finds.{finds_some}
use Rattle.calendar.proofs.alarm.AlarmByte.can_hear.Goals as goal

pub returns : goal.returns
returns c =
    let l = c.args.self.location in
    let hears = heard l c.args.self.byte in
    c.is_some.ensures
    ∙ finds_some hears (low l) (high l + 1) c.first_heard.result
    (subst (λ n. Earliest hears n (high l + 1) c.first_heard.result) (c.from.ensures ∙ c.low.ensures) c.first_heard.ensures)
