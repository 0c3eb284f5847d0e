-- Each location shows its counter, and what they show is read back.
-- Assumes nothing.
use Rattle.std.proofs.Common.{◌≡◌, ap, ◌∙◌, rules}
use Rattle.calendar.specs.Of.{time_of}
use Rattle.calendar.specs.Reading.{locations_of, reading}
use Rattle.calendar.proofs.Locations.{reads_back}
use Rattle.calendar.proofs.counters.Counters.joined.Goals as goal

pub returns : goal.returns
returns c =
    let t = time_of c.args.self.now in
    let is : _ ≡ locations_of t c.args.spare.now = search rules in
    record { is = is; back = ap reading is ∙ reads_back t c.args.self.now.exists c.args.spare.now }
