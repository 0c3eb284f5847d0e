-- The days are computed, the waits are proved.
-- Assumes nothing.
use Rattle.std.proofs.Common.{refl}
use Rattle.calendar.proofs.Waits.{longest_wait, no_such_date}
use Rattle.calendar.proofs.specimens.specimens_stand.Goals as goal

pub returns : goal.returns
returns c = record { leap_day = λ _. refl; century = λ _. refl; longest_wait = longest_wait; no_such_date = no_such_date }
