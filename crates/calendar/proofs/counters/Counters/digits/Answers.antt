-- Bytes of zeros have no spare bit set.
-- Assumes nothing.
use lib.Bits.{or_zero_r}
use Rattle.calendar.proofs.counters.Counters.digits.Goals as goal

pub returns : goal.returns
returns c = record { is = let e = c.joined.ensures.is in simp (e, or_zero_r); back = c.joined.ensures.back }
