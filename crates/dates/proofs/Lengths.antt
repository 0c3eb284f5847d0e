-- No month has more than 31 days.
-- Assumes nothing.
use Rattle.std.proofs.Common.{ℕ, ◌≤◌, arith}
use Rattle.std.proofs.lemmas.Bool.Decides.{nat_tests}
use Rattle.dates.specs.Dates.{month_length}

pub month_length_most : (year month : ℕ) → month_length year month ≤ 31
month_length_most year month = grind (arith, nat_tests)
