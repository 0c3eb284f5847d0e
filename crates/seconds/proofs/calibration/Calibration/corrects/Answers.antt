-- The code tests what `corrects` tests.
-- Assumes nothing.
use Rattle.std.proofs.Common.{arith}
use Rattle.std.proofs.lemmas.Bool.Decides.{nat_tests}
use Rattle.seconds.specs.Corrections.{corrects}
use Rattle.seconds.proofs.calibration.Calibration.corrects.Goals as goal

pub returns-then-is_multiple_of : goal.returns-then-is_multiple_of
unfolding corrects
returns-then-is_multiple_of c = grind (arith, nat_tests)

pub returns-else-is_multiple_of : goal.returns-else-is_multiple_of
unfolding corrects
returns-else-is_multiple_of c = grind (arith, nat_tests)
