-- Within a cycle the formula has no whole cycles to count.
-- Assumes nothing.
use Rattle.std.proofs.Common.{arith}
use Rattle.seconds.proofs.Corrected.{corrected_before}
use Rattle.seconds.proofs.calibration.Calibration.corrected_before.Goals as goal

pub returns : goal.returns
returns c = omega (arith, corrected_before c.args.self c.args.index c.requires)
