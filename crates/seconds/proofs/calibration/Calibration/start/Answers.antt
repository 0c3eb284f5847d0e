-- Plain seconds and corrected ones make up the units to a second's start.
-- Assumes nothing.
use Rattle.std.proofs.Common.{arith}
use Rattle.seconds.proofs.Corrected.{corrected_within}
use Rattle.seconds.proofs.Starts.{start_by_length}
use Rattle.seconds.proofs.calibration.Calibration.start.Goals as goal

pub overflow_sub-index : goal.overflow_sub-index
overflow_sub-index c = omega (arith, corrected_within c.args.self c.args.index)

pub returns : goal.returns
returns c = cc (start_by_length c.args.self c.args.index)
