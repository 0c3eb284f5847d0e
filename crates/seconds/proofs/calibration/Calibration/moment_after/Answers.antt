-- Division gives the whole cycles; what is left may pass the end of one more.
-- Assumes nothing.
use Rattle.std.proofs.Common.{◌+◌, arith}
use Rattle.seconds.proofs.Places.{cycle_least, cycle_most, few_cycles, rest_below}
use Rattle.seconds.proofs.calibration.Calibration.moment_after.Goals as goal

pub nonzero_div-cycles : goal.nonzero_div-cycles
nonzero_div-cycles c = omega (arith, cycle_least c.args.self)

pub nonzero_rem-within : goal.nonzero_rem-within
nonzero_rem-within c = omega (arith, cycle_least c.args.self)

pub overflow_add-within : goal.overflow_add-within
overflow_add-within c =
    omega (arith, rest_below c.args.self c.args.units _ c.start-cycle.ensures (c.args.ended.index + 1) (omega arith), cycle_most c.args.self)

pub moment_in-requires-clause-few : goal.moment_in-requires-clause-few
moment_in-requires-clause-few c = omega (arith, few_cycles c.args.self c.args.units _ c.start-cycle.ensures (omega arith))

pub overflow_add-cycles : goal.overflow_add-cycles
overflow_add-cycles c = omega (arith, few_cycles c.args.self c.args.units _ c.start-cycle.ensures (omega arith))

pub moment_in-requires-else-within-cycle-clause-few : goal.moment_in-requires-else-within-cycle-clause-few
moment_in-requires-else-within-cycle-clause-few c = omega (arith, few_cycles c.args.self c.args.units _ c.start-cycle.ensures (omega arith))

pub moment_in-requires-else-within-cycle-clause-inside : goal.moment_in-requires-else-within-cycle-clause-inside
moment_in-requires-else-within-cycle-clause-inside c =
    omega (arith, rest_below c.args.self c.args.units _ c.start-cycle.ensures (c.args.ended.index + 1) (omega arith))
