-- What all numbers ask for is what was read, and what those to come ask for.
-- Assumes nothing.
use Rattle.std.proofs.Common.{◌≡◌, length, vec_items}
use Rattle.both_ends.specs.Arguments.{stores_in}
use Rattle.both_ends.proofs.Pairs.{onto}
use Rattle.both_ends.proofs.arguments.stores_in.Given as goal

abbrev pub invariant-loop-rest : goal.invariant-loop-rest
invariant-loop-rest l = stores_in l.numbers ≡ onto (vec_items l.stores) (stores_in l.rest)

abbrev pub decreases-loop-rest : goal.decreases-loop-rest
decreases-loop-rest l = length l.rest
