-- A pair more is read.
-- Assumes nothing.
use Rattle.std.proofs.Common.{rules}
use Rattle.both_ends.proofs.Pairs.{onto_pair}
use Rattle.both_ends.proofs.arguments.stores_in.Goals as goal

pub loop-rest-preserved : goal.loop-rest-preserved
loop-rest-preserved c = search (rules, onto_pair)
