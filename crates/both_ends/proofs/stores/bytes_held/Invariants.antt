-- The bytes looked at so far are the first of the memory.
-- Assumes nothing.
use Rattle.std.proofs.Common.{◌≡◌, take, vec_items}
use Rattle.both_ends.proofs.stores.bytes_held.Given as goal

abbrev pub invariant-loop-address : goal.invariant-loop-address
invariant-loop-address g l = vec_items l.bytes ≡ take l.address (g.M.Memory.bytes l.memory)
