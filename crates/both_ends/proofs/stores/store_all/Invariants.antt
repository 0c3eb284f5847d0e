-- The stores so far are answered, and those to come make of the bytes what all of them make of the first ones.
-- Assumes nothing.
use Rattle.std.proofs.Common.{◌≡◌, ◌≤◌, length, take, drop, vec_items, vec_len, vec_capacity}
use Rattle.both_ends.specs.Stores.{all_stored, answers}
use Rattle.both_ends.proofs.stores.store_all.Given as goal

abbrev pub invariant-loop-store : goal.invariant-loop-store
invariant-loop-store g l =
    let bytes = g.M.Memory.bytes in
    let frame = g.M.Memory.frame in
    record {
      answered : vec_items l.answers ≡ answers (bytes l.initial.memory) (take l.store-index l.stores);
      count : vec_len l.answers ≡ l.store-index;
      room : length l.stores ≤ vec_capacity l.answers;
      to_come : all_stored (bytes l.memory) (drop l.store-index l.stores) ≡ all_stored (bytes l.initial.memory) l.stores;
      same_size : length (bytes l.memory) ≡ length (bytes l.initial.memory);
      same_frame : frame l.memory ≡ frame l.initial.memory;
    }
