-- What a memory of these bytes answers, and which bytes it has after a store.
-- Assumes nothing.
use Rattle.std.specs.Prelude.{ℕ, if◌then◌else◌, List, length, Ok, Err, Result, nat_lt, slice_index, slice_set}
use Rattle.memory.specs.declared.fault.MemoryFault.{MemoryFault}
use Rattle.memory.specs.declared.fault.MemoryFault.TheVariants.{NoSuchAddress}

-- This answer at an address below the size; at the size and above there is no such address.
abbrev pub if_there : {X : Type 0} → List ℕ → ℕ → X → Result X MemoryFault
if_there bytes address answer = if nat_lt address (length bytes) then Ok answer else Err NoSuchAddress

-- A look answers the byte at the address.
abbrev pub looked : List ℕ → ℕ → Result ℕ MemoryFault
looked bytes address = if_there bytes address (slice_index bytes address)

-- A store answers that it is done.
abbrev pub store_answer : List ℕ → ℕ → Result (Unit {0}) MemoryFault
store_answer bytes address = if_there bytes address tt

-- The bytes after a store: the one at the address is replaced; where there is no such address, none is.
abbrev pub stored : List ℕ → ℕ → ℕ → List ℕ
stored bytes address byte = slice_set bytes address byte
