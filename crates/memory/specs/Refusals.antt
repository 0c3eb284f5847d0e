-- The number of each refusal.
-- Assumes nothing.
use Rattle.std.specs.Prelude.{ℕ}
use Rattle.memory.specs.declared.fault.MemoryFault.{MemoryFault}
use Rattle.memory.specs.declared.fault.MemoryFault.TheVariants.{NoSuchAddress}

-- an address that the memory does not have
abbrev pub refusal : MemoryFault → ℕ
refusal NoSuchAddress = 2
