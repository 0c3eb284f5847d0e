-- Four addresses to each word that counts.
-- Assumes nothing.
use Rattle.std.proofs.Common.{arith}
use Rattle.memory.proofs.Words.{length-bytes_of}
use Rattle.memory.proofs.word_memory.WordMemoryMemory.size.Goals as goal

pub returns : goal.returns
returns c = rw c.counted.ensures (omega (arith, length-bytes_of))
