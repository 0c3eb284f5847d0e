-- Four bytes to a word leave nothing of it out.
-- Assumes nothing.
use Rattle.memory.proofs.Words.{known, determined}
use Rattle.memory.proofs.word_memory.words_known.Goals as goal

pub returns : goal.returns
returns c = record { known = known; determined = determined }
