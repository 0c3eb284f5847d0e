-- A byte is replaced by replacing it in its word, and the words that do not count are left.
-- Assumes nothing.
use Rattle.std.proofs.Common.{◌/◌, ap, rules}
use denote.Ref.{at_last}
use Rattle.std.proofs.lemmas.List.{drop-set-lt}
use Rattle.memory.proofs.Words.{in_words, counts, bytes_of-set}
use Rattle.memory.proofs.word_memory.WordMemoryMemory.store.Goals as goal

pub bounds-self-address : goal.bounds-self-address
bounds-self-address c = search (rules, in_words)

pub returns-clause-after : goal.returns-clause-after
returns-clause-after c = search (rules, bytes_of-set)

pub returns-clause-frame : goal.returns-clause-frame
returns-clause-frame c =
    let words = c.args.self.now.words in
    ap (at_last words) (drop-set-lt 131072 words.now (c.args.address / 4) _ (counts words.now c.args.address (search rules)))
