-- Their bytes and the words past those that count are all there is to know of the words.
-- Assumes nothing.
use Rattle.std.proofs.Common.{is_ok, arith, rules}
use Rattle.memory.specs.Words.{bytes_of}
use Rattle.memory.proofs.Words.{known}
use Rattle.both_ends.specs.Stores.{all_or_none}
use Rattle.both_ends.proofs.ends.store_in_words.Goals as goal

pub returns-clause-words : goal.returns-clause-words
returns-clause-words c =
    let words = c.args.words.now in
    let bytes = all_or_none (is_ok c.store_all.result) (bytes_of words) c.args.stores.now in
    known _ words bytes (λ i. omega (arith, c.type_inv.words i)) (search rules) (search rules)
