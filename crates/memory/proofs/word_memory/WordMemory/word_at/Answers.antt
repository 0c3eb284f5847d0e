-- An address is there where its word counts.
-- Assumes nothing.
use Rattle.std.proofs.Common.{◌≡◌, ◌/◌, ◌∙◌, rules}
use Rattle.memory.specs.Storage.{looked}
use Rattle.memory.specs.Words.{counted}
use Rattle.memory.proofs.Words.{word_there}
use Rattle.memory.proofs.word_memory.WordMemory.word_at.Goals as goal

pub returns : goal.returns
returns c =
    let ws = c.args.self.now.words.now in
    let e : c.ok_or.result ≡ looked (counted ws) (c.args.address / 4) = search rules in
    e ∙ word_there ws c.args.address
