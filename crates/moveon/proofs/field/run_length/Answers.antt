use Rattle.std.proofs.Common.{◌∙◌, rules}
use Rattle.std.proofs.lemmas.Iterator.{YieldsList-from_slice}
use Rattle.std.proofs.lemmas.Iterator.Consumers.{YieldsList-at, count_from_yields_List}
use Rattle.std.proofs.lemmas.Iterator.Search.{YieldsList-from_take_while}
use Rattle.std.proofs.lemmas.List.Folds.{length-prefix_len}
use Rattle.moveon.proofs.field.run_length.Goals as goal

pub returns-clause-is : goal.returns-clause-is
returns-clause-is g c = λ p computes.
    count_from_yields_List c.take_while.result c.count.result c.count.ensures.ran
    (YieldsList-from_take_while _ p (YieldsList-at c.take_while.ensures.source (YieldsList-from_slice c.args.bytes.now c.iter.ensures.rest)) c.take_while.ensures.closure c.take_while.ensures.done (λ x b q k. search (rules, computes)))
    ∙ length-prefix_len p c.args.bytes.now
