-- Stores that were read, and what comes of the numbers after them.
-- Assumes nothing.
use Rattle.std.proofs.Common.{◌≡◌, ℕ, ◌-◌, ◌<◌, List, [], ◌∷◌, ◌++◌, length, get_or, take, drop, Ok, Err, Result, sym, refl, ap, ◌∙◌, append_assoc, arith}
use Rattle.std.proofs.lemmas.Bool.{cond-true, lt-ltb}
use Rattle.std.proofs.lemmas.List.{take_all}
use Rattle.both_ends.specs.Arguments.{before, stores_in}
use Rattle.both_ends.specs.declared.arguments.PairFault.{PairFault}
use Rattle.both_ends.specs.declared.stores.Store.{Store}

-- what comes of the numbers to come, after these stores
abbrev pub onto : List Store → Result (List Store) PairFault → Result (List Store) PairFault
onto stores (Ok more) = Ok (stores ++ more)
onto stores (Err fault) = Err fault

onto_before : (stores : List Store) (s : Store) (r : Result (List Store) PairFault) → onto stores (before s r) ≡ onto (stores ++ s ∷ []) r
onto_before stores s (Ok more) = ap Ok (sym (append_assoc stores (s ∷ []) more))
onto_before stores s (Err fault) = refl

-- a pair is a store more; what is past it is written as the slice pattern in the code reads it
pub onto_pair : (stores : List Store) (rest : List ℕ) → 1 < length rest → get_or rest 1 0 < 256
    → onto stores (stores_in rest)
    ≡ onto (stores ++ record { address = get_or rest 0 0; byte = get_or rest 1 0 } ∷ []) (stores_in (take (length rest - 2) (drop 2 rest)))
onto_pair stores [] two small = absurd (omega arith)
onto_pair stores (a ∷ []) two small = absurd (omega arith)
onto_pair stores (a ∷ n ∷ more) two small =
    let whole : take (length (a ∷ n ∷ more) - 2) more ≡ more = take_all _ more (omega arith) in
    rw whole (ap (onto stores) (cond-true _ _ _ (lt-ltb _ _ small)) ∙ onto_before stores _ (stores_in more))
