-- What the arguments ask for.
-- Assumes nothing.
use Rattle.std.specs.Prelude.{◌≡◌, ℕ, ◌^◌, ◌<◌, if◌then◌else◌, List, [], ◌∷◌, Some, None, Ok, Err, vec_items, Option, Result, Vec, nat_lt}
use Rattle.std.specs.Str.Parse.{IsNumeral, digits_value}
use Rattle.std.specs.declared.alloc.Global.{Global}
use Rattle.both_ends.specs.declared.arguments.PairFault.{PairFault}
use Rattle.both_ends.specs.declared.arguments.PairFault.TheVariants.{NoByte, TooLarge, NoRoom}
use Rattle.both_ends.specs.declared.stores.Store.{Store}

-- one hex digit or more, and a number of at most 64 bits
abbrev pub Hex : List ℕ → Type 0
Hex text = IsNumeral 16 text × (digits_value 16 text < 2 ^ 64)

-- the number that a text writes, or none where it is not such a text
abbrev pub Written : List ℕ → Option ℕ → Type 0
Written text (Some n) = Hex text × (n ≡ digits_value 16 text)
Written text None = Hex text → ⊥

abbrev pub before : Store → Result (List Store) PairFault → Result (List Store) PairFault
before store (Ok stores) = Ok (store ∷ stores)
before store (Err fault) = Err fault

-- an address and a byte, again and again
abbrev pub stores_in : List ℕ → Result (List Store) PairFault
stores_in [] = Ok []
stores_in (address ∷ []) = Err (NoByte address)
stores_in (address ∷ number ∷ numbers) =
    if nat_lt number 256 then before (record { address = address; byte = number }) (stores_in numbers) else Err (TooLarge number)

-- The answer is the one due, unless there is no room for it.
abbrev pub Read : Result (List Store) PairFault → Result (Vec Store Global) PairFault → Type 0
Read due (Ok stores) = due ≡ Ok (vec_items stores)
Read due (Err (NoByte address)) = due ≡ Err (NoByte address)
Read due (Err (TooLarge number)) = due ≡ Err (TooLarge number)
Read due (Err NoRoom) = Unit {0}
