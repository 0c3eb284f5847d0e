-- What digits stand for. Assumes nothing.
use Rattle.std.specs.Prelude.{ℕ, ◌+◌, ◌-◌, ◌*◌, ◌^◌, Bool, if◌then◌else◌, ◌&&◌, List, length, Some, None, Ok, Err, fold, Option, Result, ◌==◌, nat_le, nat_lt, slice_index}
use Rattle.std.specs.List.{list_all}
use Rattle.moveon.specs.declared.digits.CountFault.{CountFault}
use Rattle.moveon.specs.declared.digits.CountFault.TheVariants.{NotDecimal, TooLarge}

-- b is one of the characters from low to high
abbrev pub among : ℕ → ℕ → ℕ → Bool
among low high b = nat_le low b && nat_le b high

-- 0 to 9, A to F, a to f
abbrev pub hex_digit : ℕ → Option ℕ
hex_digit b =
    if among 48 57 b then Some (b - 48)
    else (if among 65 70 b then Some (b - 65 + 10)
    else (if among 97 102 b then Some (b - 97 + 10)
    else None))

abbrev pub pair : Option ℕ → Option ℕ → Option ℕ
pair (Some high) (Some low) = Some (16 * high + low)
pair (Some high) None = None
pair None low = None

-- two hex digits, the high one first
abbrev pub hex_byte : List ℕ → Option ℕ
hex_byte text = if length text == 2 then pair (hex_digit (slice_index text 0)) (hex_digit (slice_index text 1)) else None

abbrev pub all_decimal : List ℕ → Bool
all_decimal text = list_all (among 48 57) text

-- the number that decimal digits write, the highest first
abbrev pub decimal : List ℕ → ℕ
decimal text = fold (λ n b. 10 * n + (b - 48)) 0 text

-- a count of seconds has 32 bits
abbrev pub count_in : List ℕ → Result ℕ CountFault
count_in text =
    if all_decimal text then (if nat_lt (decimal text) (2 ^ 32) then Ok (decimal text) else Err TooLarge)
    else Err NotDecimal
