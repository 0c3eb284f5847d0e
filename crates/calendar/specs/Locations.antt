-- The seven clock locations, and the digits in them.
-- Assumes nothing.
use Rattle.std.specs.Prelude.{ℕ, ◌-◌, ◌/◌, ◌%◌, Bool, ◌&&◌, List, [], ◌∷◌, bit_and, bit_or, nat_le}
pub use Rattle.bcd.specs.Digits.{digits, written}
use Rattle.calendar.specs.declared.location.Location.{Location}
use Rattle.calendar.specs.declared.location.Location.TheVariants.{Seconds, Minutes, Hours, Day, Date, Month, Year}

-- A row of the table: the number of the register, the bits that hold its digits, the lowest and the highest number that it counts.
pub record Row : Type 0 where
  pub number : ℕ
  pub mask : ℕ
  pub low : ℕ
  pub high : ℕ

abbrev pub row : Location → Row
row Seconds = record { number = 9; mask = 127; low = 0; high = 59 }
row Minutes = record { number = 10; mask = 127; low = 0; high = 59 }
row Hours = record { number = 11; mask = 63; low = 0; high = 23 }
row Day = record { number = 12; mask = 7; low = 1; high = 7 }
row Date = record { number = 13; mask = 63; low = 1; high = 31 }
row Month = record { number = 14; mask = 31; low = 1; high = 12 }
row Year = record { number = 15; mask = 255; low = 0; high = 99 }

abbrev pub number : Location → ℕ
number l = (row l).number

abbrev pub mask : Location → ℕ
mask l = (row l).mask

abbrev pub low : Location → ℕ
low l = (row l).low

abbrev pub high : Location → ℕ
high l = (row l).high

-- all of them, the lowest register first
abbrev pub table : List Location
table = Seconds ∷ Minutes ∷ Hours ∷ Day ∷ Date ∷ Month ∷ Year ∷ []

-- the number in a location that holds this byte
abbrev pub value : Location → ℕ → ℕ
value l byte = written (bit_and byte (mask l))

-- Both digits are at most 9, and their number is in the location's range.
abbrev pub stands : Location → ℕ → Bool
stands l byte =
    (nat_le (bit_and byte (mask l) / 16) 9 && nat_le (bit_and byte (mask l) % 16) 9)
    && (nat_le (low l) (value l byte) && nat_le (value l byte) (high l))

-- the spare bits of a byte: those outside the mask
abbrev pub spare : Location → ℕ → ℕ
spare l byte = bit_and byte (255 - mask l)

-- the digits of a number, joined with the spare bits of a byte
abbrev pub joined : Location → ℕ → ℕ → ℕ
joined l n byte = bit_or (digits n) (spare l byte)
