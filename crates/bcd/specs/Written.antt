-- The number that a byte's digits write, where they are decimal.
-- Assumes nothing.
use Rattle.std.specs.Prelude.{◌≡◌, ℕ, ◌/◌, ◌%◌, ◌≤◌, Some, None, Option}
use Rattle.bcd.specs.Digits.{written}
use Rattle.bcd.specs.declared.TwoDigits.{TwoDigits}

-- both digits are at most 9
abbrev pub Decimal : ℕ → Type 0
Decimal byte = (byte / 16 ≤ 9) × (byte % 16 ≤ 9)

-- the number that two decimal digits write; none exactly where one of them is above 9
abbrev pub WrittenIn : ℕ → Option TwoDigits → Type 0
WrittenIn byte (Some two) = Decimal byte × (two.number ≡ written byte)
WrittenIn byte None = Decimal byte → ⊥
