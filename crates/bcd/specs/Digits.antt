-- Two decimal digits in a byte, four bits each, the tens above the ones.
-- Assumes nothing.
use Rattle.std.specs.Prelude.{ℕ, ◌+◌, ◌*◌, ◌/◌, ◌%◌}

-- the two decimal digits of a number
abbrev pub digits : ℕ → ℕ
digits n = 16 * (n / 10) + n % 10

-- the number that two digits write
abbrev pub written : ℕ → ℕ
written b = 10 * (b / 16) + b % 16
