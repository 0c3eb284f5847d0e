-- Digits and the numbers that they write.
-- Assumes nothing.
use mathlib.Core.Path.{◌≡◌}
use Prim.Native.Nat.{ℕ, ◌%◌, ◌≤◌}
use native.Mathlib.Omega.{arith}
use Rattle.bcd.specs.Digits.{digits, written}

-- the number that the digits of a number write is that number
pub written-digits : (n : ℕ) → written (digits n) ≡ n
written-digits n = omega arith

-- two digits, the lower at most 9, are the digits of the number that they write
pub digits-written : (d : ℕ) → d % 16 ≤ 9 → digits (written d) ≡ d
digits-written d h = omega arith
