-- Which seconds a calibration corrects, and how many: the one page that knows the rule. Proofs go by its laws, which stand in
-- `proofs/Corrected.antt`; only the code of the rule and the worked examples are held against its text.
-- Assumes nothing.
use Rattle.std.specs.Prelude.{ℕ, zero, suc, ◌+◌, ◌*◌, ◌/◌, ◌%◌, min, Bool, true, false, ◌&&◌, ◌==◌, nat_lt}
use Rattle.seconds.specs.declared.calibration.Calibration.{Calibration}

-- Whether the second at this index of the cycle is corrected: the first second of each of the first 2c minutes.
unfoldable pub corrects : Calibration → ℕ → Bool
corrects k index = index % 60 == 0 && nat_lt (index / 60) (2 * k.magnitude)

-- How many of the first n seconds after a new cycle are corrected, while the calibration stays as it is.
unfoldable pub corrected : Calibration → ℕ → ℕ
corrected k n = n / 3840 * (2 * k.magnitude) + min (2 * k.magnitude) ((n % 3840 + 59) / 60)

abbrev pub one_if : Bool → ℕ
one_if true = 1
one_if false = 0

-- how many of the numbers below n pass a test
unfoldable pub how_many : (ℕ → Bool) → ℕ → ℕ
how_many test zero = 0
how_many test (suc n) = how_many test n + one_if (test n)

-- The same number, counted second by second, cycle after cycle.
abbrev pub counted : Calibration → ℕ → ℕ
counted k = how_many (λ second. corrects k (second % 3840))
