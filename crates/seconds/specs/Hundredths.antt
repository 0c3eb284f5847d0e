-- The hundredths of the running second.
-- Assumes nothing.
use Rattle.std.specs.Prelude.{ℕ, ◌*◌, ◌/◌, if◌then◌else◌, ◌==◌}

-- the hundredths in so many units of a plain second
abbrev pub hundredths_in : ℕ → ℕ
hundredths_in gone = gone * 100 / 32768

-- A lengthened second has more units than a hundred hundredths: the last ones show 99 still.
abbrev pub hundredths : ℕ → ℕ
hundredths gone = if hundredths_in gone == 100 then 99 else hundredths_in gone
