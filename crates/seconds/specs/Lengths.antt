-- How many units a second has.
-- Assumes nothing.
use Rattle.std.specs.Prelude.{ℕ, if◌then◌else◌}
use Rattle.seconds.specs.Corrections.{corrects}
use Rattle.seconds.specs.declared.calibration.Calibration.{Calibration}
use Rattle.seconds.specs.declared.length.Length.{Length}
use Rattle.seconds.specs.declared.length.Length.TheVariants.{Shortened, Plain, Lengthened}

abbrev pub units_of : Length → ℕ
units_of Shortened = 32512
units_of Plain = 32768
units_of Lengthened = 32896

-- the length of a corrected second
abbrev pub correction : Calibration → Length
correction k = if k.shortens then Shortened else Lengthened

-- the length of the second at an index of the cycle, by the calibration in force as it begins
abbrev pub length_at : Calibration → ℕ → Length
length_at k index = if corrects k index then correction k else Plain
