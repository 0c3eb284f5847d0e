-- The calibration in a control byte.
-- Assumes nothing.
use Rattle.std.specs.Prelude.{ℕ, ◌/◌, ◌%◌, ◌==◌}
use Rattle.std.proofs.Common.{mod-lt, lit<}
use Rattle.seconds.specs.declared.calibration.Calibration.{Calibration}

-- The sign S is bit 5, where 1 shortens, and the magnitude c is bits 4 to 0.
abbrev pub calibration_in : ℕ → Calibration
calibration_in control = record { shortens = (control / 32 % 2 == 1); magnitude = control % 32; small = mod-lt control (lit< tt) }
