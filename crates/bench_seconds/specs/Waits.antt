-- What a wait from a new cycle on counts.
-- Assumes nothing.
use Rattle.std.specs.Prelude.{◌≡◌, ℕ, ◌+◌, ◌*◌}
use Rattle.seconds.specs.Calibrations.{calibration_in}
use Rattle.seconds.specs.Corrections.{corrected}
use Rattle.seconds.specs.Units.{Run, since_new_cycle}
use Rattle.bench_seconds.specs.declared.wait.Waited.{Waited}

-- The seconds that ended, and the units gone of the running one, under a control byte that stays as it is.
abbrev pub waited : ℕ → ℕ → Waited
waited control units =
    let run : Run = since_new_cycle (calibration_in control) units in
    record { counts = run.counts; remainder = run.running.gone }

-- The units are those of the seconds and the remainder, and as many seconds are corrected as the formula says.
pub record AddsUp (control units : ℕ) (w : Waited) : Type 0 where
  pub units_accounted :
      units + 256 * w.counts.shortened ≡ 32768 * w.counts.seconds + 128 * w.counts.lengthened + w.remainder
  pub corrected_by_formula : w.counts.shortened + w.counts.lengthened ≡ corrected (calibration_in control) w.counts.seconds
