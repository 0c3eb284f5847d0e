-- When each second begins, in units from a new cycle, and what many seconds count: how the code goes many units on.
-- That it comes to as many single units is proved.
-- Assumes nothing.
use Rattle.std.specs.Prelude.{◌≡◌, ℕ, zero, suc, ◌+◌, ◌%◌, ◌<◌, if◌then◌else◌}
use Rattle.seconds.specs.Laws.{Numbered}
use Rattle.seconds.specs.Lengths.{units_of, length_at}
use Rattle.seconds.specs.Units.{Running}
use Rattle.seconds.specs.declared.calibration.Calibration.{Calibration}
use Rattle.seconds.specs.declared.counts.Counts.{Counts}

-- the units from a new cycle to the start of second n, while the calibration stays as it is
unfoldable pub start : Calibration → ℕ → ℕ
start k zero = 0
start k (suc n) = start k n + units_of (length_at k (n % 3840))

-- So many units after a new cycle, second n runs, under a calibration that stays as it is.
pub record RunsAt (k : Calibration) (units n : ℕ) (r : Running) : Type 0 where
  pub numbered : Numbered k n r
  pub within : r.gone < units_of r.length
  pub exact : start k n + r.gone ≡ units

-- so many seconds of one calibration, of which so many are corrected, all of them the way of its sign
abbrev pub counts_of : Calibration → ℕ → ℕ → Counts
counts_of k seconds corrected =
    record {
      seconds = seconds;
      shortened = if k.shortens then corrected else 0;
      lengthened = if k.shortens then 0 else corrected;
    }
