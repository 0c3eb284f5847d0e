-- What holds of every run of units, in terms of seconds.
-- Assumes nothing.
use Rattle.std.specs.Prelude.{◌≡◌, ℕ, ◌+◌, ◌*◌, ◌%◌, ◌^◌, ◌<◌, ◌≤◌, if◌then◌else◌}
use Rattle.seconds.specs.Corrections.{corrected}
use Rattle.seconds.specs.Lengths.{length_at}
use Rattle.seconds.specs.Units.{Running, Run}
use Rattle.seconds.specs.declared.calibration.Calibration.{Calibration}
use Rattle.seconds.specs.declared.counts.Counts.{Counts}

-- Each unit is accounted for. What was gone of the first second and the units that went by are 32,768 units for each second
-- that ended, less 256 for each shortened and plus 128 for each lengthened one, and what is gone of the running second.
abbrev pub Accounted : ℕ → Running → Run → Type 0
Accounted units before after =
    before.gone + units + 256 * after.counts.shortened
    ≡ 32768 * after.counts.seconds + 128 * after.counts.lengthened + after.running.gone

-- No second is both shortened and lengthened, and none counts that did not end.
abbrev pub Parted : Counts → Type 0
Parted c = c.shortened + c.lengthened ≤ c.seconds

-- The counts fit 32 bits, up to four times the longest wait of a module.
abbrev pub Fits32Bits : ℕ → Counts → Type 0
Fits32Bits units c = units < 2 ^ 46 → (c.seconds < 2 ^ 32) × ((c.shortened < 2 ^ 32) × (c.lengthened < 2 ^ 32))

-- The running second is number n since a new cycle, counted from 0, and has the length that the calibration gives it.
pub record Numbered (k : Calibration) (n : ℕ) (r : Running) : Type 0 where
  pub index : r.index ≡ n % 3840
  pub length : r.length ≡ length_at k (n % 3840)

-- After n seconds of a calibration that stays as it is, a run goes on: as many of its seconds are corrected as the formula for
-- the first so many says, all of them the way of its sign, and the numbering goes on.
pub record CorrectedByFormula (k : Calibration) (n : ℕ) (after : Run) : Type 0 where
  pub formula : corrected k n + (after.counts.shortened + after.counts.lengthened) ≡ corrected k (n + after.counts.seconds)
  pub sign : (if k.shortens then after.counts.lengthened else after.counts.shortened) ≡ 0
  pub numbered : Numbered k (n + after.counts.seconds) after.running
