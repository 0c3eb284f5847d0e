-- Worked examples of the divider, from a new cycle on under a control byte that stays as it is.
-- Assumes nothing.
use Rattle.std.specs.Prelude.{◌≡◌, ℕ, ◌-◌}
use Rattle.seconds.specs.Calibrations.{calibration_in}
use Rattle.seconds.specs.Hundredths.{hundredths}
use Rattle.seconds.specs.Units.{Run, starting, since_new_cycle}
use Rattle.seconds.specs.declared.counts.Counts.{Counts}

abbrev pub after : ℕ → ℕ → Run
after control units = since_new_cycle (calibration_in control) units

abbrev pub count : ℕ → ℕ → ℕ → Counts
count seconds shortened lengthened = record { seconds = seconds; shortened = shortened; lengthened = lengthened }

-- Control 21h: 32,511 units count none, 32,512 one shortened.
abbrev pub ShortenedSecond : Type 0
ShortenedSecond = ((after 33 32511).counts ≡ count 0 0 0) × ((after 33 32512).counts ≡ count 1 1 0)

-- Control 01h: 32,895 units count none and show 99 hundredths, 32,896 count one lengthened.
abbrev pub LengthenedSecond : Type 0
LengthenedSecond =
    ((after 1 32895).counts ≡ count 0 0 0) × (hundredths (after 1 32895).running.gone ≡ 99) × ((after 1 32896).counts ≡ count 1 0 1)

-- The seconds of a cycle take so many units: the last of them ends at that unit, where a new cycle begins.
abbrev pub CycleTakes : ℕ → ℕ → Counts → Counts → Type 0
CycleTakes control units before whole =
    ((after control (units - 1)).counts ≡ before)
    × (after control units ≡ record { running = starting (calibration_in control) 0; counts = whole })

-- With c 31 and S 1, control 3Fh, 3,840 seconds take 125,813,248 units.
abbrev pub ShortestCycle : Type 0
ShortestCycle = CycleTakes 63 125813248 (count 3839 62 0) (count 3840 62 0)

-- With c 31 and S 0, control 1Fh, they take 125,837,056.
abbrev pub LongestCycle : Type 0
LongestCycle = CycleTakes 31 125837056 (count 3839 0 62) (count 3840 0 62)
