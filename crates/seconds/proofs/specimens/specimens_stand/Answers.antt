-- Each example names the second that the units lead into; the rest is computed.
-- Assumes nothing.
use Rattle.std.proofs.Common.{◌≡◌, ℕ, ◌+◌, ◌-◌, cond, refl, ap, arith}
use Rattle.seconds.specs.Calibrations.{calibration_in}
use Rattle.seconds.specs.Corrections.{corrects, corrected}
use Rattle.seconds.specs.Hundredths.{hundredths}
use Rattle.seconds.specs.Lengths.{units_of, length_at}
use Rattle.seconds.specs.Specimens.{ShortenedSecond, LengthenedSecond, CycleTakes, ShortestCycle, LongestCycle}
use Rattle.seconds.specs.Starts.{start}
use Rattle.seconds.specs.Units.{Run, none}
use Rattle.seconds.specs.declared.calibration.Calibration.{Calibration}
use Rattle.seconds.specs.declared.counts.Counts.{Counts}
use Rattle.seconds.specs.declared.length.Length.TheVariants.{Plain}
use Rattle.seconds.proofs.Reaches.{leads}
use Rattle.seconds.proofs.Starts.{start_none, start_accounted, runs_into}
use Rattle.seconds.proofs.specimens.specimens_stand.Goals as goal

shortened_second : ShortenedSecond
unfolding corrects corrected start
shortened_second =
    let k = calibration_in 33 in (
      ap (λ (r : Run). r.counts) (leads k 0 32511 0 _ (runs_into k _ 0 32511 (omega arith) refl) none),
      ap (λ (r : Run). r.counts) (leads k 0 32512 1 _ (runs_into k _ 1 0 (omega arith) refl) none),
    )

lengthened_second : LengthenedSecond
unfolding corrects corrected start
lengthened_second =
    let k = calibration_in 1 in
    let last = leads k 0 32895 0 _ (runs_into k _ 0 32895 (omega arith) refl) none in (
      ap (λ (r : Run). r.counts) last,
      ap (λ (r : Run). hundredths r.running.gone) last,
      ap (λ (r : Run). r.counts) (leads k 0 32896 1 _ (runs_into k _ 1 0 (omega arith) refl) none),
    )

-- the counts after n seconds of a new cycle
abbrev counts_after : Calibration → ℕ → Counts
counts_after k n =
    record { seconds = n; shortened = cond k.shortens (corrected k n - corrected k 0) 0 + 0; lengthened = cond k.shortens 0 (corrected k n - corrected k 0) + 0 }

cycle_takes : (control units : ℕ) → length_at (calibration_in control) 3839 ≡ Plain → start (calibration_in control) 3839 + 32768 ≡ units
    → start (calibration_in control) 3840 ≡ units
    → CycleTakes control units (counts_after (calibration_in control) 3839) (counts_after (calibration_in control) 3840)
cycle_takes control units plain last all =
    let k = calibration_in control in (
      ap (λ (r : Run). r.counts)
          (leads k 0 (units - 1) 3839 _ (runs_into k _ 3839 32767 (omega (arith, ap units_of plain)) (omega (arith, start_none k))) none),
      leads k 0 units 3840 _ (runs_into k _ 3840 0 (grind arith) (omega (arith, start_none k))) none,
    )

shortest_cycle : ShortestCycle
unfolding corrects corrected
shortest_cycle =
    let k = calibration_in 63 in
    cycle_takes 63 125813248 refl (omega (arith, start_accounted k 3839)) (omega (arith, start_accounted k 3840))

longest_cycle : LongestCycle
unfolding corrects corrected
longest_cycle =
    let k = calibration_in 31 in
    cycle_takes 31 125837056 refl (omega (arith, start_accounted k 3839)) (omega (arith, start_accounted k 3840))

pub returns : goal.returns
returns c =
    record { shortened_second = shortened_second; lengthened_second = lengthened_second; shortest_cycle = shortest_cycle; longest_cycle = longest_cycle }
