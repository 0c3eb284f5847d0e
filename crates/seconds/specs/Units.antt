-- What one unit does to the running second and to the counts.
-- Assumes nothing.
use Rattle.std.specs.Prelude.{ℕ, ◌+◌, ◌%◌, Bool, if◌then◌else◌, ◌==◌}
use Rattle.steps.specs.Iterate.{iterate}
use Rattle.seconds.specs.Lengths.{units_of, length_at}
use Rattle.seconds.specs.declared.calibration.Calibration.{Calibration}
use Rattle.seconds.specs.declared.counts.Counts.{Counts}
use Rattle.seconds.specs.declared.length.Length.{Length}
use Rattle.seconds.specs.declared.length.Length.TheVariants.{Shortened, Plain, Lengthened}

-- The running second: the units gone in it, its index in the cycle, and its length, which is fixed when it begins.
pub record Running : Type 0 where
  pub gone : ℕ
  pub index : ℕ
  pub length : Length

-- The running second, and the seconds that have ended so far.
pub record Run : Type 0 where
  pub running : Running
  pub counts : Counts

-- the second at an index of the cycle, as it begins
abbrev pub starting : Calibration → ℕ → Running
starting k index = record { gone = 0; index = index; length = length_at k index }

-- the index that follows: 3,839, then 0
abbrev pub index_after : ℕ → ℕ
index_after index = (index + 1) % 3840

-- the running second with n more units gone
abbrev pub further : ℕ → Running → Running
further n r = record { gone = r.gone + n; index = r.index; length = r.length }

-- the next unit is its last
abbrev pub ends : Running → Bool
ends r = r.gone + 1 == units_of r.length

abbrev pub none : Counts
none = record { seconds = 0; shortened = 0; lengthened = 0 }

abbrev pub if_shortened : Length → ℕ
if_shortened Shortened = 1
if_shortened Plain = 0
if_shortened Lengthened = 0

abbrev pub if_lengthened : Length → ℕ
if_lengthened Shortened = 0
if_lengthened Plain = 0
if_lengthened Lengthened = 1

-- one second more, of this length
abbrev pub and_one : Length → Counts → Counts
and_one l c = record { seconds = c.seconds + 1; shortened = c.shortened + if_shortened l; lengthened = c.lengthened + if_lengthened l }

-- The running second ends: it counts, and the next one begins.
abbrev pub next_second : Calibration → Run → Run
next_second k r = record { running = starting k (index_after r.running.index); counts = and_one r.running.length r.counts }

-- n more units go by inside the running second.
abbrev pub goes_on : ℕ → Run → Run
goes_on n r = record { running = further n r.running; counts = r.counts }

-- One unit, under the calibration in force.
unfoldable pub unit : Calibration → Run → Run
unit k r = if ends r.running then next_second k r else goes_on 1 r

-- Nothing has ended yet.
abbrev pub begun : Running → Run
begun r = record { running = r; counts = none }

-- So many units after a new cycle, under a calibration that stays as it is.
abbrev pub since_new_cycle : Calibration → ℕ → Run
since_new_cycle k units = iterate (unit k) units (begun (starting k 0))
