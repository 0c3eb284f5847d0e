-- Each unit is accounted for, whatever lengths the seconds have.
-- Assumes nothing.
use Rattle.std.proofs.Common.{ℕ, zero, suc, ◌<◌, arith}
use Rattle.std.proofs.lemmas.Bool.Decides.{nat_tests}
use Rattle.steps.specs.Iterate.{iterate}
use Rattle.seconds.specs.Laws.{Accounted, Parted, Fits32Bits}
use Rattle.seconds.specs.Lengths.{units_of}
use Rattle.seconds.specs.Units.{Running, Run, unit, begun}
use Rattle.seconds.specs.declared.calibration.Calibration.{Calibration}

module _ (k : Calibration) (before : Running) where
  accounted_more : (units : ℕ) (r : Run) → Accounted units before r → Accounted (suc units) before (unit k r)
  unfolding unit
  accounted_more units r h = grind (arith, nat_tests)

  pub accounted : (units : ℕ) → Accounted units before (iterate (unit k) units (begun before))
  unfolding iterate
  accounted zero = omega arith
  accounted (suc units) = accounted_more units (iterate (unit k) units (begun before)) (accounted units)

  parted_more : (r : Run) → Parted r.counts → Parted (unit k r).counts
  unfolding unit
  parted_more r h = grind (arith, nat_tests)

  pub parted : (units : ℕ) → Parted (iterate (unit k) units (begun before)).counts
  unfolding iterate
  parted zero = omega arith
  parted (suc units) = parted_more (iterate (unit k) units (begun before)) (parted units)

pub fits : (units : ℕ) (before : Running) (after : Run) → before.gone < units_of before.length → Accounted units before after
    → Parted after.counts → Fits32Bits units after.counts
fits units before after within account parts = grind arith
