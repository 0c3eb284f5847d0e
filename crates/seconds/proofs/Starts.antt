-- When seconds begin: by their number alone, whichever of them are corrected.
-- Assumes nothing.
use Rattle.std.proofs.Common.{◌≡◌, ℕ, zero, suc, ◌+◌, ◌-◌, ◌*◌, ◌%◌, ◌<◌, ◌≤◌, cond, refl, ap, suc-mul, arith}
use Rattle.seconds.specs.Corrections.{corrected}
use Rattle.seconds.specs.Lengths.{units_of, correction, length_at}
use Rattle.seconds.specs.Starts.{RunsAt, start}
use Rattle.seconds.specs.Units.{Running, starting, further}
use Rattle.seconds.specs.declared.calibration.Calibration.{Calibration}
use Rattle.seconds.proofs.Corrected.{corrected_none, corrected_next, corrected_within, corrected_cycle}

pub start_none : (k : Calibration) → start k 0 ≡ 0
unfolding start
start_none k = refl

pub start_next : (k : Calibration) (n : ℕ) → start k (suc n) ≡ start k n + units_of (length_at k (n % 3840))
unfolding start
start_next k n = refl

pub start_grows : (k : Calibration) (i j : ℕ) → i ≤ j → start k i ≤ start k j
start_grows k i zero h = grind arith
start_grows k i (suc j) h = grind (arith, start_next k j, start_grows k i j)

-- The account of the units up to the start of second n.
pub start_accounted : (k : Calibration) (n : ℕ)
    → start k n + 256 * cond k.shortens (corrected k n) 0 ≡ 32768 * n + 128 * cond k.shortens 0 (corrected k n)
start_accounted k zero = grind (arith, start_none k, corrected_none k)
start_accounted k (suc n) = grind (arith, start_accounted k n, start_next k n, corrected_next k n)

-- The code's way: plain seconds, and corrected ones.
pub start_by_length : (k : Calibration) (n : ℕ) → start k n ≡ (n - corrected k n) * 32768 + corrected k n * units_of (correction k)
start_by_length k n = grind (arith, start_accounted k n, corrected_within k n)

pub start_cycle : (k : Calibration) (n : ℕ) → start k (n + 3840) ≡ start k n + start k 3840
start_cycle k n = grind (arith, start_accounted k n, start_accounted k 3840, start_accounted k (n + 3840), corrected_cycle k n)

pub start_over : (k : Calibration) (cycles index : ℕ) → start k (cycles * 3840 + index) ≡ cycles * start k 3840 + start k index
start_over k zero index = grind arith
start_over k (suc cycles) index =
    grind (arith, start_cycle k (cycles * 3840 + index), start_over k cycles index, suc-mul cycles (start k 3840))

-- At one moment one second runs, and as much of it is gone.
module _ (k : Calibration) (units i j : ℕ) (r s : Running) (one : RunsAt k units i r) (other : RunsAt k units j s) where
  pub same_number : i ≡ j
  same_number =
      grind (
        arith,
        ap units_of one.numbered.length,
        ap units_of other.numbered.length,
        start_next k i,
        start_next k j,
        start_grows k (suc i) j,
        start_grows k (suc j) i,
      )

  pub same_running : r ≡ s
  same_running =
      let same : i ≡ j = same_number in
      let gone : r.gone ≡ s.gone = omega (arith, ap (start k) same) in
      grind (arith, one.numbered.index, other.numbered.index, one.numbered.length, other.numbered.length)

-- so many units into second n
pub runs_into : (k : Calibration) (units n gone : ℕ) → gone < units_of (length_at k (n % 3840)) → start k n + gone ≡ units
    → RunsAt k units n (further gone (starting k (n % 3840)))
runs_into k units n gone within e = record { numbered = record { index = refl; length = refl }; within = omega arith; exact = omega arith }
