-- The laws of which seconds are corrected, and how many: all that other proofs know of the rule.
-- Assumes nothing.
use Rattle.std.proofs.Common.{◌≡◌, ℕ, zero, suc, ◌+◌, ◌*◌, ◌/◌, ◌%◌, ◌<◌, ◌≤◌, min, add-mul, suc-mul, arith}
use Rattle.std.proofs.lemmas.Bool.Decides.{nat_tests}
use Rattle.seconds.specs.Corrections.{corrects, corrected, one_if, how_many, counted}
use Rattle.seconds.specs.declared.calibration.Calibration.{Calibration}

pub corrected_none : (k : Calibration) → corrected k 0 ≡ 0
unfolding corrected
corrected_none k = omega arith

pub corrected_next : (k : Calibration) (n : ℕ) → corrected k (suc n) ≡ corrected k n + one_if (corrects k (n % 3840))
unfolding corrected corrects
corrected_next k n =
    let small : k.magnitude < 32 = k.small in
    grind (arith, nat_tests, add-mul (n / 3840) 1 (2 * k.magnitude))

pub corrected_cycle : (k : Calibration) (n : ℕ) → corrected k (n + 3840) ≡ corrected k n + corrected k 3840
unfolding corrected
corrected_cycle k n = grind (arith, add-mul (n / 3840) 1 (2 * k.magnitude))

-- a cycle has 2c corrected seconds
pub corrected_all : (k : Calibration) → corrected k 3840 ≡ 2 * k.magnitude
unfolding corrected
corrected_all k =
    let small : k.magnitude < 32 = k.small in
    omega arith

-- the code's way: whole cycles, and the seconds of one
pub corrected_over : (k : Calibration) (cycles index : ℕ) → corrected k (cycles * 3840 + index) ≡ cycles * (2 * k.magnitude) + corrected k index
corrected_over k zero index = grind arith
corrected_over k (suc cycles) index =
    grind (arith, corrected_cycle k (cycles * 3840 + index), corrected_over k cycles index, corrected_all k, suc-mul cycles (2 * k.magnitude))

-- within a cycle the formula has no whole cycles to count
pub corrected_before : (k : Calibration) (index : ℕ) → index ≤ 3840 → min (2 * k.magnitude) ((index + 59) / 60) ≡ corrected k index
unfolding corrected
corrected_before k index h =
    let small : k.magnitude < 32 = k.small in
    grind arith

pub corrected_most : (k : Calibration) (index : ℕ) → index ≤ 3840 → corrected k index ≤ 62
unfolding corrected
corrected_most k index h =
    let small : k.magnitude < 32 = k.small in
    grind arith

pub corrected_grows : (k : Calibration) (i j : ℕ) → i ≤ j → corrected k i ≤ corrected k j
corrected_grows k i zero h = grind arith
corrected_grows k i (suc j) h = grind (arith, corrected_next k j, corrected_grows k i j)

-- no more are corrected than there are
pub corrected_apart : (k : Calibration) (i j : ℕ) → i ≤ j → corrected k j + i ≤ corrected k i + j
corrected_apart k i zero h = grind arith
corrected_apart k i (suc j) h = grind (arith, corrected_next k j, corrected_apart k i j)

pub corrected_within : (k : Calibration) (n : ℕ) → corrected k n ≤ n
corrected_within k n = omega (arith, corrected_none k, corrected_apart k 0 n (omega arith))

-- the formula counts the seconds
pub corrected_counted : (k : Calibration) (n : ℕ) → corrected k n ≡ counted k n
unfolding how_many
corrected_counted k zero = corrected_none k
corrected_counted k (suc n) = cc (corrected_next k n, corrected_counted k n)
