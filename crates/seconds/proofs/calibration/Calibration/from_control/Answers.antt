-- Masks read the bits that division and remainder name.
-- Assumes nothing.
use Rattle.std.proofs.Common.{◌≡◌, ℕ, ◌<◌, Bool, ap, ◌∙◌, subst, arith}
use native.Mathlib.Bridge.{le_prop}
use lib.Bits.{and_mask, and_high}
use Rattle.std.proofs.lemmas.Bool.Decides.{nat_tests}
use Rattle.seconds.specs.declared.calibration.Calibration.{Calibration}
use Rattle.seconds.proofs.calibration.Calibration.from_control.Goals as goal

-- calibrations are the same where sign and magnitude are
same : (s t : Bool) (m n : ℕ) (p : m < 32) (q : n < 32) → s ≡ t → m ≡ n
    → ◌≡◌ {A = Calibration} (record { shortens = s; magnitude = m; small = p }) (record { shortens = t; magnitude = n; small = q })
same s t m n p q e f =
    subst (λ (i : ℕ). (r : i < 32) → ◌≡◌ {A = Calibration} (record { shortens = s; magnitude = m; small = p }) (record { shortens = t; magnitude = i; small = r })) f
    (λ r. ap (λ (b : Bool). record { shortens = b; magnitude = m; small = p }) e ∙ ap (λ (l : m < 32). record { shortens = t; magnitude = m; small = l }) (le_prop p r))
    q

pub returns : goal.returns
returns c =
    let control = c.args.control in
    same _ _ _ _ _ _ (grind (arith, nat_tests, and_high control 1 5)) (and_mask control 5)
