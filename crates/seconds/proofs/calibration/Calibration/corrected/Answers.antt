-- The formula, and that it counts the seconds.
-- Assumes nothing.
use Rattle.std.proofs.Common.{◌≡◌, ◌+◌, ◌*◌, ◌/◌, ◌%◌, ap, ◌∙◌, arith}
use Rattle.seconds.specs.Corrections.{corrected}
use Rattle.seconds.proofs.Corrected.{corrected_over, corrected_counted}
use Rattle.seconds.proofs.calibration.Calibration.corrected.Goals as goal

pub returns : goal.returns
returns c =
    let k = c.args.self in
    let n = c.args.seconds in
    let whole : n / 3840 * 3840 + n % 3840 ≡ n = omega arith in
    let formula : _ ≡ corrected k n = grind (arith, corrected_over k (n / 3840) (n % 3840), ap (corrected k) whole) in
    record { is = formula; counted = formula ∙ corrected_counted k n }
