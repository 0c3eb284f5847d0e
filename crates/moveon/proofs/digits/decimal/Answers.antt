-- A number that digits write, held at a limit while it is read. Assumes nothing.
use Rattle.std.proofs.Common.{◌≡◌, ℕ, ◌+◌, ◌-◌, ◌*◌, ◌^◌, min, fold, refl, ap, ◌∙◌, arith, rules}
use Rattle.std.proofs.lemmas.Bool.Decides.{nat_tests}
use Rattle.std.proofs.lemmas.List.Folds.{fold_along}
use Rattle.std.proofs.lemmas.Grind.{common_steps}
use Rattle.moveon.specs.Digits.{decimal}
use Rattle.moveon.proofs.digits.decimal.Goals as goal

-- one digit more: past the limit the number stays past it
one_digit_more : (held number digit : ℕ) → min held (2 ^ 32) ≡ min number (2 ^ 32) → min (10 * min held (2 ^ 32) + digit) (2 ^ 32) ≡ min (10 * number + digit) (2 ^ 32)
one_digit_more held number digit e = grind (arith, nat_tests)

pub returns : goal.returns
returns c =
    let mirrored : c.fold-number.result ≡ fold (λ n b. 10 * min n (2 ^ 32) + (b - 48)) 0 c.args.text.now = search rules in
    let same : min c.fold-number.result (2 ^ 32) ≡ min (decimal c.args.text.now) (2 ^ 32) =
    ap (λ n. min n (2 ^ 32)) mirrored
    ∙ fold_along _ _ (λ held number. min held (2 ^ 32) ≡ min number (2 ^ 32)) (λ held number b. one_digit_more held number (b - 48)) 0 0 c.args.text.now refl in
    c.ok.ensures.value ∙ grind (arith, common_steps, nat_tests, same, c.try_from.ensures)
