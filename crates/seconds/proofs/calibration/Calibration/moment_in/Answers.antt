-- Each whole cycle takes as many units as the first.
-- Assumes nothing.
use Rattle.std.proofs.Common.{◌≡◌, ℕ, ◌+◌, ◌*◌, ◌%◌, ap, ◌∙◌, subst, arith}
use Rattle.seconds.specs.Lengths.{length_at}
use Rattle.seconds.specs.Of.{running_of}
use Rattle.seconds.specs.Starts.{RunsAt, start}
use Rattle.seconds.proofs.Starts.{start_over}
use Rattle.seconds.proofs.calibration.Calibration.moment_in.Goals as goal

pub returns : goal.returns
returns c =
    let k = c.args.self in
    let cycles = c.args.cycles in
    let running = c.running_at-running.result in
    let runs = c.running_at-running.ensures in
    let number : cycles * 3840 + running.index ≡ cycles * c.from.result + c.from-2.result = cc in
    let place : running.index % 3840 ≡ (cycles * 3840 + running.index) % 3840 = omega arith in
    subst (λ (n : ℕ). RunsAt k (cycles * start k 3840 + c.args.within) n (running_of running)) number (record {
      numbered = record { index = runs.numbered.index ∙ place; length = runs.numbered.length ∙ ap (length_at k) place };
      within = runs.within;
      exact = omega (arith, runs.exact, start_over k cycles running.index);
    })
