-- The divider's own laws, at a new cycle.
-- Assumes nothing.
use Rattle.std.proofs.Common.{◌≡◌, ap, arith}
use Rattle.seconds.specs.Calibrations.{calibration_in}
use Rattle.seconds.specs.Laws.{Numbered}
use Rattle.seconds.specs.Of.{running_of, run_of}
use Rattle.seconds.specs.Units.{Running, Run, since_new_cycle}
use Rattle.seconds.specs.declared.calibration.Calibration.{Calibration}
use Rattle.seconds.proofs.Corrected.{corrected_none}
use Rattle.bench_seconds.specs.declared.wait.Waited.{Waited}
use Rattle.bench_seconds.proofs.wait.wait.Goals as goal

abbrev shown : Run → Waited
shown run = record { counts = run.counts; remainder = run.running.gone }

pub returns : goal.returns
returns c =
    let k : Calibration = c.from_control-calibration.result in
    let start = c.begin-divider.ensures in
    let after = c.advance-counts.ensures in
    let runs : run_of c.advance-counts.new.self c.advance-counts.result ≡ since_new_cycle (calibration_in c.args.control) c.args.units =
    cc after.runs in
    let numbered : Numbered k 0 (running_of c.begin-divider.result) =
    record { index = ap (λ (r : Running). r.index) start; length = ap (λ (r : Running). r.length) start } in
    let formula = (after.corrected 0 numbered).formula in
    record {
      is = ap shown runs;
      adds_up = record {
        units_accounted = omega (arith, after.accounted, ap (λ (r : Running). r.gone) start);
        corrected_by_formula = grind (arith, formula, corrected_none k, c.from_control-calibration.ensures);
      };
    }
