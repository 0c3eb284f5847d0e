-- The units left of the running second, and those of the seconds that follow. All else follows from what the units lead to.
-- Assumes nothing.
use Rattle.std.proofs.Common.{◌≡◌, ℕ, ◌+◌, ◌-◌, ◌^◌, ◌<◌, ◌≤◌, sym, ap, ◌∙◌, subst, arith}
use Rattle.steps.specs.Iterate.{iterate}
use Rattle.seconds.specs.Corrections.{corrected}
use Rattle.seconds.specs.Laws.{Accounted, Parted, Fits32Bits, Numbered, CorrectedByFormula}
use Rattle.seconds.specs.Lengths.{units_of}
use Rattle.seconds.specs.Of.{running_of, run_of}
use Rattle.seconds.specs.Starts.{counts_of}
use Rattle.seconds.specs.Units.{Running, Run, and_one, unit, begun}
use Rattle.seconds.specs.declared.calibration.Calibration.{Calibration}
use Rattle.seconds.specs.declared.counts.Counts.{Counts}
use Rattle.seconds.proofs.Accounts.{accounted, parted, fits}
use Rattle.seconds.proofs.Corrected.{corrected_grows, corrected_apart}
use Rattle.seconds.proofs.Reaches.{goes, by_formula, past, leads_on}
use Rattle.seconds.proofs.divider.Divider.advance.Goals.{After-moment_after-moment, After-of}
use Rattle.seconds.proofs.divider.Divider.advance.Goals as goal

-- what holds of every run of units
record Held (k : Calibration) (units : ℕ) (before : Running) (after : Run) : Type 0 where
  accounted : Accounted units before after
  parted : Parted after.counts
  fits : Fits32Bits units after.counts
  corrected : (n : ℕ) → Numbered k n before → CorrectedByFormula k n after

held : (k : Calibration) (units : ℕ) (before : Running) (after : Run) → before.gone < units_of before.length
    → after ≡ iterate (unit k) units (begun before) → Held k units before after
held k units before after w e =
    subst (Held k units before) (sym e) (record {
      accounted = accounted k before units;
      parted = parted k before units;
      fits = fits units before (iterate (unit k) units (begun before)) w (accounted k before units) (parted k before units);
      corrected = λ n h. by_formula k n units before w h;
    })

pub returns-then-units-left : goal.returns-then-units-left
returns-then-units-left c =
    let before : Running = running_of c.args.self.now in
    let w = c.args.self.now.within in
    let runs = sym (goes c.args.calibration (begun before) c.args.units (omega arith)) in
    let h = held c.args.calibration c.args.units before _ w runs in
    record { runs = runs; accounted = h.accounted; parted = h.parted; fits = h.fits; corrected = h.corrected }

-- where the code finds that the units lead, in terms of the first second that follows
begins : (c : After-moment_after-moment) → c.args.self.now.index + 1 ≤ c.moment_after-moment.result.number
begins c = past c.args.calibration (c.args.self.now.index + 1) _ _ _ c.moment_after-moment.ensures

abbrev counted : After-moment_after-moment → Counts
counted c =
    let k = c.args.calibration in
    let first = c.args.self.now.index + 1 in
    let second = c.moment_after-moment.result.number in
    counts_of k (second - first) (corrected k second - corrected k first)

led : (c : After-moment_after-moment)
    → run_of c.moment_after-moment.result.running (and_one c.args.self.now.length (counted c)) ≡ iterate (unit c.args.calibration) c.args.units (begun (running_of c.args.self.now))
led c =
    let p = c.moment_after-moment in
    sym (leads_on c.args.calibration (running_of c.args.self.now) c.args.units c.from-left.result p.result.number (running_of p.result.running)
    (omega arith) (omega arith) (omega arith) p.ensures)

pub overflow_sub-seconds : goal.overflow_sub-seconds
overflow_sub-seconds c = omega (arith, begins (goal.at.overflow_sub-seconds c).After-moment_after-moment)

pub overflow_sub-corrected : goal.overflow_sub-corrected
overflow_sub-corrected c =
    let first = begins (goal.at.overflow_sub-corrected c).After-moment_after-moment in
    omega (arith, corrected_grows c.args.calibration _ _ first)

of : (c : After-of) → c.of.result ≡ counted (goal.at.and_one-requires c).After-moment_after-moment
of c = cc

pub and_one-requires : goal.and_one-requires
and_one-requires c =
    let k = c.args.calibration in
    let placed = (goal.at.and_one-requires c).After-moment_after-moment in
    let h = held k c.args.units (running_of c.args.self.now) _ c.args.self.now.within (led placed) in
    let apart = corrected_apart k _ _ (begins placed) in
    let parts : Parted c.of.result = subst Parted (sym (of c)) (grind arith) in
    let most : c.of.result.seconds < 2 ^ 63 = omega (arith, ap (λ (n : Counts). n.seconds) (of c), h.accounted, h.parted) in
    record { seconds = most; shortened = omega (arith, parts, most); lengthened = omega (arith, parts, most) }

pub returns : goal.returns
returns c =
    let placed = (goal.at.returns c).After-moment_after-moment in
    let counts : c.and_one.result ≡ and_one c.args.self.now.length (counted placed) =
    c.and_one.ensures ∙ ap (and_one c.args.self.now.length) (of (goal.at.returns c).After-of) in
    let runs = ap (run_of c.moment_after-moment.result.running) counts ∙ led placed in
    let h = held c.args.calibration c.args.units (running_of c.args.self.now) _ c.args.self.now.within runs in
    record { runs = runs; accounted = h.accounted; parted = h.parted; fits = h.fits; corrected = h.corrected }
