-- The latest second that can run does, or the one before.
-- Assumes nothing.
use Rattle.std.proofs.Common.{◌≡◌, ℕ, ◌+◌, ◌-◌, ◌/◌, ap, ◌∙◌, arith, rules}
use mir.Val.{bool_byte}
use Rattle.seconds.proofs.Places.{Runs, cycle_most, latest_most, this_one, not_first, one_before, runs_at}
use Rattle.seconds.proofs.calibration.Calibration.running_at.Goals.{After-from, After-from-2, Then-begun-within, Else-begun-within}
use Rattle.seconds.proofs.calibration.Calibration.running_at.Goals as goal

pub overflow_cast-latest : goal.overflow_cast-latest
overflow_cast-latest c =
    let few = ap (λ (w : ℕ). c.args.within / w) (c.from.ensures ∙ c.units.ensures) in
    let most = cycle_most c.args.self in
    search rules

latest : (c : After-from-2) → c.args.within / c.from.result + c.from-2.result ≡ c.args.within / 32768 + bool_byte c.args.self.shortens
latest c = cc

pub overflow_add-latest : goal.overflow_add-latest
overflow_add-latest c =
    let most = latest_most c.args.self c.args.within _ (latest (goal.at.overflow_add-latest c).After-from-2) c.requires in
    search rules

pub start-begun-requires : goal.start-begun-requires
start-begun-requires c = latest_most c.args.self c.args.within _ (latest c) c.requires

this : (c : Then-begun-within) → Runs c.args.self c.args.within (c.args.within / c.from.result + c.from-2.result)
this c = this_one c.args.self c.args.within _ (cc) c.requires (omega arith)

pub at-requires : goal.at-requires
at-requires c = let runs = this c in record { placed = runs.placed; within = omega (arith, runs.started, runs.running) }

pub overflow_sub-before : goal.overflow_sub-before
overflow_sub-before c = not_first c.args.self c.args.within _ (cc) c.requires (omega arith)

before : (c : Else-begun-within) → Runs c.args.self c.args.within (c.args.within / c.from.result + c.from-2.result - 1)
before c = one_before c.args.self c.args.within _ (cc) c.requires (omega arith)

pub start-requires : goal.start-requires
start-requires c = omega (arith, (before c).placed)

pub overflow_sub-within-else-begun-within : goal.overflow_sub-within-else-begun-within
overflow_sub-within-else-begun-within c =
    omega (arith, (before (goal.at.overflow_sub-within-else-begun-within c).Else-begun-within).started)

pub at-requires-else-begun-within : goal.at-requires-else-begun-within
at-requires-else-begun-within c =
    let runs = before (goal.at.at-requires-else-begun-within c).Else-begun-within in
    record { placed = runs.placed; within = omega (arith, runs.started, runs.running) }

pub returns-else-begun-within : goal.returns-else-begun-within
returns-else-begun-within c =
    runs_at c.args.self c.args.within _ _ _ (before (goal.at.returns-else-begun-within c).Else-begun-within) (omega arith) c.at-else-begun-within.ensures
