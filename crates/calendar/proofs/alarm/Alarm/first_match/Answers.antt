-- Day by day the silence grows, until a match is found or nothing can match any more.
-- Assumes nothing.
use Rattle.std.proofs.Common.{◌≡◌, ◌+◌, ◌*◌, sym, ap, ◌∙◌, subst, arith}
use Rattle.std.proofs.lemmas.Bool.{false≢true}
use Rattle.steps.specs.Iterate.{iterate}
use Rattle.steps.proofs.Laws.{iterate_none, iterate_more}
use Rattle.dates.specs.Dates.{Date, date_after}
use Rattle.calendar.specs.Moments.{second_of_day}
use Rattle.calendar.specs.Of.{time_of}
use Rattle.calendar.specs.Earliest.{Quiet}
use Rattle.calendar.specs.Time.{next}
use Rattle.calendar.proofs.Finds.{quiet_join}
use Rattle.calendar.proofs.Moments.{steps_exist}
use Rattle.calendar.proofs.Rings.{matches_at, day_quiet, first_found, silent_for_ever}
use Rattle.calendar.proofs.alarm.Alarm.first_match.Goals as goal

pub loop-day-init : goal.loop-day-init
loop-day-init c =
    let t = time_of c.args.counters.now in (
      (sym (iterate_none date_after t.date), omega arith),
      (omega arith, λ j l u _. absurd (omega arith)),
    )

pub loop-day-preserved : goal.loop-day-preserved
loop-day-preserved c =
    let alarm = c.args.self.now.bytes in
    let t = time_of c.args.counters.now in
    let n = c.loop-day.day in
    let from = c.loop-day.from in
    let inv = c.loop-day.invariant in
    let today = ap (λ (d : Date). d.date) (sym inv.0.0) in
    let over = day_quiet alarm t n c.loop-day.date.date from 86400 today (omega arith) c.in_default.ensures in
    let end : 86400 * n + 86400 ≡ 86400 * (n + 1) + 0 = omega arith in
    let quiet = quiet_join (matches_at alarm t) (second_of_day t + 1) (86400 * n + from) (86400 * n + 86400) inv.1.1 over in (
      (c.following-date.ensures ∙ (ap date_after inv.0.0 ∙ iterate_more date_after n t.date), omega arith),
      (omega arith, subst (Quiet (matches_at alarm t) (second_of_day t + 1)) end quiet),
    )

pub returns-in-Some : goal.returns-in-Some
returns-in-Some c =
    let alarm = c.args.self.now.bytes in
    let t = time_of c.args.counters.now in
    let n = c.loop-day.day in
    let inv = c.loop-day.invariant in
    let s = c.in-Some.second in
    let found = c.in-Some.ensures in
    first_found alarm t c.args.counters.now.exists n c.loop-day.date.date c.loop-day.from s
    _ (ap (λ (d : Date). d.date) (sym inv.0.0)) inv.1.0 inv.1.1 found
    (omega arith)

pub returns-then-not-can_match : goal.returns-then-not-can_match
returns-then-not-can_match c =
    let t = time_of c.args.counters.now in
    λ j h r. false≢true (c.if-not-can_match.ensures.all (iterate next j t, steps_exist t c.args.counters.now.exists j, r))

pub returns : goal.returns
returns c =
    silent_for_ever c.args.self.now.bytes (time_of c.args.counters.now) c.args.counters.now.exists
    (86400 * c.loop-day.day + c.loop-day.from) (omega arith) c.loop-day.invariant.1.1
