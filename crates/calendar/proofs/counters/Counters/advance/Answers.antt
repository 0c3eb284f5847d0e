-- The code computes the time at a second counted from midnight, which is that of as many single seconds.
-- Assumes nothing.
use Rattle.std.proofs.Common.{◌≡◌, ℕ, ◌+◌, ◌-◌, ◌/◌, ◌%◌, sym, ap, ◌∙◌, arith}
use Rattle.dates.specs.Dates.{date_after}
use Rattle.steps.specs.Iterate.{iterate}
use Rattle.calendar.specs.Moments.{second_of_day}
use Rattle.calendar.specs.Of.{time_of}
use Rattle.calendar.proofs.Moments.{advanced}
use Rattle.calendar.proofs.counters.Counters.advance.Goals as goal

pub returns : goal.returns
returns c =
    let t = time_of c.args.self.now in
    let s = second_of_day t + c.args.seconds in
    let now = c.second_of_day.ensures.is in
    let total : _ ≡ s = omega (arith, c.from.ensures, c.from-2.ensures, now) in
    let rest : _ ≡ s % 86400 = λ i. total i % c.from-day.ensures i in
    let days : _ ≡ s / 86400 = λ i. total i / c.from-day.ensures i in
    let second : _ ≡ s % 86400 % 3600 % 60 = ap (λ (r : ℕ). r % 3600 % 60) rest in
    let minute : _ ≡ s % 86400 % 3600 / 60 = ap (λ (r : ℕ). r % 3600 / 60) rest in
    let hour : _ ≡ s % 86400 / 3600 = ap (λ (r : ℕ). r / 3600) rest in
    let day : _ ≡ 1 + (t.day - 1 + s / 86400) % 7 = λ i. 1 + (c.from-3.ensures i - 1 + days i) % 7 in
    let date = c.later-self.ensures ∙ ap (λ (n : ℕ). iterate date_after n t.date) days in
    (λ i. record { second = second i; minute = minute i; hour = hour i; day = day i; date = date i })
    ∙ sym (advanced t c.args.self.now.exists c.args.seconds)
