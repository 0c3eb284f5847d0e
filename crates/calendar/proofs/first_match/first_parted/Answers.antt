-- The quotient that is heard first has a remainder that passes, or else the next one that is heard has the first of all.
-- Assumes nothing.
use Rattle.std.proofs.Common.{◌≡◌, ◌+◌, ◌*◌, ◌/◌, ◌-◌, subst, sym, arith}
use Rattle.std.proofs.Math.Nat.{div-mul-le_self}
use Rattle.calendar.specs.Alarm.{heard}
use Rattle.calendar.specs.Earliest.{Quiet, Earliest, parted}
use Rattle.calendar.specs.Locations.{high}
use Rattle.calendar.proofs.Finds.{quiet_join}
use Rattle.calendar.proofs.Parted.{quiet_quotients, quiet_remainders, leads, later_quotient, found, goes_on}
use Rattle.calendar.proofs.first_match.first_parted.Goals as goal

pub returns-in_err-first : goal.returns-in_err-first
returns-in_err-first g c test finds =
    let w = c.args.width in
    let outer = heard c.args.outer.location c.args.outer.byte in
    let limit = high c.args.outer.location + 1 in
    let from = c.args.from in
    subst (Earliest (parted w outer test) from (limit * w)) (sym c.from_residual.ensures)
    (quiet_quotients w (omega arith) outer test (from / w) limit from (div-mul-le_self from w) c.in_err-first.ensures)

pub returns-in-Some : goal.returns-in-Some
returns-in-Some g c test finds =
    let w = c.args.width in
    let outer = heard c.args.outer.location c.args.outer.byte in
    let from = c.args.from in
    let f = c.in_ok-first.first in
    let rest = c.in-Some.rest in
    let h = c.in_ok-first.ensures in
    let start : _ ≡ from - f * w = c.saturating_sub-start.ensures in
    let s = finds c.saturating_sub-start.result (omega arith) _ c.in-Some.ensures in
    let here =
    quiet_remainders w (omega arith) outer test f (from - f * w) rest (omega (arith, s.0.1)) (subst (λ r. Quiet test r rest) start s.1.1) in
    found w (omega arith) outer test (high c.args.outer.location + 1) from f rest (omega (arith, start, s.0.0)) h.0.1 s.0.1 h.1.0 s.1.0
    (quiet_join (parted w outer test) from (f * w + (from - f * w)) (f * w + rest) (leads w (omega arith) outer test from f h.1.1) here)

pub returns-in_err-next : goal.returns-in_err-next
returns-in_err-next g c test finds =
    let w = c.args.width in
    let outer = heard c.args.outer.location c.args.outer.byte in
    let limit = high c.args.outer.location + 1 in
    let from = c.args.from in
    let f = c.in_ok-first.first in
    let h = c.in_ok-first.ensures in
    let none = finds c.saturating_sub-start.result (omega arith) _ c.in_default.ensures in
    subst (Earliest (parted w outer test) from (limit * w)) (sym c.from_residual-in_err-next.ensures)
    (goes_on w (omega arith) outer test from f limit h.1.1 (subst (λ r. Quiet test r w) c.saturating_sub-start.ensures none) c.in_err-next.ensures h.0.1)

pub returns : goal.returns
returns g c test finds =
    let w = c.args.width in
    let outer = heard c.args.outer.location c.args.outer.byte in
    let from = c.args.from in
    let f = c.in_ok-first.first in
    let next = c.in_ok-next.next in
    let rest = c.in_ok-rest.rest in
    let h = c.in_ok-first.ensures in
    let n = c.in_ok-next.ensures in
    let both = parted w outer test in
    let none = finds c.saturating_sub-start.result (omega arith) _ c.in_default.ensures in
    let s = finds 0 (omega arith) _ c.in_ok-rest.ensures in
    let before = goes_on w (omega arith) outer test from f next h.1.1 (subst (λ r. Quiet test r w) c.saturating_sub-start.ensures none) n.1.1 (omega (arith, n.0.0)) in
    let none_before : next * w + 0 ≡ next * w = omega arith in
    let here : Quiet both (next * w) (next * w + rest) =
    subst (λ m. Quiet both m (next * w + rest)) none_before (quiet_remainders w (omega arith) outer test next 0 rest (omega (arith, s.0.1)) s.1.1) in
    let below = later_quotient w (omega arith) outer test from f next h.0.0 (omega (arith, n.0.0)) in
    found w (omega arith) outer test (high c.args.outer.location + 1) from next rest (omega (arith, below, n.0.0)) n.0.1 s.0.1 n.1.0 s.1.0
    (quiet_join both from (next * w) (next * w + rest) before here)
