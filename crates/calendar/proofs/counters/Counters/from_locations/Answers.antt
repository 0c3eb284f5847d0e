-- Where each location stands and the month has the date, the digits are those of the counters.
-- Assumes nothing.
use Rattle.std.proofs.Common.{rules}
use Rattle.calendar.specs.Time.{Time}
use Rattle.calendar.proofs.Locations.{shows_again}
use Rattle.calendar.proofs.counters.Counters.from_locations.Goals as goal

pub returns : goal.returns
returns c =
    let s = c.in_ok-second.ensures in
    let n = c.in_ok-minute.ensures in
    let h = c.in_ok-hour.ensures in
    let w = c.in_ok-day.ensures in
    let d = c.in_ok-date.ensures in
    let m = c.in_ok-month.ensures in
    let y = c.in_ok-year.ensures in
    let t : Time = record {
      second = c.in_ok-second.second;
      minute = c.in_ok-minute.minute;
      hour = c.in_ok-hour.hour;
      day = c.in_ok-day.day;
      date = record { date = c.in_ok-date.date; month = c.in_ok-month.month; year = c.in_ok-year.year };
    } in
    record {
      is = search rules;
      again = shows_again t c.args.bytes.now (search rules) (search rules, (search rules, (search rules, (search rules, (search rules, (search rules, (search rules, tt)))))))
          (s.0, (n.0, (h.0, (w.0, (d.0, (m.0, (y.0, tt)))))))
          (λ i. record {
            second = s.1.0 i;
            minute = n.1.0 i;
            hour = h.1.0 i;
            day = w.1.0 i;
            date = record { date = d.1.0 i; month = m.1.0 i; year = y.1.0 i };
          });
    }
