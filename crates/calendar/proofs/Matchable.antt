-- Whether an alarm matches any time at all is decided byte by byte.
-- Assumes nothing.
use Rattle.std.proofs.Common.{◌≡◌, ℕ, ◌+◌, Bool, true, ◌&&◌, leb, List, get_or, sym, ◌∙◌, arith}
use Rattle.std.proofs.lemmas.Bool.{and_from, and_parts, le-leb, leb-true}
use Rattle.dates.specs.Dates.{Between}
use Rattle.dates.proofs.Lengths.{month_length_most}
use Rattle.calendar.specs.Alarm.{heard, hearable, matchable, Matchable}
use Rattle.calendar.specs.Locations.{low, high}
use Rattle.calendar.specs.Time.{Time, Exists}
use Rattle.calendar.specs.declared.location.Location.{Location}
use Rattle.calendar.specs.declared.location.Location.TheVariants.{Seconds, Minutes, Hours, Date}
use Rattle.calendar.proofs.Finds.{some_passes, passes_some}

hearable_from : (l : Location) (byte n : ℕ) → Between (low l) (high l) n → heard l byte n ≡ true → hearable l byte ≡ true
hearable_from l byte n range h =
    some_passes (λ m. leb (low l) m && heard l byte m) (high l + 1) n (omega arith)
    (and_from (leb (low l) n) (heard l byte n) (le-leb (low l) n range.0) h)

heard_from : (l : Location) (byte : ℕ) → hearable l byte ≡ true → (n : ℕ) × Between (low l) (high l) n × (heard l byte n ≡ true)
heard_from l byte h =
    let f = passes_some (λ m. leb (low l) m && heard l byte m) (high l + 1) h in
    let p = and_parts (leb (low l) f.0) (heard l byte f.0) f.2 in
    (f.0, (leb-true (low l) f.0 p.0, omega (arith, f.1)), p.1)

-- four tests that all pass
four_parts : (a b c d : Bool) → (a && (b && (c && d))) ≡ true → ((a ≡ true) × (b ≡ true)) × ((c ≡ true) × (d ≡ true))
four_parts a b c d t =
    let p = and_parts a (b && (c && d)) t in
    let q = and_parts b (c && d) p.1 in
    ((p.0, q.0), and_parts c d q.1)

four_from : (a b c d : Bool) → a ≡ true → b ≡ true → c ≡ true → d ≡ true → (a && (b && (c && d))) ≡ true
four_from a b c d p q r s = and_from a (b && (c && d)) p (and_from b (c && d) q (and_from c d r s))

-- a time that matches has each of its numbers heard
pub some_match : (alarm : List ℕ) → Matchable alarm → matchable alarm ≡ true
some_match alarm m =
    let t = m.0 in
    let e : Exists t = m.1 in
    let most = month_length_most t.date.year t.date.month in
    let h =
    four_parts (heard Date (get_or alarm 3 0) t.date.date) (heard Hours (get_or alarm 2 0) t.hour) (heard Minutes (get_or alarm 1 0) t.minute)
    (heard Seconds (get_or alarm 0 0) t.second) m.2 in
    four_from (hearable Date (get_or alarm 3 0)) (hearable Hours (get_or alarm 2 0)) (hearable Minutes (get_or alarm 1 0)) (hearable Seconds (get_or alarm 0 0))
    (hearable_from Date (get_or alarm 3 0) t.date.date (omega arith, omega arith) h.0.0)
    (hearable_from Hours (get_or alarm 2 0) t.hour (omega arith, omega arith) h.0.1)
    (hearable_from Minutes (get_or alarm 1 0) t.minute (omega arith, omega arith) h.1.0)
    (hearable_from Seconds (get_or alarm 0 0) t.second (omega arith, omega arith) h.1.1)

-- and numbers that are heard make a time that matches, in the first January
pub match_some : (alarm : List ℕ) → matchable alarm ≡ true → Matchable alarm
match_some alarm m =
    let h = four_parts (hearable Date (get_or alarm 3 0)) (hearable Hours (get_or alarm 2 0)) (hearable Minutes (get_or alarm 1 0)) (hearable Seconds (get_or alarm 0 0)) m in
    let d = heard_from Date (get_or alarm 3 0) h.0.0 in
    let o = heard_from Hours (get_or alarm 2 0) h.0.1 in
    let n = heard_from Minutes (get_or alarm 1 0) h.1.0 in
    let s = heard_from Seconds (get_or alarm 0 0) h.1.1 in
    let t : Time = record { second = s.0; minute = n.0; hour = o.0; day = 1; date = record { date = d.0; month = 1; year = 0 } } in (
      t,
      (
        ((omega (arith, s.1.1), omega (arith, n.1.1)), (omega (arith, o.1.1), (omega arith, omega arith))),
        ((d.1.0, d.1.1), ((omega arith, omega arith), omega arith)),
      ),
      four_from (heard Date (get_or alarm 3 0) d.0) (heard Hours (get_or alarm 2 0) o.0) (heard Minutes (get_or alarm 1 0) n.0) (heard Seconds (get_or alarm 0 0) s.0)
          d.2 o.2 n.2 s.2,
    )

-- so whatever is that decision tells both ways whether a time matches
pub tells : (alarm : List ℕ) (decided : Bool) → decided ≡ matchable alarm → (decided ≡ true → Matchable alarm) × (Matchable alarm → decided ≡ true)
tells alarm decided is = (λ t. match_some alarm (sym is ∙ t), λ m. is ∙ some_match alarm m)
