-- The count of days and the dates agree: tests at every day of the hundred years, which antt computes.
-- Assumes nothing.
use Rattle.std.proofs.Common.{◌≡◌, ℕ, zero, suc, ◌+◌, ◌-◌, ◌%◌, ◌<◌, Bool, ◌&&◌, T, eqb, ltb, leb, sym, ap, ◌∙◌, subst, arith, eqb→eq, ltb→lt, leb→le}
use Rattle.steps.specs.Iterate.{iterate}
use Rattle.dates.specs.Dates.{Date, Dated, date_after, month_length}
use Rattle.dates.specs.Numbering.{number, date_at}
use Rattle.dates.proofs.Sweeps.{both_left, both_right, all_below, all_at}

same : Date → Date → Bool
same a b = eqb a.date b.date && (eqb a.month b.month && eqb a.year b.year)

same_is : (a b : Date) → T (same a b) → a ≡ b
unfolding same
same_is a b t =
    let r = both_right (eqb a.date b.date) (eqb a.month b.month && eqb a.year b.year) t in
    let p = eqb→eq a.date b.date (both_left (eqb a.date b.date) (eqb a.month b.month && eqb a.year b.year) t) in
    let q = eqb→eq a.month b.month (both_left (eqb a.month b.month) (eqb a.year b.year) r) in
    let s = eqb→eq a.year b.year (both_right (eqb a.month b.month) (eqb a.year b.year) r) in
    λ i. record { date = p i; month = q i; year = s i }

-- each day is followed by the next
follows : ℕ → Bool
follows n = same (date_after (date_at n)) (date_at ((n + 1) % 36525))

all_follow : T (all_below follows 36525)
unfolding all_below follows same date_at
all_follow = tt

pub date_at_next : (n : ℕ) → n < 36525 → date_after (date_at n) ≡ date_at ((n + 1) % 36525)
unfolding follows
date_at_next n h = same_is (date_after (date_at n)) (date_at ((n + 1) % 36525)) (all_at follows 36525 all_follow n h)

-- each of these days has a date that exists
dated : Date → Bool
dated d =
    (leb 1 d.date && leb d.date (month_length d.year d.month))
    && ((leb 1 d.month && leb d.month 12) && ltb d.year 100)

dated_is : (d : Date) → T (dated d) → Dated d
unfolding dated
dated_is d t =
    let a = leb 1 d.date in
    let b = leb d.date (month_length d.year d.month) in
    let p = leb 1 d.month in
    let q = leb d.month 12 in
    let y = ltb d.year 100 in
    let l = both_left (a && b) ((p && q) && y) t in
    let r = both_right (a && b) ((p && q) && y) t in
    let m = both_left (p && q) y r in (
      (leb→le 1 d.date (both_left a b l), leb→le d.date (month_length d.year d.month) (both_right a b l)),
      ((leb→le 1 d.month (both_left p q m), leb→le d.month 12 (both_right p q m)), ltb→lt d.year 100 (both_right (p && q) y r)),
    )

dated_at : ℕ → Bool
dated_at n = dated (date_at n)

all_dated : T (all_below dated_at 36525)
unfolding all_below dated_at dated date_at
all_dated = tt

pub date_at_exists : (n : ℕ) → n < 36525 → Dated (date_at n)
unfolding dated_at
date_at_exists n h = dated_is (date_at n) (all_at dated_at 36525 all_dated n h)

-- the number of each date is below 36,525, and leads back to the date
the_date : ℕ → ℕ → ℕ → Date
the_date y m d = record { date = d + 1; month = m + 1; year = y }

back : ℕ → ℕ → ℕ → Bool
back y m d = ltb (number (the_date y m d)) 36525 && same (date_at (number (the_date y m d))) (the_date y m d)

back_month : ℕ → ℕ → Bool
back_month y m = all_below (back y m) (month_length y (m + 1))

back_year : ℕ → Bool
back_year y = all_below (back_month y) 12

all_back : T (all_below back_year 100)
unfolding all_below back_year back_month back same the_date number date_at
all_back = tt

backs : (y m d : ℕ) → y < 100 → m < 12 → d < month_length y (m + 1) → T (back y m d)
unfolding back_year back_month
backs y m d hy hm hd = all_at (back y m) (month_length y (m + 1)) (all_at (back_month y) 12 (all_at back_year 100 all_back y hy) m hm) d hd

the_date_is : (d : Date) → Dated d → the_date d.year (d.month - 1) (d.date - 1) ≡ d
unfolding the_date
the_date_is d h =
    let p : d.date - 1 + 1 ≡ d.date = omega arith in
    let q : d.month - 1 + 1 ≡ d.month = omega arith in
    λ i. record { date = p i; month = q i; year = d.year }

Backs : Date → Type 0
Backs d = (number d < 36525) × (date_at (number d) ≡ d)

back_is : (y m d : ℕ) → T (back y m d) → Backs (the_date y m d)
unfolding back Backs
back_is y m d t =
    let x = the_date y m d in (
      ltb→lt (number x) 36525 (both_left (ltb (number x) 36525) (same (date_at (number x)) x) t),
      same_is (date_at (number x)) x (both_right (ltb (number x) 36525) (same (date_at (number x)) x) t),
    )

backs_date : (d : Date) → Dated d → Backs d
backs_date d h =
    let q : d.month - 1 + 1 ≡ d.month = omega arith in
    let b : d.date - 1 < month_length d.year d.month = omega arith in
    let b' = subst (λ (m : ℕ). d.date - 1 < month_length d.year m) (sym q) b in
    subst Backs (the_date_is d h)
    (back_is d.year (d.month - 1) (d.date - 1)
    (backs d.year (d.month - 1) (d.date - 1) h.1.1 (omega arith) b'))

pub number_below : (d : Date) → Dated d → number d < 36525
unfolding Backs
number_below d h = (backs_date d h).0

pub date_at-number : (d : Date) → Dated d → date_at (number d) ≡ d
unfolding Backs
date_at-number d h = (backs_date d h).1

-- n days after a date that exists comes the date whose number is n more, over and over
pub days_later : (d : Date) → Dated d → (n : ℕ) → iterate date_after n d ≡ date_at ((number d + n) % 36525)
unfolding iterate
days_later d h zero =
    let e : number d ≡ (number d + 0) % 36525 = omega (arith, number_below d h) in
    sym (date_at-number d h) ∙ ap date_at e
days_later d h (suc n) =
    let e : ((number d + n) % 36525 + 1) % 36525 ≡ (number d + suc n) % 36525 = omega arith in
    ap date_after (days_later d h n) ∙ (date_at_next ((number d + n) % 36525) (omega arith) ∙ ap date_at e)

pub later_exists : (d : Date) → Dated d → (n : ℕ) → Dated (iterate date_after n d)
later_exists d h n =
    subst Dated (sym (days_later d h n)) (date_at_exists ((number d + n) % 36525) (omega arith))
