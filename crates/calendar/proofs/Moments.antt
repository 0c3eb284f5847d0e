-- The time at a second counted from midnight is the time of as many single seconds.
-- Assumes nothing.
use Rattle.std.proofs.Common.{◌≡◌, ℕ, zero, suc, ◌+◌, ◌-◌, ◌/◌, ◌%◌, ◌<◌, ◌≤◌, cond, ltb, ◌⊎◌, sym, ap, ◌∙◌, subst, inl, inr, add-zero, arith}
use Rattle.std.proofs.lemmas.Bool.{cases_lt, lt-ltb, le-ltb, cond-true, cond-false}
use Rattle.steps.specs.Iterate.{iterate}
use Rattle.steps.proofs.Laws.{iterate_none, iterate_more}
use Rattle.dates.specs.Dates.{date_after}
use Rattle.dates.proofs.Days.{later_exists}
use Rattle.calendar.specs.Time.{Time, Exists, day_after, next}
use Rattle.calendar.specs.Moments.{second_of_day, on_day, at_time, at_second}

day_on : (d n : ℕ) → day_after (1 + (d + n) % 7) ≡ 1 + (d + (n + 1)) % 7
day_on d n = go (cases_lt (1 + (d + n) % 7) 7)
  where
    go : (1 + (d + n) % 7 < 7) ⊎ (7 ≤ 1 + (d + n) % 7) → day_after (1 + (d + n) % 7) ≡ 1 + (d + (n + 1)) % 7
    go (inl l) = cond-true _ _ _ (lt-ltb _ _ l) ∙ omega arith
    go (inr g) = cond-false _ _ _ (le-ltb _ _ g) ∙ omega arith

-- what follows the last minute of an hour
hour_on : Time → Time
hour_on x =
    cond (ltb x.hour 23) (record { second = 0; minute = 0; hour = x.hour + 1; day = x.day; date = x.date })
    (record { second = 0; minute = 0; hour = 0; day = day_after x.day; date = date_after x.date })

-- what follows the last second of a minute
minute_on : Time → Time
minute_on x =
    cond (ltb x.minute 59) (record { second = 0; minute = x.minute + 1; hour = x.hour; day = x.day; date = x.date }) (hour_on x)

module _ (t : Time) (s : ℕ) where
  day_follows : s % 86400 ≡ 86399 → record { second = 0; minute = 0; hour = 0; day = day_after (at_second t s).day; date = date_after (at_second t s).date } ≡ at_second t (s + 1)
  day_follows e =
      let n : s / 86400 + 1 ≡ (s + 1) / 86400 = omega arith in
      let r : 0 ≡ (s + 1) % 86400 = omega arith in
      (λ i. record { second = 0; minute = 0; hour = 0; day = day_on (t.day - 1) (s / 86400) i; date = iterate_more date_after (s / 86400) t.date i })
      ∙ (λ i. at_time t (n i) (r i))

  hour_follows : s % 86400 % 3600 ≡ 3599 → hour_on (at_second t s) ≡ at_second t (s + 1)
  unfolding hour_on
  hour_follows e = go (cases_lt (s % 86400 / 3600) 23)
    where
      go : (s % 86400 / 3600 < 23) ⊎ (23 ≤ s % 86400 / 3600) → hour_on (at_second t s) ≡ at_second t (s + 1)
      go (inl l) =
          let n : s / 86400 ≡ (s + 1) / 86400 = omega arith in
          let h : s % 86400 / 3600 + 1 ≡ (s + 1) % 86400 / 3600 = omega arith in
          let m : 0 ≡ (s + 1) % 86400 % 3600 / 60 = omega arith in
          let c : 0 ≡ (s + 1) % 86400 % 3600 % 60 = omega arith in
          cond-true _ _ _ (lt-ltb _ _ l) ∙ (λ i. on_day t (n i) (h i) (m i) (c i))
      go (inr g) = cond-false _ _ _ (le-ltb _ _ g) ∙ day_follows (omega arith)

  minute_follows : s % 86400 % 3600 % 60 ≡ 59 → minute_on (at_second t s) ≡ at_second t (s + 1)
  unfolding minute_on
  minute_follows e = go (cases_lt (s % 86400 % 3600 / 60) 59)
    where
      go : (s % 86400 % 3600 / 60 < 59) ⊎ (59 ≤ s % 86400 % 3600 / 60) → minute_on (at_second t s) ≡ at_second t (s + 1)
      go (inl l) =
          let n : s / 86400 ≡ (s + 1) / 86400 = omega arith in
          let h : s % 86400 / 3600 ≡ (s + 1) % 86400 / 3600 = omega arith in
          let m : s % 86400 % 3600 / 60 + 1 ≡ (s + 1) % 86400 % 3600 / 60 = omega arith in
          let c : 0 ≡ (s + 1) % 86400 % 3600 % 60 = omega arith in
          cond-true _ _ _ (lt-ltb _ _ l) ∙ (λ i. on_day t (n i) (h i) (m i) (c i))
      go (inr g) = cond-false _ _ _ (le-ltb _ _ g) ∙ hour_follows (omega arith)

  pub step : next (at_second t s) ≡ at_second t (s + 1)
  unfolding minute_on hour_on
  step = go (cases_lt (s % 86400 % 3600 % 60) 59)
    where
      go : (s % 86400 % 3600 % 60 < 59) ⊎ (59 ≤ s % 86400 % 3600 % 60) → next (at_second t s) ≡ at_second t (s + 1)
      go (inl l) =
          let n : s / 86400 ≡ (s + 1) / 86400 = omega arith in
          let h : s % 86400 / 3600 ≡ (s + 1) % 86400 / 3600 = omega arith in
          let m : s % 86400 % 3600 / 60 ≡ (s + 1) % 86400 % 3600 / 60 = omega arith in
          let c : s % 86400 % 3600 % 60 + 1 ≡ (s + 1) % 86400 % 3600 % 60 = omega arith in
          cond-true _ _ _ (lt-ltb _ _ l) ∙ (λ i. on_day t (n i) (h i) (m i) (c i))
      go (inr g) = cond-false _ _ _ (le-ltb _ _ g) ∙ minute_follows (omega arith)

-- a time that exists stands at its second of the day
pub start : (t : Time) → Exists t → at_second t (second_of_day t) ≡ t
start t e =
    let s = second_of_day t in
    let n : s / 86400 ≡ 0 = omega arith in
    let r : s % 86400 ≡ s = omega arith in
    let h : s % 86400 / 3600 ≡ t.hour = omega arith in
    let m : s % 86400 % 3600 / 60 ≡ t.minute = omega arith in
    let c : s % 86400 % 3600 % 60 ≡ t.second = omega arith in
    let w : 1 + (t.day - 1 + 0) % 7 ≡ t.day = omega arith in
    (λ i. on_day t (n i) (h i) (m i) (c i))
    ∙ (λ i. record { second = t.second; minute = t.minute; hour = t.hour; day = w i; date = iterate_none date_after t.date i })

steps : (t : Time) (s n : ℕ) → iterate next n (at_second t s) ≡ at_second t (s + n)
unfolding iterate
steps t s zero = ap (at_second t) (sym (add-zero s))
steps t s (suc n) =
    let e : s + n + 1 ≡ s + suc n = omega arith in
    ap next (steps t s n) ∙ (step t (s + n) ∙ ap (at_second t) e)

-- n steps from a time that exists lead to the time at n seconds more
pub advanced : (t : Time) → Exists t → (n : ℕ) → iterate next n t ≡ at_second t (second_of_day t + n)
advanced t e n = ap (iterate next n) (sym (start t e)) ∙ steps t (second_of_day t) n

-- and that time exists
pub steps_exist : (t : Time) → Exists t → (n : ℕ) → Exists (iterate next n t)
steps_exist t e n =
    let s = second_of_day t + n in
    let all : Exists (at_second t s) = (
      ((omega arith, omega arith), (omega arith, (omega arith, omega arith))),
      later_exists t.date e.1 (s / 86400),
    ) in
    subst Exists (sym (advanced t e n)) all
