-- The instants that an alarm matches, day by day: an alarm that matches any instant at all matches one within 61 days.
-- Assumes nothing.
use Rattle.std.proofs.Common.{◌≡◌, ℕ, ◌+◌, ◌-◌, ◌*◌, ◌/◌, ◌%◌, ◌<◌, ◌≤◌, Bool, true, ◌⊎◌, List, Some, sym, ap, ◌∙◌, subst, inl, inr, arith}
use Rattle.std.proofs.lemmas.Bool.{cases_lt}
use Rattle.steps.specs.Iterate.{iterate}
use Rattle.dates.specs.Dates.{date_after}
use Rattle.dates.proofs.Lengths.{month_length_most}
use Rattle.dates.proofs.Recurs.{comes_from, comes_later}
use Rattle.calendar.specs.Alarm.{matches, Rings, Silent, First}
use Rattle.calendar.specs.Moments.{second_of_day, at_second}
use Rattle.calendar.specs.Earliest.{Quiet, Earliest, on_date}
use Rattle.calendar.specs.Time.{Time, Exists, next}
use Rattle.calendar.proofs.Finds.{quiet_join}
use Rattle.calendar.proofs.Moments.{advanced, steps_exist}

-- whether the alarm matches at the second s, counted from the midnight before t
abbrev pub matches_at : List ℕ → Time → ℕ → Bool
matches_at alarm t s = matches alarm (at_second t s)

module _ (alarm : List ℕ) (t : Time) where
  -- the second s of the day n
  at_day : (n s : ℕ) → s < 86400 → matches_at alarm t (86400 * n + s) ≡ on_date alarm (iterate date_after n t.date).date s
  at_day n s h =
      let p : (86400 * n + s) / 86400 ≡ n = omega arith in
      let q : (86400 * n + s) % 86400 ≡ s = omega arith in
      λ i. on_date alarm (iterate date_after (p i) t.date).date (q i)

  -- what is silent on the date of the day n is silent on that day
  pub day_quiet : (n d from to : ℕ) → (iterate date_after n t.date).date ≡ d → to ≤ 86400 → Quiet (on_date alarm d) from to → Quiet (matches_at alarm t) (86400 * n + from) (86400 * n + to)
  day_quiet n d from to e h q j l u r =
      let s = j - 86400 * n in
      let p : 86400 * n + s ≡ j = omega arith in
      q s (omega arith) (omega arith)
      (sym (ap (λ (x : ℕ). on_date alarm x s) e) ∙ (sym (at_day n s (omega arith)) ∙ (ap (matches_at alarm t) p ∙ r)))

  module _ (e : Exists t) where
    rings_at : (j : ℕ) → matches alarm (iterate next j t) ≡ matches_at alarm t (second_of_day t + j)
    rings_at j = ap (matches alarm) (advanced t e j)

    silent : (k : ℕ) → Quiet (matches_at alarm t) (second_of_day t + 1) (second_of_day t + k) → Silent alarm t k
    silent k q j l u r = q (second_of_day t + j) (omega arith) (omega arith) (sym (rings_at j) ∙ r)

    Soon : Type 0
    Soon = (j : ℕ) × (1 ≤ j) × (j ≤ 5270400) × Rings alarm t j

    -- a match n days on, at a time of the day that lies ahead
    soon_on : (u : Time) → Exists u → matches alarm u ≡ true → (n : ℕ) → (iterate date_after n t.date).date ≡ u.date.date
        → second_of_day t < 86400 * n + second_of_day u → 86400 * n + second_of_day u ≤ second_of_day t + 5270400 → Soon
    unfolding Soon
    soon_on u x m n d l b =
        let s = second_of_day u in
        let j = 86400 * n + s - second_of_day t in
        let p : second_of_day t + j ≡ 86400 * n + s = omega arith in
        let hour : s / 3600 ≡ u.hour = omega arith in
        let minute : s % 3600 / 60 ≡ u.minute = omega arith in
        let second : s % 3600 % 60 ≡ u.second = omega arith in (
          j,
          omega arith,
          omega arith,
          rings_at j ∙ (ap (matches_at alarm t) p ∙ (at_day n s (omega arith)
              ∙ ((λ i. matches alarm (record { second = second i; minute = minute i; hour = hour i; day = 0; date = record { date = d i; month = 0; year = 0 } })) ∙ m))),
        )

    -- each date comes within 61 days, and within 60 days from today on
    soon : (u : Time) → Exists u → matches alarm u ≡ true → Soon
    soon u x m = go (cases_lt (second_of_day t) (second_of_day u))
      where
        most : u.date.date ≤ 31
        most = omega (arith, month_length_most u.date.year u.date.month, x.1.0.1)

        go : (second_of_day t < second_of_day u) ⊎ (second_of_day u ≤ second_of_day t) → Soon
        go (inl l) =
            let c = comes_from u.date.date x.1.0.0 most t.date e.1 in
            let b : c.0 ≤ 60 = c.1 in
            soon_on u x m c.0 c.2 (omega arith) (omega arith)
        go (inr g) =
            let c = comes_later u.date.date x.1.0.0 most t.date e.1 in
            let a : 1 ≤ c.0 = c.1 in
            let b : c.0 ≤ 61 = c.2 in
            soon_on u x m c.0 c.3 (omega arith) (omega arith)

    -- what rings at all rings within 61 days, unless it rang before
    rings_soon : (k j : ℕ) → Silent alarm t k → Rings alarm t j → k ≤ 5270400
    unfolding Soon
    rings_soon k j h r =
        let s = soon (iterate next j t) (steps_exist t e j) r in
        go s (cases_lt 5270400 k)
      where
        go : Soon → (5270400 < k) ⊎ (k ≤ 5270400) → k ≤ 5270400
        go s (inl l) = absurd (h s.0 s.1 (omega (arith, s.2)) s.3)
        go s (inr g) = g

    -- an alarm that is silent for more than 61 days is silent for ever
    pub silent_for_ever : (n : ℕ) → second_of_day t + 5270400 < n → Quiet (matches_at alarm t) (second_of_day t + 1) n → (j : ℕ) → 1 ≤ j → Rings alarm t j → ⊥
    silent_for_ever n l q j h r =
        let k = n - second_of_day t in
        let p : second_of_day t + k ≡ n = omega arith in
        let s = silent k (subst (Quiet (matches_at alarm t) (second_of_day t + 1)) (sym p) q) in
        omega (arith, rings_soon k j s r)

    -- after silence until the second `from` of the day n, the first match of that day is the first of all
    pub first_found : (n d from s k : ℕ) → (iterate date_after n t.date).date ≡ d → second_of_day t + 1 ≤ 86400 * n + from
        → Quiet (matches_at alarm t) (second_of_day t + 1) (86400 * n + from) → Earliest (on_date alarm d) from 86400 (Some s)
        → second_of_day t + k ≡ 86400 * n + s → First alarm t k
    first_found n d from s k p l q x eq =
        let quiet = quiet_join (matches_at alarm t) (second_of_day t + 1) (86400 * n + from) (86400 * n + s) q (day_quiet n d from s p (omega arith) x.1.1) in
        let before = silent k (subst (Quiet (matches_at alarm t) (second_of_day t + 1)) (sym eq) quiet) in
        let here : Rings alarm t k =
        rings_at k ∙ (ap (matches_at alarm t) eq ∙ (at_day n s x.0.1 ∙ (ap (λ (y : ℕ). on_date alarm y s) p ∙ x.1.0))) in
        record { later = omega arith; soon = rings_soon k k before here; rings = here; silent = before }
