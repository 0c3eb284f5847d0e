-- The longest wait for an alarm, and an alarm that never matches.
-- Assumes nothing.
use Rattle.std.proofs.Common.{◌≡◌, ℕ, ◌+◌, ◌-◌, ◌*◌, ◌/◌, ◌%◌, ◌<◌, ◌≤◌, Bool, true, false, not, T, List, [], ◌∷◌, sym, refl, ap, ◌∙◌, arith}
use Rattle.std.proofs.lemmas.Bool.{and_parts, both_ways, eqb-true, false≢true}
use Rattle.dates.proofs.Sweeps.{all_below, all_at}
use Rattle.dates.specs.Dates.{date_after}
use Rattle.steps.specs.Iterate.{iterate}
use Rattle.calendar.specs.Alarm.{heard, some_below}
use Rattle.calendar.specs.declared.location.Location.TheVariants.{Seconds, Minutes, Hours, Date}
use Rattle.calendar.specs.Earliest.{Quiet, in_hour, in_day, on_date}
use Rattle.calendar.specs.Specimens.{march_noon, LongestWait, NoSuchDate}
use Rattle.calendar.specs.Time.{next}
use Rattle.calendar.proofs.Finds.{quiet_join}
use Rattle.calendar.proofs.Matchable.{some_match}
use Rattle.calendar.proofs.Moments.{steps_exist}
use Rattle.calendar.proofs.Rings.{matches_at, day_quiet, first_found}

alarm : List ℕ
alarm = 0 ∷ 0 ∷ 18 ∷ 49 ∷ []

-- it matches at noon, and at no other second of a day
noon_only : (d s : ℕ) → on_date alarm d s ≡ true → s ≡ 43200
unfolding alarm
noon_only d s t =
    let p = (and_parts (heard Date 49 d) (in_day alarm s) t).1 in
    let q = and_parts (heard Hours 18 (s / 3600)) (in_hour alarm (s % 3600)) p in
    let r = and_parts (heard Minutes 0 (s % 3600 / 60)) (heard Seconds 0 (s % 3600 % 60)) q.1 in
    let hour = eqb-true 18 (16 * (s / 3600 / 10) + s / 3600 % 10) q.0 in
    let minute = eqb-true 0 (16 * (s % 3600 / 60 / 10) + s % 3600 / 60 % 10) r.0 in
    let second = eqb-true 0 (16 * (s % 3600 % 60 / 10) + s % 3600 % 60 % 10) r.1 in
    omega arith

-- the 60 days after 31 March are no 31st
no_31st : ℕ → ℕ → Bool
no_31st year i = not (heard Date 49 (iterate date_after (i + 1) (record { date = 31; month = 3; year = year })).date)

all_no_31st : (year : ℕ) → T (all_below (no_31st year) 60)
unfolding all_below no_31st iterate
all_no_31st year = tt

quiet_days : (day year : ℕ) → Quiet (matches_at alarm (march_noon day year)) 86400 5270400
unfolding alarm no_31st
quiet_days day year j l u r =
    let i = j / 86400 - 1 in
    let p : j / 86400 ≡ i + 1 = omega arith in
    let on : ℕ → Bool = λ n. heard Date 49 (iterate date_after n (record { date = 31; month = 3; year = year })).date in
    both_ways (on (i + 1)) (refused (on (i + 1)) (all_at (no_31st year) 60 (all_no_31st year) i (omega arith)))
    (sym (ap on p) ∙ (and_parts (on (j / 86400)) (in_day alarm (j % 86400)) r).0)
  where
    refused : (b : Bool) → T (not b) → b ≡ false
    refused true t = absurd t
    refused false t = refl

pub longest_wait : LongestWait
unfolding alarm iterate
longest_wait day year e =
    let t = march_noon day year in
    first_found alarm t e 61 31 0 43200 5270400 refl (omega arith)
    (quiet_join (matches_at alarm t) 43201 86400 5270400 (day_quiet alarm t 0 31 43201 86400 refl (omega arith) (λ s l u m. absurd (after s l (noon_only 31 s m)))) (quiet_days day year))
    ((omega arith, omega arith), (refl, λ s l u m. absurd (before s u (noon_only 31 s m))))
    refl
  where
    after : (s : ℕ) → 43201 ≤ s → s ≡ 43200 → ⊥
    after s l e = omega arith

    before : (s : ℕ) → s < 43200 → s ≡ 43200 → ⊥
    before s u e = omega arith

pub no_such_date : NoSuchDate
unfolding some_below
no_such_date second minute hour t e j l r =
    false≢true (some_match (second ∷ minute ∷ hour ∷ 50 ∷ []) (iterate next j t, steps_exist t e j, r))
