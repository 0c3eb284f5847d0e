-- Moments and alarms at which a clock is easily wrong.
-- Assumes nothing.
use Rattle.std.specs.Prelude.{◌≡◌, ℕ, [], ◌∷◌, Some, None}
use Rattle.calendar.specs.Alarm.{Answers}
use Rattle.calendar.specs.Time.{Time, Exists, next}

-- One second after 28 February 04, 23:59:59, it is the 29th.
abbrev pub LeapDay : Type 0
LeapDay =
    (day : ℕ)
    → (next (record { second = 59; minute = 59; hour = 23; day = day; date = record { date = 28; month = 2; year = 4 } })).date
    ≡ record { date = 29; month = 2; year = 4 }

-- One second after 31 December 99, 23:59:59, it is 1 January 00.
abbrev pub Century : Type 0
Century =
    (day : ℕ)
    → (next (record { second = 59; minute = 59; hour = 23; day = day; date = record { date = 31; month = 12; year = 99 } })).date
    ≡ record { date = 1; month = 1; year = 0 }

-- 31 March, 12:00:00
abbrev pub march_noon : ℕ → ℕ → Time
march_noon day year = record { second = 0; minute = 0; hour = 12; day = day; date = record { date = 31; month = 3; year = year } }

-- Asked then, in whatever year, the alarm for the 31st, 12:00:00, is 61 days off.
abbrev pub LongestWait : Type 0
LongestWait = (day year : ℕ) → Exists (march_noon day year) → Answers (0 ∷ 0 ∷ 18 ∷ 49 ∷ []) (march_noon day year) (Some 5270400)

-- An alarm whose date byte is 32h never matches.
abbrev pub NoSuchDate : Type 0
NoSuchDate = (second minute hour : ℕ) (t : Time) → Exists t → Answers (second ∷ minute ∷ hour ∷ 50 ∷ []) t None
