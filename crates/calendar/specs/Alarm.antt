-- An alarm of four bytes, the instants that it matches, and the first of them.
-- Assumes nothing.
use Rattle.std.specs.Prelude.{◌≡◌, ℕ, zero, suc, ◌+◌, ◌<◌, ◌≤◌, Bool, true, false, ◌&&◌, ◌||◌, List, Some, None, Option, ◌==◌, bit_and, nat_le, slice_index}
use Rattle.steps.specs.Iterate.{iterate}
use Rattle.bcd.specs.Digits.{digits}
use Rattle.calendar.specs.Locations.{mask, low, high}
use Rattle.calendar.specs.Time.{Time, Exists, next}
use Rattle.calendar.specs.declared.location.Location.{Location}
use Rattle.calendar.specs.declared.location.Location.TheVariants.{Seconds, Minutes, Hours, Date}

-- A byte with bit 7 set hears every number; any other hears the number whose digits it has under the location's mask.
abbrev pub heard : Location → ℕ → ℕ → Bool
heard l byte n = nat_le 128 byte || bit_and byte (mask l) == digits n

-- The bytes are for the second, the minute, the hour and the date; each hears its number.
abbrev pub matches : List ℕ → Time → Bool
matches alarm t =
    heard Date (slice_index alarm 3) t.date.date
    && (heard Hours (slice_index alarm 2) t.hour
    && (heard Minutes (slice_index alarm 1) t.minute && heard Seconds (slice_index alarm 0) t.second))

-- some number below n passes the test
unfoldable pub some_below : (ℕ → Bool) → ℕ → Bool
some_below test zero = false
some_below test (suc n) = test n || some_below test n

-- Some number in the location's range is heard.
abbrev pub hearable : Location → ℕ → Bool
hearable l byte = some_below (λ n. nat_le (low l) n && heard l byte n) (high l + 1)

-- Some date, some hour, some minute and some second are heard.
abbrev pub matchable : List ℕ → Bool
matchable alarm =
    hearable Date (slice_index alarm 3)
    && (hearable Hours (slice_index alarm 2) && (hearable Minutes (slice_index alarm 1) && hearable Seconds (slice_index alarm 0)))

-- Some time that exists matches.
abbrev pub Matchable : List ℕ → Type 0
Matchable alarm = (t : Time) × Exists t × (matches alarm t ≡ true)

-- The alarm matches k seconds after t.
abbrev pub Rings : List ℕ → Time → ℕ → Type 0
Rings alarm t k = matches alarm (iterate next k t) ≡ true

-- It matches at no instant from 1 second after t on and before k seconds after it.
abbrev pub Silent : List ℕ → Time → ℕ → Type 0
Silent alarm t k = (j : ℕ) → 1 ≤ j → j < k → Rings alarm t j → ⊥

-- k seconds after t is the first later instant that matches, and it comes within 61 days.
pub record First (alarm : List ℕ) (t : Time) (k : ℕ) : Type 0 where
  pub later : 1 ≤ k
  pub soon : k ≤ 5270400
  pub rings : Rings alarm t k
  pub silent : Silent alarm t k

-- What the answer to the question for the first match says: the first, or that no later instant matches, ever.
abbrev pub Answers : List ℕ → Time → Option ℕ → Type 0
Answers alarm t (Some k) = First alarm t k
Answers alarm t None = (j : ℕ) → 1 ≤ j → Rings alarm t j → ⊥
