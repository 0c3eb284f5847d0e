-- Seven locations that were read in are shown again, and a time that is shown is read back.
-- Assumes nothing.
use Rattle.std.proofs.Common.{◌≡◌, ℕ, zero, suc, ◌<◌, ◌≤◌, true, leb, List, [], ◌∷◌, length, get_or, Some, None, Ok, Option, sym, refl, ap, ◌∙◌, arith}
use Rattle.std.proofs.lemmas.Bool.{le-leb, cond-true}
use Rattle.calendar.specs.Locations.{table, stands}
use Rattle.calendar.specs.Reading.{byte_at, lowest_fault, date_in, time_in, lacking, or_else, fault_in, unless, reading, locations_of}
use Rattle.calendar.specs.Time.{Time, Exists}
use Rattle.calendar.specs.declared.location.Location.{Location}
use Rattle.calendar.specs.declared.location.Location.TheVariants as at
use Rattle.dates.specs.Dates.{Date, month_length}
use Rattle.dates.proofs.Lengths.{month_length_most}
use Rattle.calendar.proofs.Digits.{shown_again, read_again}

-- the first n values of f
abbrev values : ℕ → (ℕ → ℕ) → List ℕ
values zero f = []
values (suc n) f = f zero ∷ values n (λ i. f (suc i))

-- a statement holds of each of these locations
abbrev pub Each : List Location → (Location → Type 0) → Type 0
Each [] P = Unit {0}
Each (l ∷ ls) P = P l × Each ls P

abbrev pub AllStand : List Location → List ℕ → Type 0
AllStand ls bytes = Each ls (λ l. stands l (byte_at bytes l) ≡ true)

none_at_fault : (ls : List Location) (bytes : List ℕ) → AllStand ls bytes → lowest_fault ls bytes ≡ None
none_at_fault [] bytes s = refl
none_at_fault (l ∷ ls) bytes s =
    cond-true (stands l (byte_at bytes l)) (lowest_fault ls bytes) (Some l) s.0 ∙ none_at_fault ls bytes s.1

-- no location is at fault
sound : (bytes : List ℕ) (d : Date) → lowest_fault table bytes ≡ None → date_in bytes ≡ d → d.date ≤ month_length d.year d.month → fault_in bytes ≡ None
sound bytes d none e h =
    ap (λ (o : Option Location). or_else o (lacking (date_in bytes))) none
    ∙ (ap lacking e ∙ cond-true (leb d.date (month_length d.year d.month)) None (Some at.Date) (le-leb d.date (month_length d.year d.month) h))

-- the time in the locations of a time that exists is that time, whatever the spare bits
pub reads_back : (t : Time) → Exists t → (bytes : List ℕ) → reading (locations_of t bytes) ≡ Ok t
reads_back t e bytes =
    let most = month_length_most t.date.year t.date.month in
    let s = read_again at.Seconds 7 1 refl refl t.second (byte_at bytes at.Seconds) (omega arith) (omega arith) (omega arith, omega arith) in
    let n = read_again at.Minutes 7 1 refl refl t.minute (byte_at bytes at.Minutes) (omega arith) (omega arith) (omega arith, omega arith) in
    let h = read_again at.Hours 6 2 refl refl t.hour (byte_at bytes at.Hours) (omega arith) (omega arith) (omega arith, omega arith) in
    let w = read_again at.Day 3 5 refl refl t.day (byte_at bytes at.Day) (omega arith) (omega arith) (omega arith, omega arith) in
    let d = read_again at.Date 6 2 refl refl t.date.date (byte_at bytes at.Date) (omega arith) (omega arith) (omega arith, omega arith) in
    let m = read_again at.Month 5 3 refl refl t.date.month (byte_at bytes at.Month) (omega arith) (omega arith) (omega arith, omega arith) in
    let y = read_again at.Year 8 0 refl refl t.date.year (byte_at bytes at.Year) (omega arith) (omega arith) (omega arith, omega arith) in
    let r = locations_of t bytes in
    let none = none_at_fault table r (s.0, (n.0, (h.0, (w.0, (d.0, (m.0, (y.0, tt))))))) in
    let on : date_in r ≡ t.date = λ i. record { date = d.1 i; month = m.1 i; year = y.1 i } in
    λ i. unless (sound r t.date none on e.1.0.1 i)
    (record { second = s.1 i; minute = n.1 i; hour = h.1 i; day = w.1 i; date = on i })

-- a list of seven, spelled out
spelled : (n : ℕ) (xs : List ℕ) → length xs ≡ n → xs ≡ values n (λ i. get_or xs i 0)
spelled zero [] p = refl
spelled zero (x ∷ xs) p = absurd (omega arith)
spelled (suc n) [] p = absurd (omega arith)
spelled (suc n) (x ∷ xs) p = ap (λ ys. x ∷ ys) (spelled n xs (omega arith))

-- seven bytes that are a time are the digits of that time, joined with their own spare bits
pub shows_again : (t : Time) (bytes : List ℕ) → length bytes ≡ 7 → Each table (λ l. byte_at bytes l < 256) → AllStand table bytes → t ≡ time_in bytes → locations_of t bytes ≡ bytes
shows_again t bytes seven fits s e =
    (λ i.
    shown_again at.Seconds 7 1 refl refl (byte_at bytes at.Seconds) t.second fits.0 s.0 (λ j. (e j).second) i
    ∷ shown_again at.Minutes 7 1 refl refl (byte_at bytes at.Minutes) t.minute fits.1.0 s.1.0 (λ j. (e j).minute) i
    ∷ shown_again at.Hours 6 2 refl refl (byte_at bytes at.Hours) t.hour fits.1.1.0 s.1.1.0 (λ j. (e j).hour) i
    ∷ shown_again at.Day 3 5 refl refl (byte_at bytes at.Day) t.day fits.1.1.1.0 s.1.1.1.0 (λ j. (e j).day) i
    ∷ shown_again at.Date 6 2 refl refl (byte_at bytes at.Date) t.date.date fits.1.1.1.1.0 s.1.1.1.1.0 (λ j. (e j).date.date) i
    ∷ shown_again at.Month 5 3 refl refl (byte_at bytes at.Month) t.date.month fits.1.1.1.1.1.0 s.1.1.1.1.1.0 (λ j. (e j).date.month) i
    ∷ shown_again at.Year 8 0 refl refl (byte_at bytes at.Year) t.date.year fits.1.1.1.1.1.1.0 s.1.1.1.1.1.1.0 (λ j. (e j).date.year) i ∷ [])
    ∙ sym (spelled 7 bytes seven)
