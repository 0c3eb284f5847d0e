-- Each date of a month comes again within 61 days: a test at every day of the hundred years, which antt computes.
-- Assumes nothing.
use Rattle.std.proofs.Common.{◌≡◌, ℕ, zero, suc, ◌+◌, ◌-◌, ◌%◌, ◌<◌, ◌≤◌, Bool, true, false, cond, ◌&&◌, T, eqb, ltb, leb, ◌⊎◌, List, [], ◌∷◌, sym, refl, ap, ◌∙◌, subst, inl, inr, arith, eqb→eq, leb→le}
use Rattle.std.proofs.lemmas.Bool.{cases_lt}
use Rattle.steps.specs.Iterate.{iterate}
use Rattle.dates.specs.Dates.{Date, Dated, date_after}
use Rattle.dates.specs.Numbering.{number, date_at}
use Rattle.dates.proofs.Days.{days_later}
use Rattle.dates.proofs.Sweeps.{both_left, both_right, all_below, all_at}

-- the date of a month on the day n, over and over
abbrev date_on : ℕ → ℕ
date_on n = (date_at (n % 36525)).date

-- within 61 days after the day n comes a day of that date
abbrev Comes : ℕ → ℕ → Type 0
Comes date n = (i : ℕ) × (1 ≤ i) × (i ≤ 61) × (date_on (n + i) ≡ date)

-- i days after the day n, and within 61, is a day of the same date
again : ℕ → ℕ → Bool
again n i = (leb 1 i && leb i 61) && eqb (date_on (n + i)) (date_on n)

any_of : (ℕ → Bool) → List ℕ → Bool
any_of f [] = false
any_of f (x ∷ xs) = elim (f x) [ true ↦ true | false ↦ any_of f xs ]

any_cases : (f : ℕ → Bool) (x : ℕ) (xs : List ℕ) (b : Bool) → f x ≡ b → T (elim b as (λ _. Bool) [ true ↦ true | false ↦ any_of f xs ])
    → (T (any_of f xs) → (i : ℕ) × T (f i)) → (i : ℕ) × T (f i)
any_cases f x xs true e t r = (x, subst T (sym e) tt)
any_cases f x xs false e t r = r t

any_is : (f : ℕ → Bool) (xs : List ℕ) → T (any_of f xs) → (i : ℕ) × T (f i)
unfolding any_of
any_is f [] t = absurd t
any_is f (x ∷ xs) t = any_cases f x xs (f x) refl t (λ r. any_is f xs r)

waits : List ℕ
waits = 31 ∷ 30 ∷ 28 ∷ 29 ∷ 61 ∷ 60 ∷ 59 ∷ []

recurs : ℕ → Bool
recurs n = any_of (again n) waits

all_recur : T (all_below recurs 36525)
unfolding all_below recurs any_of waits again date_at
all_recur = tt

tested : (i x y : ℕ) → T ((leb 1 i && leb i 61) && eqb x y) → (1 ≤ i) × (i ≤ 61) × (x ≡ y)
tested i x y t =
    let l = both_left (leb 1 i && leb i 61) (eqb x y) t in (
      leb→le 1 i (both_left (leb 1 i) (leb i 61) l),
      leb→le i 61 (both_right (leb 1 i) (leb i 61) l),
      eqb→eq x y (both_right (leb 1 i && leb i 61) (eqb x y) t),
    )

comes_again : (n : ℕ) → Comes (date_on n) n
unfolding recurs again
comes_again n =
    let m = n % 36525 in
    let a = any_is (again m) waits (all_at recurs 36525 all_recur m (omega arith)) in
    let i = a.0 in
    let b = tested i (date_on (m + i)) (date_on m) a.1 in
    let p : (n + i) % 36525 ≡ (n % 36525 + i) % 36525 = omega arith in
    let q : n % 36525 % 36525 ≡ n % 36525 = omega arith in
    (i, b.0, b.1, ap (λ (k : ℕ). (date_at k).date) p ∙ (b.2 ∙ ap (λ (k : ℕ). (date_at k).date) q))

-- the day of March 00 or April 00 that has the date k + 1
wait : ℕ → ℕ
wait k = cond (ltb k 1) 31 k

begins : ℕ → Bool
begins k = (leb 1 (wait k) && leb (wait k) 61) && eqb (date_on (0 + wait k)) (k + 1)

all_begin : T (all_below begins 31)
unfolding all_below begins wait date_at
all_begin = tt

comes_first : (d : ℕ) → 1 ≤ d → d ≤ 31 → Comes d 0
unfolding begins
comes_first d l u =
    let b = tested (wait (d - 1)) (date_on (0 + wait (d - 1))) (d - 1 + 1) (all_at begins 31 all_begin (d - 1) (omega arith)) in
    let e : d - 1 + 1 ≡ d = omega arith in
    (wait (d - 1), b.0, b.1, b.2 ∙ e)

comes_next : (d n : ℕ) → Comes d n → Comes d (suc n)
comes_next d n c = go (cases_lt 1 c.0)
  where
    go : (1 < c.0) ⊎ (c.0 ≤ 1) → Comes d (suc n)
    go (inl l) =
        let e : suc n + (c.0 - 1) ≡ n + c.0 = omega (arith, c.1) in
        (c.0 - 1, omega arith, omega (arith, c.2), ap date_on e ∙ c.3)
    go (inr g) =
        let e : suc n ≡ n + c.0 = omega (arith, c.1) in
        subst (λ (x : ℕ). Comes x (suc n)) (ap date_on e ∙ c.3) (comes_again (suc n))

-- each date of 1 to 31 comes within 61 days after any day
comes : (d : ℕ) → 1 ≤ d → d ≤ 31 → (n : ℕ) → Comes d n
comes d l u zero = comes_first d l u
comes d l u (suc n) = comes_next d n (comes d l u n)

-- each date of 1 to 31 comes within 61 days after any date
pub comes_later : (x : ℕ) → 1 ≤ x → x ≤ 31 → (d : Date) → Dated d → (i : ℕ) × (1 ≤ i) × (i ≤ 61) × ((iterate date_after i d).date ≡ x)
comes_later x l u d h =
    let c = comes x l u (number d) in
    (c.0, c.1, c.2, ap (λ (e : Date). e.date) (days_later d h c.0) ∙ c.3)

-- and so it does from any date on, that one included, within 60 days after it
pub comes_from : (x : ℕ) → 1 ≤ x → x ≤ 31 → (d : Date) → Dated d → (i : ℕ) × (i ≤ 60) × ((iterate date_after i d).date ≡ x)
comes_from x l u d h =
    let c = comes x l u (number d + 36524) in
    let i = c.0 in
    let p : 1 ≤ i = c.1 in
    let e : (number d + (i - 1)) % 36525 ≡ (number d + 36524 + i) % 36525 = omega arith in
    (i - 1, omega (arith, c.2), ap (λ (y : Date). y.date) (days_later d h (i - 1)) ∙ (ap (λ (k : ℕ). (date_at k).date) e ∙ c.3))
