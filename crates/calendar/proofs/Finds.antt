-- Whether a search finds anything, and how silences join.
-- Assumes nothing.
use Rattle.std.proofs.Common.{◌≡◌, ℕ, zero, suc, ◌<◌, ◌≤◌, Bool, true, false, ◌&&◌, ◌||◌, leb, ◌⊎◌, is_some, Some, None, Option, sym, refl, subst, inl, inr, not-suc-le-zero, arith}
use Rattle.std.proofs.lemmas.Bool.{cases_Bool, cases_lt, cases_order, and_from, and_parts, false≢true, le-leb, leb-true, or_cases, or_from, or_left, or_right}
use Rattle.calendar.specs.Alarm.{some_below}
use Rattle.calendar.specs.Earliest.{Quiet, Earliest}

-- what passes the test below a limit is found there
pub some_passes : (test : ℕ → Bool) (limit k : ℕ) → k < limit → test k ≡ true → some_below test limit ≡ true
unfolding some_below
some_passes test zero k l t = absurd (not-suc-le-zero l)
some_passes test (suc n) k l t = go (λ b. some_passes test n k b t) (cases_order k n)
  where
    go : (k < n → some_below test n ≡ true) → (k ≡ n) ⊎ ((k < n) ⊎ (n < k)) → (test n || some_below test n) ≡ true
    go below (inl e) = or_left (test n) (some_below test n) (subst (λ (m : ℕ). test m ≡ true) e t)
    go below (inr (inl b)) = or_right (test n) (some_below test n) (below b)
    go below (inr (inr g)) = absurd (omega arith)

-- and what is found there passes the test
pub passes_some : (test : ℕ → Bool) (limit : ℕ) → some_below test limit ≡ true → (k : ℕ) × (k < limit) × (test k ≡ true)
unfolding some_below
passes_some test zero t = absurd (false≢true t)
passes_some test (suc n) t = go (λ s. passes_some test n s) (or_cases (test n) (some_below test n) t)
  where
    go : (some_below test n ≡ true → (k : ℕ) × (k < n) × (test k ≡ true)) → (test n ≡ true) ⊎ (some_below test n ≡ true) → (k : ℕ) × (k < suc n) × (test k ≡ true)
    go below (inl here) = (n, omega arith, here)
    go below (inr s) = let f = below s in (f.0, omega (arith, f.1), f.2)

none_passes : (test : ℕ → Bool) (limit : ℕ) → Quiet test 0 limit → some_below test limit ≡ false
unfolding some_below
none_passes test zero q = refl
none_passes test (suc n) q =
    or_from (test n) (some_below test n) (here (cases_Bool (test n))) (none_passes test n (λ j l u t. q j l (omega arith) t))
  where
    here : (test n ≡ true) ⊎ (test n ≡ false) → test n ≡ false
    here (inl t) = absurd (q n (omega arith) (omega arith) t)
    here (inr f) = f

-- a search from `low` on finds something where some number from there on passes
pub finds_some : (test : ℕ → Bool) (low limit : ℕ) (r : Option ℕ) → Earliest test low limit r → is_some r ≡ some_below (λ n. leb low n && test n) limit
finds_some test low limit (Some n) e =
    sym (some_passes (λ m. leb low m && test m) limit n e.0.1 (and_from (leb low n) (test n) (le-leb low n e.0.0) e.1.0))
finds_some test low limit None q =
    sym (none_passes (λ m. leb low m && test m) limit
    (λ j _ u t. let p = and_parts (leb low j) (test j) t in q j (leb-true low j p.0) u p.1))

-- a silence, and one that goes on from there
pub quiet_join : (test : ℕ → Bool) (from mid to : ℕ) → Quiet test from mid → Quiet test mid to → Quiet test from to
quiet_join test from mid to p q j l u t = go (cases_lt j mid)
  where
    go : (j < mid) ⊎ (mid ≤ j) → ⊥
    go (inl b) = p j l b t
    go (inr g) = q j g u t
