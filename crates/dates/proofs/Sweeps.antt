-- A test at every number below a limit, which antt computes, and what it says of each number.
-- Assumes nothing.
use Rattle.std.proofs.Common.{◌≡◌, ℕ, zero, suc, ◌<◌, Bool, true, false, ◌&&◌, T, ◌⊎◌, sym, subst, inl, inr, not-suc-le-zero, arith}
use Rattle.std.proofs.lemmas.Bool.{cases_order}

pub both_left : (a b : Bool) → T (a && b) → T a
both_left true b t = tt
both_left false b t = t

pub both_right : (a b : Bool) → T (a && b) → T b
both_right true b t = t
both_right false b t = absurd t

-- the test passes at each number below n
unfoldable pub all_below : (ℕ → Bool) → ℕ → Bool
all_below f zero = true
all_below f (suc n) = f n && all_below f n

one_more : (f : ℕ → Bool) (n : ℕ) → T (f n) → ((k : ℕ) → k < n → T (f k)) → (k : ℕ) → k < suc n → T (f k)
one_more f n here below k h = go (cases_order k n)
  where
    go : (k ≡ n) ⊎ ((k < n) ⊎ (n < k)) → T (f k)
    go (inl e) = subst (λ (m : ℕ). T (f m)) (sym e) here
    go (inr (inl l)) = below k l
    go (inr (inr g)) = absurd (omega arith)

pub all_at : (f : ℕ → Bool) (n : ℕ) → T (all_below f n) → (k : ℕ) → k < n → T (f k)
unfolding all_below
all_at f zero t k h = absurd (not-suc-le-zero h)
all_at f (suc n) t k h =
    one_more f n (both_left (f n) (all_below f n) t) (λ m l. all_at f n (both_right (f n) (all_below f n) t) m l) k h
