-- No step, one step more, and some steps after others.
-- Assumes nothing.
use mathlib.Core.Path.{◌≡◌, refl, ap, ◌∙◌}
use Prim.Native.Nat.{ℕ, zero, suc, ◌+◌}
use native.Mathlib.Nat.{add-zero, add-suc}
use native.Mathlib.Numerals.{add-one}
use Rattle.steps.specs.Iterate.{iterate}

pub iterate_none : {A : Type 0} (f : A → A) (x : A) → iterate f 0 x ≡ x
unfolding iterate
iterate_none f x = refl

pub iterate_more : {A : Type 0} (f : A → A) (n : ℕ) (x : A) → f (iterate f n x) ≡ iterate f (n + 1) x
unfolding iterate
iterate_more f n x = rw add-one

pub iterate_add : {A : Type 0} (f : A → A) (m n : ℕ) (x : A) → iterate f (m + n) x ≡ iterate f n (iterate f m x)
unfolding iterate
iterate_add f m zero x = ap (λ (i : ℕ). iterate f i x) (add-zero m)
iterate_add f m (suc n) x = ap (λ (i : ℕ). iterate f i x) (add-suc m n) ∙ ap f (iterate_add f m n x)
