-- A step taken n times.
-- Assumes nothing.
use Rattle.std.specs.Prelude.{ℕ, zero, suc}

-- f applied n times
unfoldable pub iterate : {A : Type 0} → (A → A) → ℕ → A → A
iterate f zero x = x
iterate f (suc n) x = f (iterate f n x)
