-- The first number whose quotient by a width and whose remainder pass their tests.
-- Assumes nothing.
use Rattle.std.proofs.Common.{◌≡◌, ℕ, ◌+◌, ◌-◌, ◌*◌, ◌/◌, ◌%◌, ◌<◌, ◌≤◌, Bool, true, ◌⊎◌, Some, sym, ap, ◌∙◌, subst, inl, inr, arith}
use Rattle.std.proofs.Math.Nat.{div-mul-le_self, mul-le-mul_right}
use Rattle.std.proofs.lemmas.Bool.{and_from, and_parts, cases_lt}
use Rattle.std.proofs.lemmas.Nat.{div-add-mod', div-mul-add, mod-mul-add, div_below, le-div, mod_below}
use Rattle.calendar.specs.Earliest.{Quiet, Earliest, parted}
use Rattle.calendar.proofs.Finds.{quiet_join}

module _ (w : ℕ) (some : 0 < w) (outer inner : ℕ → Bool) where
  abbrev both : ℕ → Bool
  both = parted w outer inner

  -- where quotients from a on and below b are silent, so are the numbers
  pub quiet_quotients : (a b from : ℕ) → a * w ≤ from → Quiet outer a b → Quiet both from (b * w)
  quiet_quotients a b from h q j l u t =
      q (j / w) (le-div a j w some (omega arith)) (div_below j w b some u) (and_parts (outer (j / w)) (inner (j % w)) t).0

  -- where remainders from r on and below s are silent, so are the numbers of one quotient
  pub quiet_remainders : (f r s : ℕ) → s ≤ w → Quiet inner r s → Quiet both (f * w + r) (f * w + s)
  quiet_remainders f r s h q j l u t =
      let m = j - f * w in
      let p : f * w + m ≡ j = omega arith in
      let e : j % w ≡ m = ap (λ (n : ℕ). n % w) (sym p) ∙ mod-mul-add f w m (omega arith) in
      q (j % w) (omega (arith, e)) (omega (arith, e)) (and_parts (outer (j / w)) (inner (j % w)) t).1

  -- one quotient more
  next_quotient : (f : ℕ) → (f + 1) * w ≡ f * w + w
  next_quotient f = omega arith

  -- where the quotients before f are silent, so are the numbers before those of the quotient f
  pub leads : (from f : ℕ) → Quiet outer (from / w) f → Quiet both from (f * w + (from - f * w))
  leads from f q = go (cases_lt from (f * w))
    where
      go : (from < f * w) ⊎ (f * w ≤ from) → Quiet both from (f * w + (from - f * w))
      go (inl l) = let e : f * w ≡ f * w + (from - f * w) = omega arith in
          subst (Quiet both from) e (quiet_quotients (from / w) f from (div-mul-le_self from w) q)
      go (inr g) = λ j h u t. absurd (omega arith)

  -- a number is below those of a quotient after its own
  pub later_quotient : (from f next : ℕ) → from / w ≤ f → f < next → from ≤ next * w
  later_quotient from f next h l =
      omega (arith, next_quotient (from / w), div-add-mod' from w, mod_below from w some, mul-le-mul_right {m = from / w + 1} {n = next} w (omega arith))

  -- a quotient and a remainder that pass, and silence before them
  pub found : (limit from f s : ℕ) → from ≤ f * w + s → f < limit → s < w → outer f ≡ true → inner s ≡ true
      → Quiet both from (f * w + s) → Earliest both from (limit * w) (Some (f * w + s))
  found limit from f s l b r p q quiet =
      let most : f * w + w ≤ limit * w = omega (arith, next_quotient f, mul-le-mul_right {m = f + 1} {n = limit} w (omega arith)) in
      let n = f * w + s in (
        (l, omega arith),
        (and_from (outer (n / w)) (inner (n % w)) (ap outer (div-mul-add f w s r) ∙ p) (ap inner (mod-mul-add f w s r) ∙ q), quiet),
      )

  -- the quotient f is silent from there on, and so are those before the quotient `next`
  pub goes_on : (from f next : ℕ) → Quiet outer (from / w) f → Quiet inner (from - f * w) w → Quiet outer (f + 1) next → f < next → Quiet both from (next * w)
  goes_on from f next before within between l =
      let over = f * w + (from - f * w) in
      go (cases_lt over (f * w + w))
    where
      rest : Quiet both (f * w + w) (next * w)
      rest = quiet_quotients (f + 1) next (f * w + w) (omega (arith, next_quotient f)) between

      go : (f * w + (from - f * w) < f * w + w) ⊎ (f * w + w ≤ f * w + (from - f * w)) → Quiet both from (next * w)
      go (inl l) =
          quiet_join both from (f * w + (from - f * w)) (next * w) (leads from f before)
          (quiet_join both (f * w + (from - f * w)) (f * w + w) (next * w) (quiet_remainders f (from - f * w) w (omega arith) within) rest)
      go (inr g) = λ j h u t. rest j (omega arith) u t
