-- The second that runs some units after a new cycle, as the code finds it: the corrections of a cycle come to less than a second.
-- Assumes nothing.
use Rattle.std.proofs.Common.{◌≡◌, ℕ, ◌+◌, ◌-◌, ◌*◌, ◌/◌, ◌%◌, ◌^◌, ◌<◌, ◌≤◌, sym, ap, subst, arith}
use mir.Val.{bool_byte}
use Rattle.std.proofs.lemmas.Nat.{div_below, mod_below}
use Rattle.seconds.specs.Lengths.{units_of, length_at}
use Rattle.seconds.specs.Starts.{RunsAt, start}
use Rattle.seconds.specs.Units.{Running, starting, further}
use Rattle.seconds.specs.declared.calibration.Calibration.{Calibration}
use Rattle.seconds.proofs.Corrected.{corrected_most}
use Rattle.seconds.proofs.Starts.{start_none, start_next, start_grows, start_accounted}

-- The second at this index of a cycle is the one that runs when w of the cycle's units have gone.
pub record Runs (k : Calibration) (w index : ℕ) : Type 0 where
  pub placed : index < 3840
  pub started : start k index ≤ w
  pub running : w < start k index + units_of (length_at k index)

pub runs_at : (k : Calibration) (w index gone : ℕ) (r : Running) → Runs k w index → gone ≡ w - start k index
    → r ≡ further gone (starting k index) → RunsAt k w r.index r
runs_at k w index gone r runs left e =
    let own : index ≡ index % 3840 = omega (arith, runs.placed) in
    subst (λ (s : Running). RunsAt k w s.index s) (sym e) (record {
      numbered = record { index = own; length = ap (length_at k) own };
      within = omega (arith, runs.started, runs.running);
      exact = omega (arith, runs.started);
    })

module _ (k : Calibration) where
  -- a second starts within half a second of where a plain one would
  pub near : (n : ℕ) → n ≤ 3840
      → (32768 * n ≤ start k n + 15872 * bool_byte k.shortens) × (start k n + 15872 * bool_byte k.shortens ≤ 32768 * n + 15872)
  near n h = grind (arith, start_accounted k n, corrected_most k n h)

  pub cycle_least : 125813248 ≤ start k 3840
  cycle_least = grind (arith, near 3840)

  pub cycle_most : start k 3840 ≤ 125844992
  cycle_most = grind (arith, near 3840)

  -- The latest second that can run when w units have gone; this one does, or the one before.
  module _ (w latest : ℕ) (is : latest ≡ w / 32768 + bool_byte k.shortens) (inside : w < start k 3840) where
    pub latest_most : latest ≤ 3840
    latest_most = grind (arith, near 3840)

    pub this_one : start k latest ≤ w → Runs k w latest
    this_one h =
        let placed : latest < 3840 = grind (arith, latest_most) in
        let own : latest % 3840 ≡ latest = omega arith in
        record { placed = placed; started = h; running = grind (arith, near (latest + 1), start_next k latest) }

    pub not_first : w < start k latest → 1 ≤ latest
    not_first h = grind (arith, start_none k)

    pub one_before : w < start k latest → Runs k w (latest - 1)
    one_before h =
        let some : 1 ≤ latest = not_first h in
        let most : latest ≤ 3840 = latest_most in
        let own : (latest - 1) % 3840 ≡ latest - 1 = omega arith in
        record { placed = omega arith; started = grind (arith, near (latest - 1)); running = grind (arith, start_next k (latest - 1)) }

  -- Whole cycles of w units, and what is left.
  module _ (units w : ℕ) (is : w ≡ start k 3840) where
    pub few_cycles : units < 2 ^ 64 → units / w < 1099511627775
    few_cycles h = div_below units w 1099511627775 (omega (arith, cycle_least)) (omega (arith, cycle_least))

    pub rest_below : (first : ℕ) → first ≤ 3840 → start k first + units % w < 2 * w
    rest_below first h =
        omega (arith, mod_below units w (omega (arith, cycle_least)), start_grows k first 3840 h)
