-- Where units lead: under one calibration, to the second that has begun by then, with the seconds between counted.
-- Assumes nothing.
use Rattle.std.proofs.Common.{◌≡◌, ℕ, zero, suc, ◌+◌, ◌-◌, ◌%◌, ◌<◌, ◌≤◌, cond, refl, ap, subst, arith}
use lib.Arith.{lt_of_le-ne}
use Rattle.std.proofs.lemmas.Bool.{cond_both, eqb-true, eqb-false}
use Rattle.std.proofs.lemmas.Bool.Decides.{nat_tests}
use Rattle.steps.specs.Iterate.{iterate}
use Rattle.steps.proofs.Laws.{iterate_add}
use Rattle.seconds.specs.Corrections.{corrected}
use Rattle.seconds.specs.Laws.{Numbered, CorrectedByFormula}
use Rattle.seconds.specs.Lengths.{units_of, length_at}
use Rattle.seconds.specs.Starts.{RunsAt, start, counts_of}
use Rattle.seconds.specs.Units.{Running, Run, starting, index_after, none, if_shortened, if_lengthened, and_one, ends, next_second, goes_on, unit, begun}
use Rattle.seconds.specs.declared.calibration.Calibration.{Calibration}
use Rattle.seconds.specs.declared.counts.Counts.{Counts}
use Rattle.seconds.proofs.Corrected.{corrected_next, corrected_grows}
use Rattle.seconds.proofs.Starts.{start_next, start_grows, same_number, same_running}

-- Units inside the running second.
module _ (k : Calibration) (r : Run) where
  pub goes : (n : ℕ) → r.running.gone + n < units_of r.running.length → iterate (unit k) n r ≡ goes_on n r
  unfolding iterate unit
  goes zero h = grind arith
  goes (suc n) h = rw (goes n (omega arith)) (grind (arith, nat_tests))

  -- all that are left of it
  pub completes : (n : ℕ) → r.running.gone + n + 1 ≡ units_of r.running.length → iterate (unit k) (suc n) r ≡ next_second k r
  unfolding iterate unit
  completes n h = rw (goes n (omega arith)) (grind (arith, nat_tests))

-- From within second q of a calibration some units led here, into the second of this number.
pub record Reached (k : Calibration) (q : ℕ) (before : Run) (units : ℕ) (after : Run) : Type 0 where
  pub number : ℕ
  pub runs : RunsAt k (start k q + before.running.gone + units) number after.running
  pub seconds : after.counts.seconds + q ≡ before.counts.seconds + number
  pub shortened : after.counts.shortened + cond k.shortens (corrected k q) 0 ≡ before.counts.shortened + cond k.shortens (corrected k number) 0
  pub lengthened : after.counts.lengthened + cond k.shortens 0 (corrected k q) ≡ before.counts.lengthened + cond k.shortens 0 (corrected k number)

module _ (k : Calibration) (q : ℕ) (before : Run) where
  ended : (units : ℕ) (r : Run) → Reached k q before units r → r.running.gone + 1 ≡ units_of r.running.length
      → Reached k q before (suc units) (next_second k r)
  ended units r h e =
      let n : ℕ = h.number in
      let l : r.running.length ≡ length_at k (n % 3840) = h.runs.numbered.length in
      let next : index_after r.running.index ≡ suc n % 3840 = omega (arith, h.runs.numbered.index) in
      record {
        number = suc n;
        runs = record {
          numbered = record { index = next; length = ap (length_at k) next };
          within = grind arith;
          exact = omega (arith, h.runs.exact, start_next k n, ap units_of l);
        };
        seconds = omega arith;
        shortened = grind (arith, h.shortened, corrected_next k n, ap if_shortened l);
        lengthened = grind (arith, h.lengthened, corrected_next k n, ap if_lengthened l);
      }

  went_on : (units : ℕ) (r : Run) → Reached k q before units r → (r.running.gone + 1 ≡ units_of r.running.length → ⊥)
      → Reached k q before (suc units) (goes_on 1 r)
  went_on units r h e =
      let n = h.runs.numbered in
      record {
        number = h.number;
        runs = record { numbered = record { index = n.index; length = n.length }; within = lt_of_le-ne (omega (arith, h.runs.within)) e; exact = omega (arith, h.runs.exact) };
        seconds = h.seconds;
        shortened = h.shortened;
        lengthened = h.lengthened;
      }

  reached_more : (units : ℕ) (r : Run) → Reached k q before units r → Reached k q before (suc units) (unit k r)
  unfolding unit
  reached_more units r h =
      cond_both (ends r.running) (next_second k r) (goes_on 1 r) (Reached k q before (suc units))
      (λ e. ended units r h (eqb-true _ _ e))
      (λ e. went_on units r h (eqb-false _ _ e))

  pub reached : Numbered k q before.running → before.running.gone < units_of before.running.length
      → (units : ℕ) → Reached k q before units (iterate (unit k) units before)
  unfolding iterate
  reached h w zero =
      record { number = q; runs = record { numbered = h; within = w; exact = omega arith }; seconds = refl; shortened = refl; lengthened = refl }
  reached h w (suc units) = reached_more units (iterate (unit k) units before) (reached h w units)

-- The formula for the seconds of a calibration that stays as it is.
pub by_formula : (k : Calibration) (n units : ℕ) (before : Running) → before.gone < units_of before.length → Numbered k n before
    → CorrectedByFormula k n (iterate (unit k) units (begun before))
by_formula k n units before w h =
    let after : Run = iterate (unit k) units (begun before) in
    let r : Reached k n (begun before) units after = reached k n (begun before) h w units in
    let e : r.number ≡ n + after.counts.seconds = omega (arith, r.seconds) in
    record {
      formula = grind (arith, r.shortened, r.lengthened, ap (corrected k) e);
      sign = grind (arith, r.shortened, r.lengthened);
      numbered = subst (λ (m : ℕ). Numbered k m after.running) e r.runs.numbered;
    }

-- From the start of the second of one number, so many units lead into the second of another.
module _ (k : Calibration) (first units second : ℕ) (after : Running) (runs : RunsAt k (start k first + units) second after) where
  pub past : first ≤ second
  past = grind (arith, ap units_of runs.numbered.length, start_next k second, start_grows k (suc second) first)

  pub leads : (c : Counts) → iterate (unit k) units (record { running = starting k (first % 3840); counts = c })
      ≡ record {
        running = after;
        counts = record {
          seconds = second - first + c.seconds;
          shortened = cond k.shortens (corrected k second - corrected k first) 0 + c.shortened;
          lengthened = cond k.shortens 0 (corrected k second - corrected k first) + c.lengthened;
        };
      }
  leads c =
      let before : Run = record { running = starting k (first % 3840); counts = c } in
      let run : Run = iterate (unit k) units before in
      let r : Reached k first before units run = reached k first before (record { index = refl; length = refl }) (grind arith) units in
      let there : RunsAt k (start k first + units) r.number run.running = subst (λ (m : ℕ). RunsAt k m r.number run.running) (omega arith) r.runs in
      let same : r.number ≡ second = same_number k _ r.number second run.running after there runs in
      let running : run.running ≡ after = same_running k _ r.number second run.running after there runs in
      let more = corrected_grows k first second past in
      let many : corrected k r.number ≡ corrected k second = ap (corrected k) same in
      grind (arith, running, past, r.seconds, r.shortened, r.lengthened)

-- All that units do where the running second ends in them.
pub leads_on : (k : Calibration) (r : Running) (units left second : ℕ) (after : Running) → left + r.gone ≡ units_of r.length → 0 < left
    → left ≤ units → RunsAt k (start k (r.index + 1) + (units - left)) second after
    → iterate (unit k) units (begun r)
    ≡ record {
      running = after;
      counts = and_one r.length (counts_of k (second - (r.index + 1)) (corrected k second - corrected k (r.index + 1)));
    }
leads_on k r units left second after whole some enough runs =
    let split : units ≡ suc (left - 1) + (units - left) = omega arith in
    let add = iterate_add (unit k) (suc (left - 1)) (units - left) (begun r) in
    let whole_second = completes k (begun r) (left - 1) (omega arith) in
    let lead = leads k (r.index + 1) (units - left) second after runs (and_one r.length none) in
    grind (arith, add, whole_second, lead)
