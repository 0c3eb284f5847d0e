-- Digits and spare bits keep apart, so that what was read in is shown again, and what is shown is read back.
-- Assumes nothing.
use Rattle.std.proofs.Common.{◌≡◌, ℕ, ◌+◌, ◌-◌, ◌*◌, ◌/◌, ◌%◌, ◌^◌, ◌<◌, ◌≤◌, true, ◌&&◌, leb, ap, ◌∙◌, mod-eq_of_lt, arith}
use lib.Bits.{bit_and, bit_or, and_mask, and_high, or_shifted_r}
use Rattle.std.proofs.lemmas.Nat.{div_below, mod_below, pow_pos, pow-add, shr_split, mod-mul-add}
use Rattle.std.proofs.lemmas.Bool.{le-leb, leb-true, and_parts, and_from}
use Rattle.bcd.specs.Digits.{digits, written}
use Rattle.bcd.proofs.Laws.{written-digits, digits-written}
use Rattle.calendar.specs.Locations.{mask, low, high, value, stands, joined}
use Rattle.calendar.specs.declared.location.Location.{Location}
use Rattle.dates.specs.Dates.{Between}

-- A byte under a mask of k bits, and the j bits above.
module _ (k j : ℕ) where
  -- spare bits do not show under the mask
  masked : (d s : ℕ) → d < 2 ^ k → bit_and (bit_or d (bit_and s (2 ^ (j + k) - 2 ^ k))) (2 ^ k - 1) ≡ d
  masked d s h =
      let x = s / 2 ^ k % 2 ^ j in
      ap (λ (m : ℕ). bit_and (bit_or d m) (2 ^ k - 1)) (and_high s j k)
      ∙ (ap (λ (m : ℕ). bit_and m (2 ^ k - 1)) (or_shifted_r x k d h) ∙ (and_mask (x * 2 ^ k + d) k ∙ mod-mul-add x (2 ^ k) d h))

  -- the digits of a byte, joined with its spare bits, are the byte
  rejoined : (b : ℕ) → b < 2 ^ (j + k) → bit_or (bit_and b (2 ^ k - 1)) (bit_and b (2 ^ (j + k) - 2 ^ k)) ≡ b
  rejoined b h =
      let low = mod_below b (2 ^ k) (pow_pos k) in
      let all : b < 2 ^ j * 2 ^ k = rw pow-add at h in
      let high : b / 2 ^ k % 2 ^ j ≡ b / 2 ^ k = mod-eq_of_lt (div_below b (2 ^ k) (2 ^ j) (pow_pos k) all) in
      ap (λ (m : ℕ). bit_or m (bit_and b (2 ^ (j + k) - 2 ^ k))) (and_mask b k)
      ∙ (ap (bit_or (b % 2 ^ k)) (and_high b j k)
      ∙ (or_shifted_r (b / 2 ^ k % 2 ^ j) k (b % 2 ^ k) low
      ∙ (ap (λ (m : ℕ). m * 2 ^ k + b % 2 ^ k) high ∙ shr_split b k)))

-- A location whose mask has k bits, with j spare bits above.
module _ (l : Location) (k j : ℕ) (bits : mask l ≡ 2 ^ k - 1) (above : 255 - mask l ≡ 2 ^ (j + k) - 2 ^ k) where
  -- what it held is shown again
  pub shown_again : (b n : ℕ) → b < 2 ^ (j + k) → stands l b ≡ true → n ≡ value l b → joined l n b ≡ b
  shown_again b n h s e =
      let d = bit_and b (mask l) in
      let ones : d % 16 ≤ 9 =
      leb-true (d % 16) 9 (and_parts (leb (d / 16) 9) (leb (d % 16) 9) (and_parts (leb (d / 16) 9 && leb (d % 16) 9) (leb (low l) (value l b) && leb (value l b) (high l)) s).0).1 in
      ap (λ (m : ℕ). joined l m b) e
      ∙ (ap (λ (m : ℕ). bit_or m (bit_and b (255 - mask l))) (digits-written d ones)
      ∙ ((λ i. bit_or (bit_and b (bits i)) (bit_and b (above i))) ∙ rejoined k j b h))

  hidden : (n s : ℕ) → digits n < 2 ^ k → bit_and (joined l n s) (mask l) ≡ digits n
  hidden n s h = (λ i. bit_and (bit_or (digits n) (bit_and s (above i))) (bits i)) ∙ masked k j (digits n) s h

  -- what it shows is read back
  pub read_again : (n s : ℕ) → digits n < 2 ^ k → n ≤ 99 → Between (low l) (high l) n → (stands l (joined l n s) ≡ true) × (value l (joined l n s) ≡ n)
  read_again n s h top range =
      let b = joined l n s in
      let d = bit_and b (mask l) in
      let e = hidden n s h in
      let v : value l b ≡ n = ap written e ∙ written-digits n in (
        and_from (leb (d / 16) 9 && leb (d % 16) 9) (leb (low l) (value l b) && leb (value l b) (high l))
            (and_from (leb (d / 16) 9) (leb (d % 16) 9) (le-leb (d / 16) 9 (omega arith)) (le-leb (d % 16) 9 (omega arith)))
            (and_from (leb (low l) (value l b)) (leb (value l b) (high l)) (le-leb (low l) (value l b) (omega arith)) (le-leb (value l b) (high l) (omega arith))),
        v,
      )
