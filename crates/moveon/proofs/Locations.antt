-- The location bytes, one after the other. Assumes nothing.
use Rattle.std.proofs.Common.{◌≡◌, ℕ, suc, ◌+◌, ◌-◌, ◌<◌, ◌≤◌, List, [], ◌∷◌, ◌++◌, length, take, set, Ok, Err, Result, sym, refl, ap, ◌∙◌, append_assoc, append-nil, arith, if◌then◌else◌, is_ok}
use Rattle.std.proofs.lemmas.List.{take_all, take_more_set}
use Rattle.moveon.specs.declared.fault.LineFault.{LineFault}
use Rattle.moveon.specs.Fields.{field_from}
use Rattle.moveon.specs.Reading.{and_then, byte_from, bytes_from, bytes_end}

-- bytes that were read before the others
abbrev pub behind : List ℕ → Result (List ℕ × ℕ) LineFault → Result (List ℕ × ℕ) LineFault
behind front rest = and_then rest (λ others. Ok (front ++ others.0, others.1))

-- what the line reads as, where the first i of the bytes are read, and the last of them ends at place
abbrev pub onward : List ℕ → ℕ → List ℕ → ℕ → Result (List ℕ × ℕ) LineFault
onward line i bytes place = behind (take i bytes) (bytes_from (7 - i) line place)

module _ (line : List ℕ) (i : ℕ) (bytes : List ℕ) (place : ℕ) where
  one_left : i < 7 → bytes_from (7 - i) line place ≡ bytes_from (suc (7 - (i + 1))) line place
  one_left h = let e : 7 - i ≡ suc (7 - (i + 1)) = omega arith in ap (λ n. bytes_from n line place) e

  -- what a byte read at place, or a fault there, makes of the line
  abbrev from_first : Result (ℕ × ℕ) LineFault → Result (List ℕ × ℕ) LineFault
  from_first r = behind (take i bytes) (and_then r (λ first. and_then (bytes_from (7 - (i + 1)) line first.1) (λ others. Ok (first.0 ∷ others.0, others.1))))

  pub one_byte_more : (byte end : ℕ) → i < 7 → length bytes ≡ 7 → Ok (byte, end) ≡ byte_from line place → onward line (i + 1) (set bytes i byte) end ≡ onward line i bytes place
  unfolding bytes_from
  one_byte_more byte end h long e =
      ap (λ front. behind front (bytes_from (7 - (i + 1)) line end)) (take_more_set bytes i byte (omega arith))
      ∙ sym (ap (behind (take i bytes)) (one_left h) ∙ ap from_first (sym e) ∙ moved (bytes_from (7 - (i + 1)) line end))
    where
      moved : (r : Result (List ℕ × ℕ) LineFault) → behind (take i bytes) (and_then r (λ others. Ok (byte ∷ others.0, others.1))) ≡ behind (take i bytes ++ byte ∷ []) r
      moved (Ok others) = ap (λ l. Ok (l, others.1)) (sym (append_assoc (take i bytes) (byte ∷ []) others.0))
      moved (Err fault) = refl

  pub no_byte_more : (fault : LineFault) → i < 7 → Err fault ≡ byte_from line place → Err fault ≡ onward line i bytes place
  unfolding bytes_from
  no_byte_more fault h e = sym (ap (behind (take i bytes)) (one_left h) ∙ ap from_first (sym e))

  -- where the next byte leads, by whether it is read
  one_field : (r : Result (ℕ × ℕ) LineFault) → i < 7 → r ≡ byte_from line place
      → (if is_ok r then bytes_end (7 - (i + 1)) line (field_from line place).end else (field_from line place).end) ≡ bytes_end (7 - i) line place
  unfolding bytes_end
  one_field r h e =
      let end : ℕ = (field_from line place).end in
      let n : 7 - i ≡ suc (7 - (i + 1)) = omega arith in
      ap (λ s. if is_ok s then bytes_end (7 - (i + 1)) line end else end) e ∙ sym (ap (λ m. bytes_end m line place) n)

  pub goes_further : (byte end : ℕ) → i < 7 → Ok (byte, end) ≡ byte_from line place
      → bytes_end (7 - (i + 1)) line (field_from line place).end ≡ bytes_end (7 - i) line place
  goes_further byte end h e = one_field (Ok (byte, end)) h e

  pub stops_there : (fault : LineFault) → i < 7 → Err fault ≡ byte_from line place → (field_from line place).end ≡ bytes_end (7 - i) line place
  stops_there fault h e = one_field (Err fault) h e

  -- past all seven it stops
  pub all_past : 7 ≤ i → place ≡ bytes_end (7 - i) line place
  unfolding bytes_end
  all_past h = let e : 7 - i ≡ 0 = omega arith in sym (ap (λ n. bytes_end n line place) e)

  pub all_bytes : 7 ≤ i → length bytes ≡ 7 → Ok (bytes, place) ≡ onward line i bytes place
  unfolding bytes_from
  all_bytes h long =
      let e : 7 - i ≡ 0 = omega arith in
      sym (ap (λ n. behind (take i bytes) (bytes_from n line place)) e ∙ ap (λ l. Ok (l, place)) (append-nil (take i bytes) ∙ take_all i bytes (omega arith)))
