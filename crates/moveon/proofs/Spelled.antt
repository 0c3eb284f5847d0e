-- A line that writes a request reads as that request. Assumes nothing.
use Rattle.std.proofs.Common.{◌≡◌, ℕ, ◌+◌, ◌-◌, ◌<◌, Bool, true, false, not, eqb, List, [], ◌∷◌, ◌++◌, length, take, drop, Some, None, Ok, Result, sym, refl, ap, ◌∙◌, subst, arith}
use Rattle.std.proofs.lemmas.List.{append-nil, drop_all, drop-drop, drop_at, take_at}
use Rattle.std.proofs.lemmas.List.Elements.{All-tail}
use Rattle.std.proofs.lemmas.Bool.{ne_eqb, eq-eqb, not-true, cond-true, cond-false}
use Rattle.std.specs.List.{between, prefix_len, AllPass}
use Rattle.moveon.specs.declared.fault.LineFault.{LineFault}
use Rattle.moveon.specs.declared.line.Request.{Request}
use Rattle.moveon.specs.Digits.{hex_byte, count_in}
use Rattle.moveon.specs.Fields.{blank, solid, past_blanks, past_solids, field_from, none, unended}
use Rattle.moveon.specs.Reading.{and_then, byte_read, count_read, byte_from, count_from, nothing_from, bytes_from, request_in, reading}
use Rattle.moveon.specs.Written.{Blanks, Ended, Opens, Writes, Asks}

-- the run ends here: the byte fails the test, or there is none
abbrev Stops : (ℕ → Bool) → List ℕ → Type 0
Stops p [] = Unit {0}
Stops p (b ∷ bs) = p b ≡ false

leading_run : (p : ℕ → Bool) (run rest : List ℕ) → AllPass p run → Stops p rest → prefix_len p (run ++ rest) ≡ length run
leading_run p [] [] all stops = refl
leading_run p [] (b ∷ rest) all stops = rw stops refl
leading_run p (b ∷ run) rest all stops =
    let first : p b ≡ true = all 0 b (omega arith) in
    rw first (omega (arith, leading_run p run rest (All-tail (λ x. p x ≡ true) b run all) stops))

field_stops_blanks : (text rest : List ℕ) → 0 < length text → AllPass solid text → Stops blank (text ++ rest)
field_stops_blanks [] rest some solids = absurd (omega arith)
field_stops_blanks (b ∷ text) rest some solids = not-true (blank b) (solids 0 0 some)

ended_stops_field : (rest : List ℕ) → Ended rest → Stops solid rest
ended_stops_field [] ended = tt
ended_stops_field (b ∷ rest) ended = ap not ended

-- the field that opens the line at a place
module _ (line : List ℕ) (from : ℕ) (text rest : List ℕ) (field : Opens (drop from line) text rest) where
  abbrev pub start : ℕ
  start = past_blanks line from

  abbrev pub end : ℕ
  end = past_solids line start

  start_is : start ≡ from + length field.gap
  start_is =
      ap (λ l. from + prefix_len blank l) field.cut
      ∙ ap (λ n. from + n) (leading_run blank field.gap (text ++ rest) field.blanks (field_stops_blanks text rest field.some field.solids))

  from_start : drop start line ≡ text ++ rest
  from_start =
      ap (λ n. drop n line) start_is
      ∙ sym (drop-drop (length field.gap) from line)
      ∙ ap (drop (length field.gap)) field.cut
      ∙ drop_at field.gap (text ++ rest) (length field.gap) refl

  end_is : end ≡ start + length text
  end_is =
      ap (λ l. start + prefix_len solid l) from_start
      ∙ ap (λ n. start + n) (leading_run solid text rest field.solids (ended_stops_field rest field.ended))

  pub not_empty : start ≡ end → ⊥
  not_empty same = omega (arith, end_is, field.some)

  pub text_is : between start end line ≡ text
  text_is =
      let long : end - start ≡ length text = omega (arith, end_is) in
      ap (λ n. take n (drop start line)) long ∙ ap (take (length text)) from_start ∙ take_at text rest (length text) refl

  pub rest_is : drop end line ≡ rest
  rest_is =
      ap (λ n. drop n line) end_is
      ∙ sym (drop-drop (length text) start line)
      ∙ ap (drop (length text)) from_start
      ∙ drop_at text rest (length text) refl

  pub reads_byte : (byte : ℕ) → hex_byte text ≡ Some byte → byte_from line from ≡ Ok (byte, end)
  reads_byte byte e =
      cond-false (eqb start end) _ _ (ne_eqb start end not_empty)
      ∙ ap (byte_read (record { start = start; end = end })) (ap hex_byte text_is ∙ e)

  pub reads_count : (seconds : ℕ) → count_in text ≡ Ok seconds → count_from line from ≡ Ok (seconds, end)
  reads_count seconds e =
      cond-false (eqb start end) _ _ (ne_eqb start end not_empty)
      ∙ ap (count_read (record { start = start; end = end })) (ap count_in text_is ∙ e)

goes_on : {X Y : Type 0} {r : Result X LineFault} {x : X} (next : X → Result Y LineFault) → r ≡ Ok x → and_then r next ≡ next x
goes_on next e = ap (λ r. and_then r next) e

-- from a place on there are only blanks
no_field : (line : List ℕ) (from : ℕ) → Blanks (drop from line) → none (field_from line from) ≡ true
no_field line from blanks =
    let rest = drop from line in
    let start = past_blanks line from in
    let passed : prefix_len blank rest ≡ length rest = ap (prefix_len blank) (sym (append-nil rest)) ∙ leading_run blank rest [] blanks tt in
    let done : drop start line ≡ [] = sym (drop-drop (prefix_len blank rest) from line) ∙ drop_all (prefix_len blank rest) rest (omega arith) in
    eq-eqb start (past_solids line start) (omega (arith, ap (prefix_len solid) done))

reads_nothing : (line : List ℕ) (from : ℕ) → Blanks (drop from line) → nothing_from line from ≡ Ok tt
reads_nothing line from blanks = cond-true (none (field_from line from)) _ _ (no_field line from blanks)

-- from a place on, the bytes read as written, and the count is left
reads_bytes : (bytes : List ℕ) (seconds : ℕ) (line : List ℕ) (from : ℕ) → Writes bytes seconds (drop from line) → (place : ℕ) × (bytes_from (length bytes) line from ≡ Ok (bytes, place)) × Writes [] seconds (drop place line)
unfolding bytes_from
reads_bytes [] seconds line from written = (from, refl, written)
reads_bytes (byte ∷ bytes) seconds line from written =
    let text = written.0 in
    let rest = written.1 in
    let field = written.2 in
    let left = subst (Writes bytes seconds) (sym (rest_is line from text rest field)) written.4 in
    let others = reads_bytes bytes seconds line (end line from text rest field) left in (
      others.0,
      ap (λ r. and_then r (λ first. and_then (bytes_from (length bytes) line first.1) (λ more. Ok (first.0 ∷ more.0, more.1)))) (reads_byte line from text rest field byte written.3)
          ∙ ap (λ r. and_then r (λ more. Ok (byte ∷ more.0, more.1))) others.1,
      others.2,
    )

reads_request : (bytes : List ℕ) (seconds : ℕ) (line : List ℕ) → length bytes ≡ 7 → Writes bytes seconds line → request_in line ≡ Ok (record { locations = bytes; seconds = seconds })
reads_request bytes seconds line seven written =
    let read = reads_bytes bytes seconds line 0 written in
    let place = read.0 in
    let text = read.2.0 in
    let rest = read.2.1 in
    let field = read.2.2 in
    let none_left = subst Blanks (sym (rest_is line place text rest field)) read.2.4 in
    goes_on _ (ap (λ n. bytes_from n line 0) (sym seven) ∙ read.1)
    ∙ goes_on _ (reads_count line place text rest field seconds read.2.3)
    ∙ goes_on _ (reads_nothing line (end line place text rest field) none_left)

first_field : (bytes : List ℕ) (seconds : ℕ) (line : List ℕ) → Writes bytes seconds line → (text : List ℕ) × (rest : List ℕ) × Opens line text rest
first_field [] seconds line written = (written.0, written.1, written.2)
first_field (byte ∷ bytes) seconds line written = (written.0, written.1, written.2)

pub written_is_read : (line : List ℕ) (request : Request) → Asks line request → reading line ≡ Ok (Some request)
written_is_read line request asks =
    let text_line = unended line in
    let first = first_field request.locations request.seconds text_line asks.1 in
    cond-false (none (field_from text_line 0)) _ _ (ne_eqb _ _ (not_empty text_line 0 first.0 first.1 first.2))
    ∙ goes_on _ (reads_request request.locations request.seconds text_line asks.0 asks.1)

pub blanks_are_passed : (line : List ℕ) → Blanks (unended line) → reading line ≡ Ok None
blanks_are_passed line blanks = cond-true (none (field_from (unended line) 0)) _ _ (no_field (unended line) 0 blanks)
