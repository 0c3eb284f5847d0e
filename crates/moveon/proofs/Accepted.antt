-- A line that reads as a request writes that request. Assumes nothing.
use Rattle.std.proofs.Common.{◌≡◌, ℕ, zero, suc, ◌+◌, ◌-◌, ◌<◌, Bool, true, false, cond, not, List, [], ◌∷◌, ◌++◌, length, take, drop, Some, None, Ok, Err, Option, Result, sym, refl, ap, ◌∙◌, subst, ⊎_elim, arith}
use Rattle.std.proofs.lemmas.List.{drop-drop, take-append-drop, length-take-le, get_or-take, drop_more, drop_all}
use Rattle.std.proofs.lemmas.List.Folds.{length-prefix_len}
use Rattle.std.proofs.lemmas.List.Sums.{prefix_len-le-length, prefix_len-drop_yes, prefix_len_passes, prefix_len_stops}
use Rattle.std.proofs.lemmas.Bool.{cases_lt, eqb-false, eqb-true, not-false}
use Rattle.std.specs.List.{prefix_len, AllPass}
use Rattle.moveon.specs.declared.digits.CountFault.{CountFault}
use Rattle.moveon.specs.declared.fault.LineFault.{LineFault}
use Rattle.moveon.specs.declared.line.Request.{Request}
use Rattle.moveon.specs.Digits.{hex_byte, count_in}
use Rattle.moveon.specs.Fields.{Span, blank, solid, past_blanks, past_solids, field_from, none, text_of, unended}
use Rattle.moveon.specs.Reading.{and_then, byte_read, count_read, byte_from, count_from, nothing_from, bytes_from, request_in, reading}
use Rattle.moveon.specs.Written.{Blanks, Ended, Opens, Writes, Asks}

-- the longest front that passes passes
front_passes : (p : ℕ → Bool) (bytes : List ℕ) → AllPass p (take (prefix_len p bytes) bytes)
front_passes p bytes k d within =
    let inside : k < prefix_len p bytes = omega (arith, length-prefix_len p bytes) in
    rw get_or-take (prefix_len_passes p bytes k d inside)

-- behind the longest run of solid bytes comes a blank, or nothing
field_ends : (bytes : List ℕ) → Ended (drop (prefix_len solid bytes) bytes)
field_ends bytes =
    ⊎_elim
    (λ inside. rw (drop_more bytes (prefix_len solid bytes) 0 inside) (not-false _ (prefix_len_stops solid bytes 0 inside)))
    (λ past. rw (drop_all (prefix_len solid bytes) bytes past) tt)
    (cases_lt (prefix_len solid bytes) (length bytes))

-- bytes with no run of solid ones behind the blanks are blank
all_blanks : (bytes : List ℕ) → prefix_len solid (drop (prefix_len blank bytes) bytes) ≡ 0 → Blanks bytes
all_blanks bytes none_solid k d within =
    ⊎_elim
    (λ inside. absurd (omega (arith, prefix_len-drop_yes solid bytes (prefix_len blank bytes) 0 inside (ap not (prefix_len_stops blank bytes 0 inside)))))
    (λ past. prefix_len_passes blank bytes k d (omega arith))
    (cases_lt (prefix_len blank bytes) (length bytes))

-- a field that is not empty opens the line at its place
opens : (line : List ℕ) (from : ℕ) → none (field_from line from) ≡ false → Opens (drop from line) (text_of line (field_from line from)) (drop (field_from line from).end line)
opens line from some =
    let bytes = drop from line in
    let gap = prefix_len blank bytes in
    let start = past_blanks line from in
    let after = drop start line in
    let run = prefix_len solid after in
    let long : past_solids line start - start ≡ run = omega arith in
    let on : drop (start + run) line ≡ drop run after = sym (drop-drop run start line) in
    record {
      gap = take gap bytes;
      cut =
          sym (take-append-drop gap bytes)
          ∙ ap (λ l. take gap bytes ++ l) (drop-drop gap from line ∙ sym (take-append-drop run after) ∙ (λ i. take (sym long i) after ++ sym on i));
      blanks = front_passes blank bytes;
      some = subst (λ n. 0 < length (take n after)) (sym long) (omega (arith, length-take-le run after (prefix_len-le-length solid after), eqb-false start (past_solids line start) some));
      solids = subst (λ n. AllPass solid (take n after)) (sym long) (front_passes solid after);
      ended = subst Ended (sym on) (field_ends after);
    }

went_on : {X Y : Type 0} (r : Result X LineFault) (next : X → Result Y LineFault) (y : Y) → and_then r next ≡ Ok y → (x : X) × (r ≡ Ok x) × (next x ≡ Ok y)
went_on (Ok x) next y e = (x, refl, e)
went_on (Err fault) next y e = cc

byte_was : (t : Bool) (fault : LineFault) (field : Span) (o : Option ℕ) (read : ℕ × ℕ) → cond t (Err fault) (byte_read field o) ≡ Ok read → (t ≡ false) × (o ≡ Some read.0) × (field.end ≡ read.1)
byte_was true fault field o read e = cc
byte_was false fault field None read e = cc
byte_was false fault field (Some byte) read e = (refl, cc, cc)

count_was : (t : Bool) (fault : LineFault) (field : Span) (o : Result ℕ CountFault) (read : ℕ × ℕ) → cond t (Err fault) (count_read field o) ≡ Ok read → (t ≡ false) × (o ≡ Ok read.0) × (field.end ≡ read.1)
count_was true fault field o read e = cc
count_was false fault field (Err kind) read e = cc
count_was false fault field (Ok seconds) read e = (refl, cc, cc)

nothing_was : (t : Bool) (fault : LineFault) (u : Unit {0}) → ◌≡◌ {A = Result (Unit {0}) LineFault} (cond t (Ok tt) (Err fault)) (Ok u) → t ≡ true
nothing_was t fault u e = grind arith

only_blanks : (line : List ℕ) (from : ℕ) → none (field_from line from) ≡ true → Blanks (drop from line)
only_blanks line from empty =
    let bytes = drop from line in
    all_blanks bytes (ap (prefix_len solid) (drop-drop (prefix_len blank bytes) from line) ∙ omega (arith, eqb-true _ _ empty))

-- the bytes that were read are written, where the count is behind them
bytes_written : (n : ℕ) (line : List ℕ) (from : ℕ) (read : List ℕ × ℕ) (seconds : ℕ) → bytes_from n line from ≡ Ok read → Writes [] seconds (drop read.1 line) → (length read.0 ≡ n) × Writes read.0 seconds (drop from line)
unfolding bytes_from
bytes_written zero line from read seconds e count =
    let same : ◌≡◌ {A = List ℕ × ℕ} ([], from) read = cc in
    (sym (ap (λ p. length p.0) same), subst (λ p. Writes p.0 seconds (drop from line)) same (subst (λ p. Writes [] seconds (drop p.1 line)) (sym same) count))
bytes_written (suc n) line from read seconds e count =
    let first = went_on (byte_from line from) _ read e in
    let others = went_on (bytes_from n line first.0.1) _ read first.2 in
    let same : ◌≡◌ {A = List ℕ × ℕ} (first.0.0 ∷ others.0.0, others.0.1) read = cc others.2 in
    let left = bytes_written n line first.0.1 others.0 seconds others.1 (subst (λ p. Writes [] seconds (drop p.1 line)) (sym same) count) in
    let field = field_from line from in
    let was = byte_was (none field) _ field (hex_byte (text_of line field)) first.0 first.1 in
    let whole : Writes (first.0.0 ∷ others.0.0) seconds (drop from line) =
    (text_of line field, drop field.end line, opens line from was.0, was.1, subst (λ n. Writes others.0.0 seconds (drop n line)) (sym was.2) left.1) in
    (sym (ap (λ p. length p.0) same) ∙ ap suc left.0, subst (λ p. Writes p.0 seconds (drop from line)) same whole)

request_written : (line : List ℕ) (request : Request) → request_in line ≡ Ok request → (length request.locations ≡ 7) × Writes request.locations request.seconds line
request_written line request e =
    let bytes = went_on (bytes_from 7 line 0) _ request e in
    let place = bytes.0.1 in
    let count = went_on (count_from line place) _ request bytes.2 in
    let done = went_on (nothing_from line count.0.1) _ request count.2 in
    let same : ◌≡◌ {A = Request} (record { locations = bytes.0.0; seconds = count.0.0 }) request = cc done.2 in
    let field = field_from line place in
    let was = count_was (none field) _ field (count_in (text_of line field)) count.0 count.1 in
    let end_blank = subst (λ n. Blanks (drop n line)) (sym was.2) (only_blanks line count.0.1 (nothing_was (none (field_from line count.0.1)) _ done.0 done.1)) in
    let last : Writes [] count.0.0 (drop place line) = (text_of line field, drop field.end line, opens line place was.0, was.1, end_blank) in
    let whole = bytes_written 7 line 0 bytes.0 count.0.0 bytes.1 last in
    subst (λ q. (length q.locations ≡ 7) × Writes q.locations q.seconds line) same whole

asked_something : (t : Bool) (r : Result Request LineFault) (request : Request) → ◌≡◌ {A = Result (Option Request) LineFault} (cond t (Ok None) (and_then r (λ q. Ok (Some q)))) (Ok (Some request)) → r ≡ Ok request
asked_something t r request e = grind arith

pub read_is_written : (line : List ℕ) (request : Request) → reading line ≡ Ok (Some request) → Asks line request
read_is_written line request e = request_written (unended line) request (asked_something (none (field_from (unended line) 0)) (request_in (unended line)) request e)

asked_nothing : (t : Bool) (r : Result Request LineFault) → ◌≡◌ {A = Result (Option Request) LineFault} (cond t (Ok None) (and_then r (λ q. Ok (Some q)))) (Ok None) → t ≡ true
asked_nothing t r e = grind arith

pub passed_is_blank : (line : List ℕ) → reading line ≡ Ok None → Blanks (unended line)
passed_is_blank line e = only_blanks (unended line) 0 (asked_nothing _ (request_in (unended line)) e)
