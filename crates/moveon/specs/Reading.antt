-- What a line asks, and what is told of one that cannot be read. Assumes nothing.
use Rattle.std.specs.Prelude.{◌≡◌, ℕ, zero, suc, ◌+◌, if◌then◌else◌, List, [], ◌∷◌, length, Some, None, Ok, Err, Option, Result, is_ok}
use Rattle.moveon.specs.declared.digits.CountFault.{CountFault}
use Rattle.moveon.specs.declared.fault.LineFault.{LineFault}
use Rattle.moveon.specs.declared.fault.LineFaultKind.{LineFaultKind}
use Rattle.moveon.specs.declared.fault.LineFaultKind.TheVariants.{MissingByte, NotHexByte, MissingCount, Count, AfterCount}
use Rattle.moveon.specs.declared.line.Request.{Request}
use Rattle.moveon.specs.Digits.{hex_byte, count_in}
use Rattle.moveon.specs.Fields.{Span, Cursor, field_from, none, text_of, column, unended}

-- goes on with what was read, or stops with the fault
abbrev pub and_then : {X Y : Type 0} → Result X LineFault → (X → Result Y LineFault) → Result Y LineFault
and_then (Ok x) next = next x
and_then (Err fault) next = Err fault

-- a fault at a field, and one just after the line's last character
abbrev pub fault_at : Span → LineFaultKind → LineFault
fault_at field kind = record { column = column field; kind = kind }

abbrev pub end_column : List ℕ → ℕ
end_column line = length line + 1

abbrev pub fault_past : List ℕ → LineFaultKind → LineFault
fault_past line kind = record { column = end_column line; kind = kind }

-- what a field's text stands for, with the place where the field ends
abbrev pub byte_read : Span → Option ℕ → Result (ℕ × ℕ) LineFault
byte_read field (Some byte) = Ok (byte, field.end)
byte_read field None = Err (fault_at field NotHexByte)

abbrev pub count_read : Span → Result ℕ CountFault → Result (ℕ × ℕ) LineFault
count_read field (Ok seconds) = Ok (seconds, field.end)
count_read field (Err fault) = Err (fault_at field (Count fault))

-- from a place on: a byte, the count, nothing more
abbrev pub byte_from : List ℕ → ℕ → Result (ℕ × ℕ) LineFault
byte_from line from =
    let field : Span = field_from line from in
    if none field then Err (fault_past line MissingByte) else byte_read field (hex_byte (text_of line field))

abbrev pub count_from : List ℕ → ℕ → Result (ℕ × ℕ) LineFault
count_from line from =
    let field : Span = field_from line from in
    if none field then Err (fault_past line MissingCount) else count_read field (count_in (text_of line field))

abbrev pub nothing_from : List ℕ → ℕ → Result (Unit {0}) LineFault
nothing_from line from =
    let field : Span = field_from line from in
    if none field then Ok tt else Err (fault_at field AfterCount)

-- the next n bytes, with the place where the last of them ends
unfoldable pub bytes_from : ℕ → List ℕ → ℕ → Result (List ℕ × ℕ) LineFault
bytes_from zero line from = Ok ([], from)
bytes_from (suc n) line from =
    and_then (byte_from line from) (λ first.
    and_then (bytes_from n line first.1) (λ others.
    Ok (first.0 ∷ others.0, others.1)))

-- where reading n bytes stops: past the last of their fields, or past the first that writes no byte (the line's end, if one is missing)
unfoldable pub bytes_end : ℕ → List ℕ → ℕ → ℕ
bytes_end zero line from = from
bytes_end (suc n) line from =
    let end : ℕ = (field_from line from).end in
    if is_ok (byte_from line from) then bytes_end n line end else end

-- a cursor where reading n bytes stops
abbrev pub past_bytes : ℕ → Cursor → Cursor
past_bytes n cursor = record cursor { place = bytes_end n cursor.line cursor.place }

-- what was read is what the line reads as from the old place to the new one, or the fault there, and the line stays
pub record Reads {X : Type 0} (reading_from : List ℕ → ℕ → Result (X × ℕ) LineFault) (old new : Cursor) (result : Result X LineFault) : Type 0 where
  pub is : and_then result (λ x. Ok (x, new.place)) ≡ reading_from old.line old.place
  pub line : new.line ≡ old.line

-- seven bytes, the count, and nothing more
abbrev pub request_in : List ℕ → Result Request LineFault
request_in line =
    and_then (bytes_from 7 line 0) (λ bytes.
    and_then (count_from line bytes.1) (λ count.
    and_then (nothing_from line count.1) (λ _.
    Ok (record { locations = bytes.0; seconds = count.0 }))))

-- what a line asks; nothing, where it has no field
abbrev pub asked : List ℕ → Result (Option Request) LineFault
asked line =
    if none (field_from line 0) then Ok None
    else and_then (request_in line) (λ request. Ok (Some request))

abbrev pub reading : List ℕ → Result (Option Request) LineFault
reading line = asked (unended line)
