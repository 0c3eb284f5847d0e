-- The fields of a line. Assumes nothing.
use Rattle.std.specs.Prelude.{◌≡◌, ℕ, ◌+◌, ◌-◌, Bool, true, false, if◌then◌else◌, not, ◌||◌, List, length, take, drop, Some, None, Option, ◌==◌, slice_index}
use Rattle.std.specs.List.{between, prefix_len}
use Rattle.moveon.specs.declared.field.Field.{Field}

-- a space or a tab
abbrev pub blank : ℕ → Bool
blank b = b == 32 || b == 9

abbrev pub solid : ℕ → Bool
solid b = not (blank b)

-- the first place from a place on that is not blank, and the first that is; the line's length where there is none
abbrev pub past_blanks : List ℕ → ℕ → ℕ
past_blanks line from = from + prefix_len blank (drop from line)

abbrev pub past_solids : List ℕ → ℕ → ℕ
past_solids line from = from + prefix_len solid (drop from line)

-- where a field stands in a line, from its first byte to just past its last
pub record Span : Type 0 where
  pub start : ℕ
  pub end : ℕ

-- the first longest run of bytes that are not blank, from a place on
abbrev pub field_from : List ℕ → ℕ → Span
field_from line from =
    let start : ℕ = past_blanks line from in
    record { start = start; end = past_solids line start }

-- a line has no field from a place on where the run is empty
abbrev pub none : Span → Bool
none field = field.start == field.end

abbrev pub text_of : List ℕ → Span → List ℕ
text_of line field = between field.start field.end line

-- columns count from 1, places from 0
abbrev pub column : Span → ℕ
column field = field.start + 1

-- a line, and the place up to which it was read
pub record Cursor : Type 0 where
  pub line : List ℕ
  pub place : ℕ

-- what is found of a field of a line: nothing, where the run is empty, else its text and its column
abbrev pub Finds : List ℕ → Span → Option Field → Type 0
Finds line span None = none span ≡ true
Finds line span (Some field) = (none span ≡ false) × (field.text.now ≡ text_of line span) × (field.column ≡ column span)

-- a cursor just past the next field
abbrev pub past_field : Cursor → Cursor
past_field cursor = record cursor { place = (field_from cursor.line cursor.place).end }

-- the next field from a cursor on, and the cursor just past it
pub record FindsNext (old : Cursor) (found : Option Field) (new : Cursor) : Type 0 where
  pub is : Finds old.line (field_from old.line old.place) found
  pub after : new ≡ past_field old

-- bytes without the last, where that is b
abbrev pub without_last : ℕ → List ℕ → List ℕ
without_last b bytes = if slice_index bytes (length bytes - 1) == b then take (length bytes - 1) bytes else bytes

-- a line without its newline and a carriage return before it
abbrev pub unended : List ℕ → List ℕ
unended line = without_last 13 (without_last 10 line)
