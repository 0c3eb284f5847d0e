-- How a request is written: its bytes and its count in fields, one behind the other. Assumes nothing.
use Rattle.std.specs.Prelude.{◌≡◌, ℕ, ◌<◌, true, List, [], ◌∷◌, ◌++◌, length, Some, None, Ok, Option, Result}
use Rattle.std.specs.List.{AllPass}
use Rattle.moveon.specs.declared.fault.LineFault.{LineFault}
use Rattle.moveon.specs.declared.line.Request.{Request}
use Rattle.moveon.specs.Digits.{hex_byte, count_in}
use Rattle.moveon.specs.Fields.{blank, solid, unended}

abbrev pub Blanks : List ℕ → Type 0
Blanks bytes = AllPass blank bytes

-- a field ends at the line's end or at a blank
abbrev pub Ended : List ℕ → Type 0
Ended [] = Unit {0}
Ended (b ∷ rest) = blank b ≡ true

-- blanks, if any, a field with this text, and the rest of the line
pub record Opens (line text rest : List ℕ) : Type 0 where
  pub gap : List ℕ
  pub cut : line ≡ gap ++ (text ++ rest)
  pub blanks : Blanks gap
  pub some : 0 < length text
  pub solids : AllPass solid text
  pub ended : Ended rest

-- the bytes as hex digits, then the count as decimal ones, and at most blanks behind it
abbrev pub Writes : List ℕ → ℕ → List ℕ → Type 0
Writes [] seconds line = (text : List ℕ) × (rest : List ℕ) × Opens line text rest × (count_in text ≡ Ok seconds) × Blanks rest
Writes (byte ∷ bytes) seconds line = (text : List ℕ) × (rest : List ℕ) × Opens line text rest × (hex_byte text ≡ Some byte) × Writes bytes seconds rest

-- a line, with its newline or without, asks for what it writes
abbrev pub Asks : List ℕ → Request → Type 0
Asks line request = (length request.locations ≡ 7) × Writes request.locations request.seconds (unended line)

-- a line is passed over exactly if it has only blanks, and read as a request exactly if it asks for that
pub record AsWritten (line : List ℕ) (reading : Result (Option Request) LineFault) : Type 0 where
  pub passed : Blanks (unended line) → reading ≡ Ok None
  pub blank_line : reading ≡ Ok None → Blanks (unended line)
  pub read : (request : Request) → Asks line request → reading ≡ Ok (Some request)
  pub asks : (request : Request) → reading ≡ Ok (Some request) → Asks line request
