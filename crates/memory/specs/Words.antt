-- The bytes of a list of 32-bit words, and the words that have given bytes.
-- Assumes nothing.
use Rattle.std.specs.List.{flat_map}
use Rattle.std.specs.Prelude.{◌≡◌, ℕ, ◌+◌, ◌*◌, ◌/◌, ◌%◌, ◌^◌, ◌<◌, List, [], ◌∷◌, ◌++◌, take, drop, slice_index}

-- the four bytes of a word, the lowest first
abbrev pub word_bytes : ℕ → List ℕ
word_bytes word = word % 256 ∷ (word / 256 % 256) ∷ (word / 65536 % 256) ∷ (word / 16777216 % 256) ∷ []

-- the bytes of words, word after word
abbrev pub unpacked : List ℕ → List ℕ
unpacked words = flat_map word_bytes words

-- Of a list of words the first 131,072 count, ..
abbrev pub counted : List ℕ → List ℕ
counted words = take 131072 words

-- .. and the others do not.
abbrev pub uncounted : List ℕ → List ℕ
uncounted words = drop 131072 words

-- the bytes of the words that count
unfoldable pub bytes_of : List ℕ → List ℕ
bytes_of words = unpacked (counted words)

-- the word that has these four bytes, the lowest first
abbrev pub word_of : ℕ → ℕ → ℕ → ℕ → ℕ
word_of a b c d = a + b * 256 + c * 65536 + d * 16777216

-- the words that have these bytes, four to a word
abbrev pub packed : List ℕ → List ℕ
packed (a ∷ b ∷ c ∷ d ∷ bytes) = word_of a b c d ∷ packed bytes
packed (a ∷ b ∷ c ∷ []) = []
packed (a ∷ b ∷ []) = []
packed (a ∷ []) = []
packed [] = []

-- these words, with other bytes in those that count
abbrev pub with_bytes : List ℕ → List ℕ → List ℕ
with_bytes words bytes = packed bytes ++ uncounted words

-- each of the words has 32 bits
abbrev pub Fit : List ℕ → Type 0
Fit words = (i : ℕ) → slice_index words i < 2 ^ 32

-- Words that have these bytes, and the words of `before` past those that count, are those of `before` with these bytes.
abbrev pub Known : Type 0
Known =
    (words before bytes : List ℕ) → Fit words → bytes_of words ≡ bytes → uncounted words ≡ uncounted before
    → words ≡ with_bytes before bytes

-- So words that have the same bytes, and the same words past those that count, are the same.
abbrev pub Determined : Type 0
Determined =
    (words others : List ℕ) → Fit words → Fit others → bytes_of words ≡ bytes_of others → uncounted words ≡ uncounted others
    → words ≡ others
