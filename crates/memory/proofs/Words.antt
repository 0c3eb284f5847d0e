-- The bytes of a list of words: how many, which one at an address, what a store makes of them, and the words back.
-- Assumes nothing.
use Rattle.std.proofs.Common.{◌≡◌, ℕ, zero, suc, ◌+◌, ◌*◌, ◌/◌, ◌%◌, ◌^◌, ◌<◌, ◌≤◌, List, [], ◌∷◌, ◌++◌, length, get_or, set, Ok, inl, inr, sym, refl, ap, ◌∙◌, zero-add, arith}
use Rattle.std.proofs.lemmas.Bool.{cases_lt, cond-true, cond-false, lt-ltb, le-ltb}
use lib.Seq.{take-set-lt}
use Rattle.std.proofs.lemmas.Nat.{le_bytes_4, from_le_bytes-to_le_bytes_4}
use Rattle.std.proofs.ByRecursion.{All-from_get_or, All-set, All-take}
use Rattle.std.proofs.lemmas.List.{length-take, length-set, get_or-take, get_or_append_left, set-append_left, take-append-drop}
use Rattle.std.specs.List.{AllByRecursion as All}
use Rattle.memory.specs.Storage.{looked, if_there}
use Rattle.memory.specs.Words.{word_bytes, unpacked, counted, uncounted, bytes_of, word_of, packed, with_bytes, Fit, Known, Determined}

length-unpacked : (ws : List ℕ) → length (unpacked ws) ≡ 4 * length ws
length-unpacked [] = refl
length-unpacked (w ∷ ws) = omega (arith, length-unpacked ws)

pub length-bytes_of : (ws : List ℕ) → length (bytes_of ws) ≡ 4 * length (counted ws)
unfolding bytes_of
length-bytes_of ws = length-unpacked (counted ws)

-- An address has a byte where its word counts.
pub word_there : (ws : List ℕ) (i : ℕ) → looked (counted ws) (i / 4) ≡ if_there (bytes_of ws) i (get_or ws (i / 4) 0)
word_there ws i =
    let e : length (bytes_of ws) ≡ 4 * length (counted ws) = length-bytes_of ws in
    elim (cases_lt (i / 4) (length (counted ws))) [
      | inl h ↦
          let there : i < length (bytes_of ws) = omega arith in
          let counts : i / 4 < 131072 = omega (arith, length-take 131072 ws) in
          cond-true _ _ _ (lt-ltb _ _ h) ∙ ap Ok (get_or-take 131072 ws (i / 4) 0 counts) ∙ sym (cond-true _ _ _ (lt-ltb _ _ there))
      | inr h ↦
          let past : length (bytes_of ws) ≤ i = omega arith in
          cond-false _ _ _ (le-ltb _ _ h) ∙ sym (cond-false _ _ _ (le-ltb _ _ past))
    ]

one_word_on : (k j : ℕ) → 4 * suc k + j ≡ suc (suc (suc (suc (4 * k + j))))
one_word_on k j = omega arith

-- the byte j of the word k
unpacked_at : (ws : List ℕ) (k j : ℕ) → k < length ws → j < 4 → get_or (unpacked ws) (4 * k + j) 0 ≡ get_or (word_bytes (get_or ws k 0)) j 0
unpacked_at [] k j in_list in_word = absurd (omega arith)
unpacked_at (w ∷ ws) zero j in_list in_word = rw zero-add (get_or_append_left (word_bytes w) (unpacked ws) 0 j in_word)
unpacked_at (w ∷ ws) (suc k) j in_list in_word = rw one_word_on (unpacked_at ws k j (omega arith) in_word)

-- where the byte j of the word k is replaced in its word, it is replaced among the bytes
unpacked-set : (ws : List ℕ) (k j v b : ℕ) → k < length ws → j < 4 → word_bytes v ≡ set (word_bytes (get_or ws k 0)) j b
    → unpacked (set ws k v) ≡ set (unpacked ws) (4 * k + j) b
unpacked-set [] k j v b in_list in_word e = absurd (omega arith)
unpacked-set (w ∷ ws) zero j v b in_list in_word e =
    rw zero-add (ap (λ bs. bs ++ unpacked ws) e ∙ sym (set-append_left (word_bytes w) (unpacked ws) j b in_word))
unpacked-set (w ∷ ws) (suc k) j v b in_list in_word e =
    rw one_word_on (ap (λ bs. word_bytes w ++ bs) (unpacked-set ws k j v b (omega arith) in_word e))

-- the word that has the four bytes in a list
abbrev pub word_in : List ℕ → ℕ
word_in bs = word_of (get_or bs 0 0) (get_or bs 1 0) (get_or bs 2 0) (get_or bs 3 0)

small_at : (bs : List ℕ) → All (λ b. b < 256) bs → (i : ℕ) → get_or bs i 0 < 256
small_at [] small i = omega arith
small_at (b ∷ bs) small zero = small.0
small_at (b ∷ bs) small (suc i) = small_at bs small.1 i

-- The byte at a place among the bytes is that of a word that counts.
module _ (ws : List ℕ) (i : ℕ) (within : i < length (bytes_of ws)) where
  abbrev k : ℕ
  k = i / 4

  abbrev j : ℕ
  j = i % 4

  place : 4 * k + j ≡ i
  place = omega arith

  in_list : k < length (counted ws)
  in_list = omega (arith, length-bytes_of ws)

  pub in_words : i / 4 < length ws
  in_words = omega (arith, length-bytes_of ws, length-take 131072 ws)

  pub counts : i / 4 < 131072
  counts = omega (arith, length-bytes_of ws, length-take 131072 ws)

  pub byte_at : get_or (bytes_of ws) i 0 ≡ get_or (word_bytes (get_or ws (i / 4) 0)) (i % 4) 0
  unfolding bytes_of
  byte_at =
      ap (λ n. get_or (bytes_of ws) n 0) (sym place)
      ∙ unpacked_at (counted ws) k j in_list (omega arith)
      ∙ ap (λ w. get_or (word_bytes w) j 0) (get_or-take 131072 ws k 0 counts)

  -- the word in which the byte is replaced
  abbrev v : ℕ → ℕ
  v b = word_in (set (word_bytes (get_or ws k 0)) j b)

  replaced : (b : ℕ) → b < 256 → word_bytes (v b) ≡ set (word_bytes (get_or (counted ws) k 0)) j b
  replaced b small =
      let bytes : List ℕ = set (word_bytes (get_or ws k 0)) j b in
      let each : All (λ x. x < 256) bytes = All-set (λ x. x < 256) (word_bytes (get_or ws k 0)) j b small (omega arith, (omega arith, (omega arith, (omega arith, tt)))) in
      rw (get_or-take 131072 ws k 0 counts) (le_bytes_4 bytes _ (length-set (word_bytes (get_or ws k 0)) j b) (small_at bytes each) refl)

  pub bytes_of-set : (b : ℕ) → b < 256 → bytes_of (set ws (i / 4) (word_in (set (word_bytes (get_or ws (i / 4) 0)) (i % 4) b))) ≡ set (bytes_of ws) i b
  unfolding bytes_of
  bytes_of-set b small =
      ap unpacked (take-set-lt 131072 ws k (v b) counts)
      ∙ unpacked-set (counted ws) k j (v b) b in_list (omega arith) (replaced b small)
      ∙ ap (λ n. set (bytes_of ws) n b) place

packed-unpacked : (ws : List ℕ) → All (λ w. w < 2 ^ 32) ws → packed (unpacked ws) ≡ ws
packed-unpacked [] fit = refl
packed-unpacked (w ∷ ws) fit = λ i. from_le_bytes-to_le_bytes_4 w fit.0 i ∷ packed-unpacked ws fit.1 i

-- words with their own bytes are the same words
read_back : (ws : List ℕ) → Fit ws → with_bytes ws (bytes_of ws) ≡ ws
unfolding bytes_of
read_back ws fit =
    ap (λ xs. xs ++ uncounted ws)
    (packed-unpacked (counted ws) (All-take (λ w. w < 2 ^ 32) 131072 ws (All-from_get_or (λ w. w < 2 ^ 32) ws 0 (λ i _. fit i))))
    ∙ take-append-drop 131072 ws

pub known : Known
known ws before bytes fit same rest = sym (read_back ws fit) ∙ (λ i. packed (same i) ++ rest i)

pub determined : Determined
determined ws xs fit fits same rest = known ws xs (bytes_of xs) fit same rest ∙ read_back xs fits
