-- The CRC by the word (02, slip 3). What the CRC is stays that of Crc.antt, bit by bit; here stands what a word's step is,
-- and that taking a word at a time changes no value.
use Rattle.std.specs.Prelude.{◌≡◌, ℕ, ◌+◌, ◌*◌, ◌/◌, ◌%◌, ◌<◌, List, [], ◌∷◌, drop, bit_xor, slice_index}
use Rattle.tag.specs.Crc.{byte_step, crc_from}

-- four bytes as a word, the first the highest
abbrev pub word_of : ℕ → ℕ → ℕ → ℕ → ℕ
word_of a b c d = a % 256 * 16777216 + b % 256 * 65536 + c % 256 * 256 + d % 256

-- the word at a place of a list of bytes
abbrev pub word_at : List ℕ → ℕ → ℕ
word_at s i = word_of (slice_index s i) (slice_index s (i + 1)) (slice_index s (i + 2)) (slice_index s (i + 3))

-- a remainder with a word more: four byte steps, the word's highest byte first (02, slip 3: "what four byte steps give")
unfoldable pub word_step : ℕ → ℕ → ℕ
word_step c w = byte_step (byte_step (byte_step (byte_step c (w / 16777216 % 256)) (w / 65536 % 256)) (w / 256 % 256)) (w % 256)

-- a remainder with a list of bytes more, "a word of four bytes at a time", and "a tail of up to three by the byte" (02, slip 3)
unfoldable pub by_words : ℕ → List ℕ → ℕ
by_words r [] = r
by_words r (a ∷ []) = crc_from r (a ∷ [])
by_words r (a ∷ b ∷ []) = crc_from r (a ∷ b ∷ [])
by_words r (a ∷ b ∷ c ∷ []) = crc_from r (a ∷ b ∷ c ∷ [])
by_words r (a ∷ b ∷ c ∷ d ∷ s) = by_words (word_step r (word_of a b c d)) s

-- four words from 0
abbrev pub four : ℕ → ℕ → ℕ → ℕ → ℕ
four p q r s = word_step (word_step (word_step (word_step 0 p) q) r) s

-- slip 3 as one statement
pub record ByTheWord : Type 0 where
  -- the step by the word of four bytes is four byte steps, from any remainder
  pub step : (r a b c d : ℕ) → word_step r (word_of a b c d) ≡ byte_step (byte_step (byte_step (byte_step r a) b) c) d
  -- by words, with a tail by the byte, every list of bytes has the value that it has byte by byte, from any remainder
  pub whole : (r : ℕ) (s : List ℕ) → by_words r s ≡ crc_from r s
  -- that of the digits 1 to 9, from 0, is the published one
  pub published : by_words 0 (49 ∷ 50 ∷ 51 ∷ 52 ∷ 53 ∷ 54 ∷ 55 ∷ 56 ∷ 57 ∷ []) ≡ 0x31c3
  -- a word taken off by the step, before four words more, is as good as those four alone with the word xored into the first and
  -- the fourth of them, its highest byte into the end of the second, and its other bytes into the start of the third
  pub turn : (t p q r s : ℕ) → t < 4294967296 → word_step (four t p q r) s ≡ four (bit_xor p t) (bit_xor q (t / 16777216)) (bit_xor r (t % 16777216 * 256)) (bit_xor s t)

-- the CRC of what is left of s from place i on, with the masks a, b, c and d xored into the next four words
abbrev pub carried : List ℕ → ℕ → ℕ → ℕ → ℕ → ℕ → ℕ
carried s i a b c d =
    crc_from (four (bit_xor a (word_at s i)) (bit_xor b (word_at s (i + 4))) (bit_xor c (word_at s (i + 8))) (bit_xor d (word_at s (i + 12)))) (drop (i + 16) s)
