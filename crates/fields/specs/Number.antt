-- Numbers of several bytes: little-endian (document 01, first paragraph).
use Rattle.std.specs.Prelude.{ℕ, zero, suc, ◌+◌, ◌*◌, ◌/◌, ◌%◌, List, [], ◌∷◌, ◌++◌}
use Rattle.fields.specs.Bytes.{part}

-- the number that a list of bytes is, its lowest byte first
unfoldable pub value : List ℕ → ℕ
value [] = 0
value (x ∷ b) = x + 256 * value b

-- the w bytes of a number, its lowest byte first
unfoldable pub digits : ℕ → ℕ → List ℕ
digits zero n = []
digits (suc w) n = n % 256 ∷ digits w (n / 256)

-- the number in the w bytes of s from `at` on
unfoldable pub field : List ℕ → ℕ → ℕ → ℕ
field s at w = value (part s at w)

-- the numbers of 4 bytes from `at` on, n of them
unfoldable pub words : List ℕ → ℕ → ℕ → List ℕ
words s at zero = []
words s at (suc n) = field s at 4 ∷ words s (at + 4) n

-- the bytes of several numbers, 4 each
unfoldable pub quads : List ℕ → List ℕ
quads [] = []
quads (x ∷ l) = digits 4 x ++ quads l
