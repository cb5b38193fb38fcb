-- Line 31 (02, slip 10): "the bitmap is malformed, its bits are not L or run past its bytes, or CRC or bytes run past those lent".
use Rattle.std.specs.Prelude.{ℕ, ◌+◌, ◌*◌, Bool, ◌&&◌, List, [], ◌∷◌, length, eqb, leb}
use Rattle.fields.specs.Number.{field}
use Rattle.tag.specs.Sound.{sound}
use Rattle.refusal.specs.Tests.{Test, test}
use Rattle.refusal.specs.declared.Refusal.TheVariants.{BitmapMalformed}

-- "Of the tag only identifier, checksum and CRC are tested, the last two as for the ICB, the CRC length being 8 or more"
unfoldable pub tag_fits : List ℕ → Bool
tag_fits b =
    eqb (field b 0 2) 264
    && (leb 8 (field b 10 2)
    && (leb (16 + field b 10 2) (length b)
    && sound b))

-- the lent bytes b are a bitmap of l blocks: number of bits at 16, number of bytes at 20, bits from 24
unfoldable pub bitmap_fits : List ℕ → ℕ → Bool
bitmap_fits b l =
    leb 24 (length b)
    && (eqb (field b 16 4) l
    && (leb l (8 * field b 20 4)
    && (leb (24 + field b 20 4) (length b)
    && tag_fits b)))

-- what every call tests first
abbrev pub bitmap_tests : List ℕ → ℕ → List Test
bitmap_tests b l = test (bitmap_fits b l) BitmapMalformed ∷ []
