-- Bitmaps worked out by hand (02, slip 10): what each call answers and leaves on closed bytes, each line and each tie once, so that no promise of
-- Promises.antt is empty and none is kept by refusing.
use Rattle.std.specs.Prelude.{ℕ, ◌≡◌, List, [], ◌∷◌, ◌++◌, take, replicate, set, Ok, Err}
use Rattle.fields.specs.Bytes.{join}
use Rattle.fields.specs.Number.{digits}
use Rattle.refusal.specs.declared.Refusal.TheVariants.{BitmapMalformed, NumberOutside, WrongRun, NoRun}
use Rattle.tag.specs.Sound.{renewed}
use Rattle.bitmap.specs.Counted.{counted}
use Rattle.bitmap_find.specs.Nearest.{found}
use Rattle.bitmap_written.specs.Written.{take_verdict, after_taking, give_verdict, after_giving}

-- a tag of this identifier, checksum, CRC and CRC length, the number of bits, the number of bytes, and bits
unfoldable pub bitmap_of : ℕ → ℕ → ℕ → ℕ → ℕ → ℕ → List ℕ → List ℕ
bitmap_of identifier sum crc long l n bits =
    join
    (digits 2 identifier
    ∷ replicate 2 0
    ∷ digits 1 sum
    ∷ replicate 3 0
    ∷ digits 2 crc
    ∷ digits 2 long
    ∷ replicate 4 0
    ∷ digits 4 l
    ∷ digits 4 n
    ∷ bits
    ∷ [])

-- 20 blocks, of which 2 to 4, 7 and 8, 10 to 14, 18 and 19 are free
unfoldable pub twenty : List ℕ
twenty = 0x9c ∷ 0x7d ∷ 0x0c ∷ []

-- their bitmap, with a CRC of the two numbers alone
unfoldable pub worked : List ℕ
worked = bitmap_of 264 0xbf 0xa905 8 20 3 twenty

-- and with a CRC of the bits too
unfoldable pub whole : List ℕ
whole = bitmap_of 264 0xab 0x6e29 11 20 3 twenty

-- a bitmap of 20 blocks in 3 bytes whose tag is right, of this identifier, CRC length, number of bits and number of bytes
unfoldable pub sealed_of : ℕ → ℕ → ℕ → ℕ → List ℕ
sealed_of identifier long l n = renewed (bitmap_of identifier 0 0 long l n twenty)

-- counting
pub record CountsWorked : Type 0 where
  pub free : counted worked 20 ≡ Ok 12
  pub wholly : counted whole 20 ≡ Ok 12
  -- bits past L do not count, and bytes behind the bitmap may be lent
  pub fewer : counted (sealed_of 264 8 18 3) 18 ≡ Ok 10
  pub behind : counted (worked ++ (0xff ∷ 0xff ∷ [])) 20 ≡ Ok 12
  -- "L may be 0"
  pub none : counted (renewed (bitmap_of 264 0 0 8 0 0 [])) 0 ≡ Ok 0
  -- of the tag version, byte 5, serial number and location are not tested
  pub untested : counted (renewed (set (set (set (set worked 2 3) 5 7) 6 9) 12 1)) 20 ≡ Ok 12
  -- the CRC length may be 8 or more, up to the lent bytes
  pub longest : counted (sealed_of 264 11 20 3) 20 ≡ Ok 12

-- finding: the run wanted, its distance from the block given, and each line in its order
pub record FindsWorked : Type 0 where
  -- of 2 and 10, both at distance 4 from 6, the lower
  pub tie : found worked 20 3 6 ≡ Ok 2
  pub above : found worked 20 3 7 ≡ Ok 10
  pub ahead : found worked 20 2 6 ≡ Ok 7
  -- a run within a longer row
  pub within : found worked 20 2 5 ≡ Ok 3
  -- the last run that ends by L
  pub last : found worked 20 2 19 ≡ Ok 18
  -- line 33, also for more blocks than there are
  pub none : found worked 20 6 0 ≡ Err NoRun
  pub many : found worked 20 21 0 ≡ Err NoRun
  -- line 32, line 12 before it, and line 31 before that
  pub empty : found worked 20 0 3 ≡ Err WrongRun
  pub outside : found worked 20 0 20 ≡ Err NumberOutside
  pub malformed : found worked 21 0 21 ≡ Err BitmapMalformed
  -- with L 0 there is no block to be near to
  pub nowhere : found (renewed (bitmap_of 264 0 0 8 0 0 [])) 0 1 0 ≡ Err NumberOutside

-- line 31, each part of it alone
pub record Malformed : Type 0 where
  pub short : counted (take 23 worked) 20 ≡ Err BitmapMalformed
  pub identifier : counted (sealed_of 265 8 20 3) 20 ≡ Err BitmapMalformed
  pub checksum : counted (bitmap_of 264 0xbe 0xa905 8 20 3 twenty) 20 ≡ Err BitmapMalformed
  -- with a right checksum
  pub crc : counted (bitmap_of 264 0xc0 0xa906 8 20 3 twenty) 20 ≡ Err BitmapMalformed
  pub least : counted (sealed_of 264 7 20 3) 20 ≡ Err BitmapMalformed
  -- "CRC or bytes run past those lent"
  pub covered : counted (sealed_of 264 12 20 3) 20 ≡ Err BitmapMalformed
  pub bytes : counted (sealed_of 264 8 20 4) 20 ≡ Err BitmapMalformed
  -- "its bits are not L or run past its bytes"
  pub bits : counted worked 19 ≡ Err BitmapMalformed
  pub past : counted (sealed_of 264 8 20 2) 20 ≡ Err BitmapMalformed

-- taking and giving back: every byte after, and each line in its order
pub record TakesWorked : Type 0 where
  -- blocks 7 and 8, then 15 to 17 given back
  pub taken : after_taking whole 20 7 2 ≡ bitmap_of 264 0xbc 0x6642 11 20 3 (0x1c ∷ 0x7c ∷ 0x0c ∷ [])
  pub given : after_giving (bitmap_of 264 0xbc 0x6642 11 20 3 (0x1c ∷ 0x7c ∷ 0x0c ∷ [])) 20 15 3 ≡ bitmap_of 264 0x1a 0x4db9 11 20 3 (0x1c ∷ 0xfc ∷ 0x0f ∷ [])
  pub free : counted (bitmap_of 264 0x1a 0x4db9 11 20 3 (0x1c ∷ 0xfc ∷ 0x0f ∷ [])) 20 ≡ Ok 13
  pub accepted : take_verdict whole 20 7 2 ≡ Ok tt
  -- line 32: no block, past L, and a block in the other state
  pub empty : take_verdict worked 20 2 0 ≡ Err WrongRun
  pub past : take_verdict worked 20 18 3 ≡ Err WrongRun
  pub allocated : take_verdict worked 20 2 4 ≡ Err WrongRun
  pub unallocated : give_verdict worked 20 0 3 ≡ Err WrongRun
  -- line 12 before it, line 31 before that, and then no byte changes
  pub outside : take_verdict worked 20 20 0 ≡ Err NumberOutside
  pub malformed : give_verdict worked 21 21 0 ≡ Err BitmapMalformed
  pub kept : after_taking worked 20 2 4 ≡ worked
