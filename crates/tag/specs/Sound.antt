-- Whether a tag is right, and how it is made right, as 01, "The VAT and its ICB", gives it and 02, slip 10, takes it over for the space bitmap:
-- "Byte 4 is the sum of bytes 0 to 3 and 5 to 15, modulo 256." "The CRC .. runs over that many bytes from 16."
use Rattle.std.specs.Prelude.{ℕ, Bool, ◌&&◌, List, ◌==◌, slice_index, slice_set}
use Rattle.fields.specs.Bytes.{part, splice}
use Rattle.fields.specs.Number.{field, digits}
use Rattle.tag.specs.Checksum.{checksum_of}
use Rattle.tag.specs.Crc.{crc_from}

-- the CRC of as many bytes from 16 as the tag says at 10
unfoldable pub crc_of : List ℕ → ℕ
crc_of b = crc_from 0 (part b 16 (field b 10 2))

-- checksum and CRC are those of the bytes
unfoldable pub sound : List ℕ → Bool
sound b = slice_index b 4 == checksum_of b && field b 8 2 == crc_of b

-- the bytes with their CRC renewed, over the length that the tag says
unfoldable pub covered : List ℕ → List ℕ
covered b = splice b 8 (digits 2 (crc_of b))

-- and then the checksum, which sums the CRC too
unfoldable pub renewed : List ℕ → List ℕ
renewed b = slice_set (covered b) 4 (checksum_of (covered b))
