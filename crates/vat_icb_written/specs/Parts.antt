-- The pieces that the ICB of a VAT is written in (document 01, "The VAT and its ICB"), between the whole sector that the model defines and
-- the lent bytes that one function writes.
use Rattle.std.specs.Prelude.{ℕ, ◌+◌, cond, List, [], ◌∷◌, replicate, ltb}
use Rattle.fields.specs.Bytes.{join}
use Rattle.fields.specs.Number.{digits}
use Rattle.tag.specs.Checksum.{checksum_of}
use Rattle.model.specs.VatWritten.{file_bytes, data_sectors, written_form}

-- A of n entries: the file itself, or one extent of 8 bytes ("Written: embedded if 176 + F is less than 2,048")
unfoldable pub allocation_bytes : ℕ → ℕ
allocation_bytes n = cond (ltb (176 + file_bytes n) 2048) (file_bytes n) 8

-- a File Entry from byte 16 up to its allocation at 176, of this form, F, d and A ("The VAT and its ICB")
unfoldable pub head_of : ℕ → ℕ → ℕ → ℕ → List ℕ
head_of form size sectors a =
    join
    (replicate 4 0
    ∷ digits 2 4
    ∷ replicate 2 0
    ∷ digits 2 1
    ∷ replicate 8 0
    ∷ digits 2 form
    ∷ replicate 20 0
    ∷ digits 8 size
    ∷ digits 8 sectors
    ∷ replicate 96 0
    ∷ digits 4 0
    ∷ digits 4 a
    ∷ [])

-- that of n entries ("The VAT and its ICB": "Written: ..")
unfoldable pub entry_head : ℕ → List ℕ
entry_head n = head_of (written_form n) (file_bytes n) (data_sectors n) (allocation_bytes n)

-- a tag of identifier 261, version 2, this checksum, this CRC over this many bytes, and k ("The VAT and its ICB": "Tag, bytes 0 to 15")
unfoldable pub tag_of : ℕ → ℕ → ℕ → ℕ → List ℕ
tag_of sum k crc covered =
    join
    (digits 2 261
    ∷ digits 2 2
    ∷ digits 2 sum
    ∷ replicate 2 0
    ∷ digits 2 crc
    ∷ digits 2 covered
    ∷ digits 4 k
    ∷ [])

-- the tag with its checksum, which leaves out its own byte ("Byte 4 is the sum of bytes 0 to 3 and 5 to 15, modulo 256")
unfoldable pub summed_tag : ℕ → ℕ → ℕ → List ℕ
summed_tag k crc covered = tag_of (checksum_of (tag_of 0 k crc covered)) k crc covered
