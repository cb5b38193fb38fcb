-- The VAT and its ICB as they are written (document 01, "The VAT and its ICB"): every byte not named is 0.
use Rattle.std.specs.Prelude.{ℕ, ◌+◌, ◌-◌, ◌*◌, cond, List, [], ◌∷◌, ◌++◌, length, replicate, ltb}
use Rattle.fields.specs.Bytes.{join}
use Rattle.fields.specs.Number.{digits, quads}
use Rattle.fields.specs.Regid.{regid}
use Rattle.tag.specs.Checksum.{checksum_of}
use Rattle.tag.specs.Crc.{crc_from}
use Rattle.model.specs.Vat.{vat_name, blocks_in}

-- F of N entries
unfoldable pub file_bytes : ℕ → ℕ
file_bytes n = 4 * n + 36

-- d: 0 when embedded, that is if 176 + F is less than 2,048, otherwise F / 2,048 rounded up
unfoldable pub data_sectors : ℕ → ℕ
data_sectors n = cond (ltb (176 + file_bytes n) 2048) 0 (blocks_in (file_bytes n))

-- the file: the entries, the regid straight after the last entry, and the previous ICB
unfoldable pub written_file : List ℕ → ℕ → List ℕ
written_file t previous = quads t ++ (regid vat_name ++ digits 4 previous)

-- b, then zeros up to n bytes
unfoldable pub filled : ℕ → List ℕ → List ℕ
filled n b = b ++ replicate (n - length b) 0

-- the d data sectors: F bytes, then zeros
unfoldable pub written_data : List ℕ → ℕ → List ℕ
written_data t previous = filled (2048 * data_sectors (length t)) (written_file t previous)

-- what stands from 176: the file itself, or one extent, directly below the ICB at k
unfoldable pub written_allocation : ℕ → List ℕ → ℕ → List ℕ
written_allocation k t previous =
    cond (ltb (176 + file_bytes (length t)) 2048)
    (written_file t previous)
    (digits 4 (file_bytes (length t)) ++ digits 4 (k - data_sectors (length t)))

-- the low three bits of byte 34
unfoldable pub written_form : ℕ → ℕ
written_form n = cond (ltb (176 + file_bytes n) 2048) 3 0

-- the File Entry from byte 16 on, field by field: strategy 4 at 20, 1 at 24, the form at 34, F at 56, d at 64, E of 0 at 168, A at 172 and the
-- allocation at 176
unfoldable pub written_entry : ℕ → List ℕ → ℕ → List ℕ
written_entry k t previous =
    join
    (replicate 4 0
    ∷ digits 2 4
    ∷ replicate 2 0
    ∷ digits 2 1
    ∷ replicate 8 0
    ∷ digits 2 (written_form (length t))
    ∷ replicate 20 0
    ∷ digits 8 (file_bytes (length t))
    ∷ digits 8 (data_sectors (length t))
    ∷ replicate 96 0
    ∷ digits 4 0
    ∷ digits 4 (length (written_allocation k t previous))
    ∷ written_allocation k t previous
    ∷ [])

-- a tag of identifier 261, version 2, this checksum at 4, the CRC of the bytes e at 8, their number at 10 and k at 12
unfoldable pub tag_with : ℕ → ℕ → List ℕ → List ℕ
tag_with sum k e =
    join
    (digits 2 261
    ∷ digits 2 2
    ∷ digits 2 sum
    ∷ replicate 2 0
    ∷ digits 2 (crc_from 0 e)
    ∷ digits 2 (length e)
    ∷ digits 4 k
    ∷ [])

-- the tag: the checksum leaves out its own byte
unfoldable pub written_tag : ℕ → List ℕ → List ℕ
written_tag k e = tag_with (checksum_of (tag_with 0 k e)) k e

-- the ICB at logical block k: the CRC runs over the entry, of 160 + A bytes
unfoldable pub written_icb : ℕ → List ℕ → ℕ → List ℕ
written_icb k t previous = filled 2048 (written_tag k (written_entry k t previous) ++ written_entry k t previous)
