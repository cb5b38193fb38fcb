-- The VAT and its ICB as they are read (document 01, "The VAT and its ICB"). The file of an ICB is the list of its bytes; the number of
-- entries, the entries and the previous ICB are read off that list.
use Rattle.std.specs.Prelude.{ℕ, zero, suc, ◌+◌, ◌-◌, ◌/◌, ◌%◌, ◌^◌, Bool, true, cond, ◌&&◌, ◌||◌, List, [], ◌∷◌, ◌++◌, length, get_or, take, eqb, leb, ltb}
use Rattle.fields.specs.Bytes.{part}
use Rattle.fields.specs.Number.{field, words}
use Rattle.fields.specs.Regid.{has_regid}
use Rattle.tag.specs.Checksum.{checksum_of}
use Rattle.tag.specs.Crc.{crc_from}
use Rattle.address.specs.Translation.{sector_at}
use Rattle.model.specs.Disc.{Disc, sector, recorded, recorded_run, joined}
unfoldable pub use Rattle.address.specs.Translation.{none}

-- "*UDF Virtual Alloc Tbl"
unfoldable pub vat_name : List ℕ
vat_name = 42 ∷ 85 ∷ 68 ∷ 70 ∷ 32 ∷ 86 ∷ 105 ∷ 114 ∷ 116 ∷ 117 ∷ 97 ∷ 108 ∷ 32 ∷ 65 ∷ 108 ∷ 108 ∷ 111 ∷ 99 ∷ 32 ∷ 84 ∷ 98 ∷ 108 ∷ []

-- ---- the file: N entries of 4 bytes, a regid, and 4 bytes with the previous VAT ICB's logical block

-- F is at least 36, F - 36 a multiple of 4, and the regid matches
unfoldable pub file_fits : List ℕ → Bool
file_fits f = leb 36 (length f) && (eqb ((length f - 36) % 4) 0 && has_regid f (length f - 36) vat_name)

-- N
unfoldable pub count_of : List ℕ → ℕ
count_of f = (length f - 36) / 4

-- the entries
unfoldable pub entries_of : List ℕ → List ℕ
entries_of f = words f 0 (count_of f)

-- the previous ICB
unfoldable pub previous_of : List ℕ → ℕ
previous_of f = field f (length f - 4) 4

-- below k, or none
unfoldable pub below_or_none : ℕ → ℕ → Bool
below_or_none k e = eqb e none || ltb e k

-- all of them
unfoldable pub all_below : ℕ → List ℕ → Bool
all_below k [] = true
all_below k (e ∷ l) = below_or_none k e && all_below k l

-- ---- the ICB, a File Entry of 2,048 bytes b at logical block k

-- tag, bytes 0 to 15
unfoldable pub tag_fits : ℕ → List ℕ → Bool
tag_fits k b =
    eqb (field b 0 2) 261
    && (eqb (field b 2 2) 2
    && (eqb (get_or b 5 0) 0
    && (leb 160 (field b 10 2)
    && (leb (field b 10 2) 2032
    && (eqb (field b 12 4) k
    && (eqb (get_or b 4 0) (checksum_of b)
    && eqb (field b 8 2) (crc_from 0 (part b 16 (field b 10 2)))))))))

-- the low three bits of byte 34: 0 is short_ads, 3 is embedded
unfoldable pub form : List ℕ → ℕ
form b = get_or b 34 0 % 8

-- information length F at 56, attribute length E at 168, allocation length A at 172
unfoldable pub file_length : List ℕ → ℕ
file_length b = field b 56 8

-- E
unfoldable pub attributes : List ℕ → ℕ
attributes b = field b 168 4

-- A
unfoldable pub allocation : List ℕ → ℕ
allocation b = field b 172 4

-- strategy 4 at 20, file type 0 at 27, short_ads or embedded, 176 + E + A at most 2,048
unfoldable pub entry_fits : List ℕ → Bool
entry_fits b =
    eqb (field b 20 2) 4
    && (eqb (get_or b 27 0) 0
    && ((eqb (form b) 0 || eqb (form b) 3)
    && leb (176 + attributes b + allocation b) 2048))

-- a short_ad: a length, and a logical block
pub record Extent : Type 0 where
  pub size : ℕ
  pub block : ℕ

-- n pairs of 4 bytes from `at` on
unfoldable pub pairs : List ℕ → ℕ → ℕ → List Extent
pairs b at zero = []
pairs b at (suc n) = record { size = field b at 4; block = field b (at + 4) 4 } ∷ pairs b (at + 8) n

-- the first zero length ends the list
unfoldable pub up_to_zero : List Extent → List Extent
up_to_zero [] = []
up_to_zero (x ∷ l) = cond (eqb x.size 0) [] (x ∷ up_to_zero l)

-- the extents of an ICB
unfoldable pub extents : List ℕ → List Extent
extents b = up_to_zero (pairs b (176 + attributes b) (allocation b / 8))

-- the blocks of an extent; the last one counts whole
unfoldable pub blocks_in : ℕ → ℕ
blocks_in n = (n + 2047) / 2048

-- the upper two bits of each length are 0, and each length but the last is a multiple of 2,048
unfoldable pub sizes_fit : List Extent → Bool
sizes_fit [] = true
sizes_fit (x ∷ []) = ltb x.size (2 ^ 30)
sizes_fit (x ∷ y ∷ l) = ltb x.size (2 ^ 30) && (eqb (x.size % 2048) 0 && sizes_fit (y ∷ l))

-- the sum of the lengths
unfoldable pub sizes : List Extent → ℕ
sizes [] = 0
sizes (x ∷ l) = x.size + sizes l

-- every block of every extent is below k and recorded; the partition starts at sector s
unfoldable pub blocks_fit : Disc → ℕ → ℕ → List Extent → Bool
blocks_fit d s k [] = true
blocks_fit d s k (x ∷ l) =
    leb (x.block + blocks_in x.size) k && (recorded_run d (sector_at s x.block) (blocks_in x.size) && blocks_fit d s k l)

-- the sectors of the extents, joined
unfoldable pub contents : Disc → ℕ → List Extent → List ℕ
contents d s [] = []
contents d s (x ∷ l) = joined d (sector_at s x.block) (blocks_in x.size) ++ contents d s l

-- embedded: A = F; otherwise A is a multiple of 8, and the extents are as above and add up to F
unfoldable pub allocation_fits : Disc → ℕ → ℕ → List ℕ → Bool
allocation_fits d s k b =
    cond (eqb (form b) 3)
    (eqb (allocation b) (file_length b))
    (eqb (allocation b % 8) 0 && (sizes_fit (extents b) && (eqb (sizes (extents b)) (file_length b) && blocks_fit d s k (extents b))))

-- the file of an ICB: embedded it begins at 176 + E; otherwise the extents joined and cut to F
unfoldable pub file_of : Disc → ℕ → List ℕ → List ℕ
file_of d s b =
    cond (eqb (form b) 3)
    (part b (176 + attributes b) (file_length b))
    (take (file_length b) (contents d s (extents b)))

-- the previous ICB and every entry are below k or none
unfoldable pub table_fits : ℕ → List ℕ → Bool
table_fits k f = file_fits f && (below_or_none k (previous_of f) && all_below k (entries_of f))

-- the bytes b would pass as a VAT ICB at logical block k
unfoldable pub passes : Disc → ℕ → ℕ → List ℕ → Bool
passes d s k b = tag_fits k b && (entry_fits b && (allocation_fits d s k b && table_fits k (file_of d s b)))

-- a recorded sector at logical k is a VAT ICB
unfoldable pub vat_icb : Disc → ℕ → ℕ → Bool
vat_icb d s k = recorded d (sector_at s k) && passes d s k (sector d (sector_at s k))

-- the file of the VAT ICB at logical k
unfoldable pub vat_file : Disc → ℕ → ℕ → List ℕ
vat_file d s k = file_of d s (sector d (sector_at s k))

-- ---- finding it ("Opening goes down from the last sector that is not blank, inside the partition, to the first VAT ICB")

-- where a scan ends: at a VAT ICB, or having found none
pub data Found : Type 0 where
  icb_at : ℕ → Found
  nowhere : Found

-- the scan down from below logical block n. `newest-found` and `found-newest` of proofs/Scan.antt say it with no recursion: a VAT ICB at k, and
-- none strictly between k and n
unfoldable pub scan : Disc → ℕ → ℕ → Found
scan d s zero = nowhere
scan d s (suc j) = cond (vat_icb d s j) (icb_at j) (scan d s j)
