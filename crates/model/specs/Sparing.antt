-- The sparing table (document 01, "The sparing table"; 004, table 6; and 02, slips 1 and 8). A table is the list of its numbers, original and mapped by
-- turns, as in the lent table. In two things tables follow OSTA UDF 1.50, as 02 quotes it: the identifier that is written, and the original that
-- marks a defective spare. All else is 004 in 01's form, and the suffix of the identifier is written as zeros, like that of every regid.
use Rattle.std.specs.Prelude.{ℕ, ◌+◌, ◌-◌, ◌*◌, ◌/◌, ◌%◌, Bool, true, cond, not, ◌&&◌, ◌||◌, List, [], ◌∷◌, ◌++◌, length, replicate, eqb, leb, ltb}
use Rattle.fields.specs.Bytes.{same, join}
use Rattle.fields.specs.Number.{field, words, digits, quads}
use Rattle.fields.specs.Regid.{has_regid, regid}
use Rattle.address.specs.Translation.{sector_at, above_at}
use Rattle.maps.specs.Kinds.{absent}
use Rattle.model.specs.Disc.{Disc, sector, recorded}
use Rattle.model.specs.Vat.{none}
use Rattle.model.specs.VatWritten.{filled}

-- "*UDF Sparing Table", the newer identifier (UDF 1.50; 02, slip 1): it is read and written
unfoldable pub sparing_name : List ℕ
sparing_name = 42 ∷ 85 ∷ 68 ∷ 70 ∷ 32 ∷ 83 ∷ 112 ∷ 97 ∷ 114 ∷ 105 ∷ 110 ∷ 103 ∷ 32 ∷ 84 ∷ 97 ∷ 98 ∷ 108 ∷ 101 ∷ []

-- "*OSTA UDF Sparing Table", the older identifier (004): it is read
unfoldable pub older_name : List ℕ
older_name = 42 ∷ 79 ∷ 83 ∷ 84 ∷ 65 ∷ 32 ∷ 85 ∷ 68 ∷ 70 ∷ 32 ∷ 83 ∷ 112 ∷ 97 ∷ 114 ∷ 105 ∷ 110 ∷ 103 ∷ 32 ∷ 84 ∷ 97 ∷ 98 ∷ 108 ∷ 101 ∷ []

-- what a rewritable volume lies in: the partition's start and length, the sectors of the disc, the table sectors, and the bytes of each table
pub record Geometry : Type 0 where
  pub start : ℕ
  pub span : ℕ
  pub sectors : ℕ
  pub tables : List ℕ
  pub size : ℕ

-- it, from its numbers
abbrev pub ground_of : ℕ → ℕ → ℕ → List ℕ → ℕ → Geometry
ground_of s l n tables size = record { start = s; span = l; sectors = n; tables = tables; size = size }

-- ---- entries

-- original is the logical address of a packet's first block, `defective` for a defective spare or `none` for a free one; mapped is physical
pub record Entry : Type 0 where
  pub original : ℕ
  pub mapped : ℕ

-- the entries of a table
unfoldable pub entries : List ℕ → List Entry
entries [] = []
entries (o ∷ []) = []
entries (o ∷ m ∷ l) = record { original = o; mapped = m } ∷ entries l

-- the numbers of a list of entries
unfoldable pub flat : List Entry → List ℕ
flat [] = []
flat (e ∷ l) = e.original ∷ e.mapped ∷ flat l

-- a free spare
unfoldable pub is_free : Entry → Bool
is_free e = eqb e.original none

-- "original 0xfffffff0 marks a defective spare" (UDF 1.50; 02, slip 1)
unfoldable pub defective : ℕ
defective = 0xfffffff0

-- a defective spare
unfoldable pub is_defective : Entry → Bool
is_defective e = eqb e.original defective

-- a used entry is neither; where the table fits it is a packet's
unfoldable pub is_used : Entry → Bool
is_used e = not (is_free e || is_defective e)

-- the entries that are used, in their order
unfoldable pub used_of : List Entry → List Entry
used_of [] = []
used_of (e ∷ l) = cond (is_used e) (e ∷ used_of l) (used_of l)

-- the entries that are defective, in their order
unfoldable pub defective_of : List Entry → List Entry
defective_of [] = []
defective_of (e ∷ l) = cond (is_defective e) (e ∷ defective_of l) (defective_of l)

-- the entries that are free, in their order
unfoldable pub free_of : List Entry → List Entry
free_of [] = []
free_of (e ∷ l) = cond (is_free e) (e ∷ free_of l) (free_of l)

-- ---- the copy rule over the entries

-- an original is none, defective, or a multiple of 32 below L
unfoldable pub original_fits : ℕ → ℕ → Bool
original_fits l o = eqb o none || (eqb o defective || (eqb (o % 32) 0 && ltb o l))

-- used originals are multiples of 32 below L; from 0xfffffff1 to 0xfffffffe none fits
unfoldable pub originals_fit : ℕ → List Entry → Bool
originals_fit l [] = true
originals_fit l (e ∷ es) = original_fits l e.original && originals_fit l es

-- an entry of original o may be followed by one of original n: a free one follows any, a defective one any that is not free, and a used one a
-- lower original
unfoldable pub may_follow : ℕ → ℕ → Bool
may_follow o n = eqb n none || ((eqb n defective && not (eqb o none)) || ltb o n)

-- used originals are strictly ascending, "defective entries stand after used and before free ones, in the copy rule too" (02, slip 1)
unfoldable pub ascending : List Entry → Bool
ascending [] = true
ascending (e ∷ []) = true
ascending (e ∷ f ∷ l) = may_follow e.original f.original && ascending (f ∷ l)

-- two packets that begin at a and b have no sector in common
unfoldable pub apart : ℕ → ℕ → Bool
apart a b = leb (a + 32) b || leb (b + 32) a

-- a packet that begins at m is apart from those that begin at each of l
unfoldable pub apart_from : ℕ → List ℕ → Bool
apart_from m [] = true
apart_from m (x ∷ l) = apart m x && apart_from m l

-- a packet that begins at m is a whole packet of the disc
unfoldable pub whole_packet : Geometry → ℕ → Bool
whole_packet g m = eqb (m % 32) 0 && leb (m + 32) g.sectors

-- and outside the partition besides: what line 6 asks of a table's packet ("table packets still stay outside"; 02, slip 8)
unfoldable pub outside : Geometry → ℕ → Bool
outside g m = whole_packet g m && (leb (m + 32) g.start || leb (g.start + g.span) m)

-- the mapped starts
unfoldable pub mapped_of : List Entry → List ℕ
mapped_of [] = []
mapped_of (e ∷ l) = e.mapped ∷ mapped_of l

-- mapped starts are distinct multiples of 32, whole packets on the disc and outside every table's packet. "Mapped packets there", in the
-- partition, "are to be accepted" (02, slip 8)
unfoldable pub mapped_fit : Geometry → List Entry → Bool
mapped_fit g [] = true
mapped_fit g (e ∷ es) =
    whole_packet g e.mapped && (apart_from e.mapped g.tables && (absent e.mapped (mapped_of es) && mapped_fit g es))

-- the packet of an entry that is used is none of those that begin at the sectors ms, in a partition that starts at sector s
unfoldable pub original_clear : ℕ → List ℕ → Entry → Bool
original_clear s ms e = not (is_used e) || absent (sector_at s e.original) ms

-- each of them is so
unfoldable pub originals_clear : ℕ → List ℕ → List Entry → Bool
originals_clear s ms [] = true
originals_clear s ms (e ∷ es) = original_clear s ms e && originals_clear s ms es

-- the copy rule: R entries fit the map's size, originals and mapped starts are as above, and "an original may not be such a packet" (02, slip 8):
-- one that any entry maps, whether it is used, defective or free, its own among them
unfoldable pub entries_fit : Geometry → List Entry → Bool
entries_fit g es =
    leb (56 + 8 * length es) g.size
    && (originals_fit g.span es
    && (ascending es && (mapped_fit g es && originals_clear g.start (mapped_of es) es)))

-- ---- a copy

-- the number R of entries at 48, the sequence at 52, and from 56 the entries
unfoldable pub count_in : List ℕ → ℕ
count_in b = field b 48 2

-- the sequence
unfoldable pub sequence_in : List ℕ → ℕ
sequence_in b = field b 52 4

-- the table
unfoldable pub table_in : List ℕ → List ℕ
table_in b = words b 56 (2 * count_in b)

-- no entry is a defective spare
unfoldable pub none_defective : List Entry → Bool
none_defective [] = true
none_defective (e ∷ l) = not (is_defective e) && none_defective l

-- "both identifiers are to be read": the newer one, or the older one, which knows no defective spare, where there is none ("a copy with the older
-- identifier and that mark still doesn't count"; 02, slip 1)
unfoldable pub named : List ℕ → Bool
named b = has_regid b 16 sparing_name || (has_regid b 16 older_name && none_defective (entries (table_in b)))

-- bytes 0 and 1 are 0, one of the two regids at 16 as above, and the entries fit
unfoldable pub copy_fits : Geometry → List ℕ → Bool
copy_fits g b =
    eqb (field b 0 2) 0
    && (named b && entries_fit g (entries (table_in b)))

-- a copy counts
unfoldable pub counts : Disc → Geometry → ℕ → Bool
counts d g t = recorded d t && copy_fits g (sector d t)

-- the copies among ts that count, in map order
unfoldable pub counting_of : Disc → Geometry → List ℕ → List ℕ
counting_of d g [] = []
counting_of d g (t ∷ ts) = cond (counts d g t) (t ∷ counting_of d g ts) (counting_of d g ts)

-- the copies that count
unfoldable pub counting : Disc → Geometry → List ℕ
counting d g = counting_of d g g.tables

-- the sequence of the copy at t
unfoldable pub sequence_at : Disc → ℕ → ℕ
sequence_at d t = sequence_in (sector d t)

-- the table of the copy at t
unfoldable pub table_at : Disc → ℕ → List ℕ
table_at d t = table_in (sector d t)

-- the highest sequence among the copies ts
unfoldable pub highest : Disc → List ℕ → ℕ
highest d [] = 0
highest d (t ∷ ts) = cond (ltb (sequence_at d t) (highest d ts)) (highest d ts) (sequence_at d t)

-- the copies among ts of sequence n
unfoldable pub with_sequence : Disc → ℕ → List ℕ → List ℕ
with_sequence d n [] = []
with_sequence d n (t ∷ ts) = cond (eqb (sequence_at d t) n) (t ∷ with_sequence d n ts) (with_sequence d n ts)

-- the highest sequence among counting copies
unfoldable pub current_sequence : Disc → Geometry → ℕ
current_sequence d g = highest d (counting d g)

-- the current copies
unfoldable pub current : Disc → Geometry → List ℕ
current d g = with_sequence d (current_sequence d g) (counting d g)

-- the table of the first of some copies; none where there is no copy
unfoldable pub first_table : Disc → List ℕ → List ℕ
first_table d [] = []
first_table d (t ∷ ts) = table_at d t

-- the current table
unfoldable pub current_table : Disc → Geometry → List ℕ
current_table d g = first_table d (current d g)

-- line 10: the copies ts all have the table l
unfoldable pub agree : Disc → List ℕ → List ℕ → Bool
agree d l [] = true
agree d l (t ∷ ts) = same (table_at d t) l && agree d l ts

-- ---- where a block is

-- the mapped start of the packet that begins at p, if it has an entry
pub data Spot : Type 0 where
  mapped_to : ℕ → Spot
  in_place : Spot

-- the entry of a packet
unfoldable pub spot_of : List Entry → ℕ → Spot
spot_of [] p = in_place
spot_of (e ∷ l) p = cond (eqb e.original p) (mapped_to e.mapped) (spot_of l p)

-- the first block of the packet of block b
unfoldable pub packet_of : ℕ → ℕ
packet_of b = b - b % 32

-- block b belongs to a spare (02, slip 8): an entry, whether it is used, defective or free, maps the sectors of its packet
unfoldable pub of_spare : ℕ → List Entry → ℕ → Bool
of_spare s es b = not (absent (sector_at s (packet_of b)) (mapped_of es))

-- the sector at which a packet that begins at p is read
unfoldable pub start_at : Spot → ℕ → ℕ → ℕ
start_at (mapped_to m) s p = m
start_at in_place s p = sector_at s p

-- a packet with an entry is read at mapped + (b modulo 32), otherwise at S + b
unfoldable pub locate : ℕ → List Entry → ℕ → ℕ
locate s es b = above_at (start_at (spot_of es (packet_of b)) s (packet_of b)) (b % 32)

-- ---- sparing, and the table as it is written

-- an entry in its place among used ones
unfoldable pub inserted : Entry → List Entry → List Entry
inserted x [] = x ∷ []
inserted x (e ∷ l) = cond (ltb x.original e.original) (x ∷ e ∷ l) (e ∷ inserted x l)

-- the mapped start of the free entry of lowest index
unfoldable pub first_free : List Entry → ℕ
first_free [] = 0
first_free (e ∷ l) = e.mapped

-- all but the first
unfoldable pub rest : List Entry → List Entry
rest [] = []
rest (e ∷ l) = l

-- the entries of other packets than p
unfoldable pub without : ℕ → List Entry → List Entry
without p [] = []
without p (e ∷ l) = cond (eqb e.original p) (without p l) (e ∷ without p l)

-- the entry of packet p, if there is one, as a defective one
unfoldable pub turned_defective : ℕ → List Entry → List Entry
turned_defective p [] = []
turned_defective p (e ∷ l) =
    cond (eqb e.original p) (record { original = defective; mapped = e.mapped } ∷ turned_defective p l) (turned_defective p l)

-- "its entry turns defective", "a new one last of them" (02, slip 1): a table in which packet p has no entry
unfoldable pub retired : List Entry → ℕ → List Entry
retired es p = without p (used_of es) ++ (defective_of es ++ (turned_defective p (used_of es) ++ free_of es))

-- "and a free one is taken": that of lowest index, for packet p, which has no entry
unfoldable pub free_taken : List Entry → ℕ → List Entry
free_taken es p =
    inserted (record { original = p; mapped = first_free (free_of es) }) (used_of es) ++ (defective_of es ++ rest (free_of es))

-- the entries resorted once packet p, spared before or not, took the free entry of lowest index
unfoldable pub resorted : List Entry → ℕ → List Entry
resorted es p = free_taken (retired es p) p

-- the sector of a table, field by field
unfoldable pub written_table : ℕ → List ℕ → List ℕ
written_table sequence l =
    filled 2048
    (join
    (replicate 16 0
    ∷ regid sparing_name
    ∷ digits 2 (length l / 2)
    ∷ replicate 2 0
    ∷ digits 4 sequence
    ∷ quads l
    ∷ []))
