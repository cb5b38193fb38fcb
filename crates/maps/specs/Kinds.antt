-- The two kinds of volume, told by the map list (document 01, "The disc and its addresses"), and why a list is turned down (lines 4 to 6).
use Rattle.std.specs.Prelude.{ℕ, ◌%◌, Bool, true, false, not, ◌&&◌, ◌||◌, List, [], ◌∷◌, ◌++◌, length, get_or, take, replicate, eqb, leb, Ok, Err, Result}
use Rattle.refusal.specs.declared.Refusal.TheVariants.{MapCut, NeitherKind, Misaligned}
use Rattle.refusal.specs.Verdict.{Verdict, answered}
use Rattle.refusal.specs.Tests.{Test, test, first}
use Rattle.fields.specs.Number.{field}
unfoldable pub use Rattle.fields.specs.Number.{words}
use Rattle.fields.specs.Regid.{has_regid}
use Rattle.maps.specs.declared.Kind.{Kind}
use Rattle.maps.specs.declared.Kind.TheVariants.{WriteOnce, Rewritable}
use Rattle.maps.specs.declared.Volume.{Volume}
use Rattle.refusal.specs.declared.Refusal.{Refusal}
use Rattle.maps.specs.Walk.{Walked, short, maps, walk}

-- "*UDF Virtual Partition"
unfoldable pub virtual_name : List ℕ
virtual_name = 42 ∷ 85 ∷ 68 ∷ 70 ∷ 32 ∷ 86 ∷ 105 ∷ 114 ∷ 116 ∷ 117 ∷ 97 ∷ 108 ∷ 32 ∷ 80 ∷ 97 ∷ 114 ∷ 116 ∷ 105 ∷ 116 ∷ 105 ∷ 111 ∷ 110 ∷ []

-- "*UDF Sparable Partition"
unfoldable pub sparable_name : List ℕ
sparable_name = 42 ∷ 85 ∷ 68 ∷ 70 ∷ 32 ∷ 83 ∷ 112 ∷ 97 ∷ 114 ∷ 97 ∷ 98 ∷ 108 ∷ 101 ∷ 32 ∷ 80 ∷ 97 ∷ 114 ∷ 116 ∷ 105 ∷ 116 ∷ 105 ∷ 111 ∷ 110 ∷ []

-- a map of type 1 is 6 bytes, its partition number (2 bytes) at 4
unfoldable pub type_one : List ℕ → Bool
type_one m = eqb (length m) 6 && eqb (get_or m 0 0) 1

-- a map of type 2 is 64 bytes, the regid at 4, the partition number at 38
unfoldable pub type_two : List ℕ → List ℕ → Bool
type_two name m = eqb (length m) 64 && (eqb (get_or m 0 0) 2 && has_regid m 4 name)

-- the ranges of a rewritable map's number of tables and of the bytes of each
unfoldable pub tables_in_range : ℕ → ℕ → Bool
tables_in_range tables size = leb 1 tables && (leb tables 4 && (leb 56 size && leb size 2048))

-- exactly a type 1 map, then type 2 with *UDF Virtual Partition; same partition number
unfoldable pub is_write_once : List (List ℕ) → Bool
is_write_once [] = false
is_write_once (a ∷ []) = false
is_write_once (a ∷ b ∷ []) = type_one a && (type_two virtual_name b && eqb (field a 4 2) (field b 38 2))
is_write_once (a ∷ b ∷ c ∷ l) = false

-- exactly one type 2 map with *UDF Sparable Partition, packet length 32 at 40, number of tables 1 to 4 at 42, bytes of each 56 to 2,048 at 44
unfoldable pub is_rewritable : List (List ℕ) → Bool
is_rewritable [] = false
is_rewritable (a ∷ []) = type_two sparable_name a && (eqb (field a 40 2) 32 && tables_in_range (get_or a 42 0) (field a 44 4))
is_rewritable (a ∷ b ∷ l) = false

-- the first n of four table sectors, and 0 in the other places
unfoldable pub used : ℕ → List ℕ → List ℕ
used n t = take 4 (take n t ++ replicate 4 0)

-- a volume with no span
unfoldable pub volume_with : Kind → List ℕ → Volume
volume_with k t = record { span = record { start = 0; length = 0 }; kind = k; tables = t }

-- what a refused reading hands back beside its number
unfoldable pub no_volume : Volume
no_volume = volume_with (WriteOnce 0) (replicate 4 0)

-- the volume of a list that is one of the two kinds; table sectors from 48, 4 bytes each
unfoldable pub volume_of : List (List ℕ) → Volume
volume_of [] = no_volume
volume_of (a ∷ []) =
    volume_with (Rewritable (field a 38 2) (get_or a 42 0) (field a 44 4)) (used (get_or a 42 0) (words a 48 4))
volume_of (a ∷ b ∷ l) = volume_with (WriteOnce (field b 38 2)) (replicate 4 0)

-- whether t is none of the sectors
unfoldable pub absent : ℕ → List ℕ → Bool
absent t [] = true
absent t (x ∷ l) = not (eqb t x) && absent t l

-- of line 6, what a map list alone shows: each table sector is a multiple of 32, and none is named twice
unfoldable pub tables_apart : List ℕ → Bool
tables_apart [] = true
tables_apart (t ∷ l) = eqb (t % 32) 0 && (absent t l && tables_apart l)

-- the table sectors among the four places of a kind; a write-once volume has none
unfoldable pub tables_in : Kind → List ℕ → List ℕ
tables_in (WriteOnce p) t = []
tables_in (Rewritable p n size) t = take n t

-- the table sectors of a volume
unfoldable pub tables_of : Volume → List ℕ
tables_of v = tables_in v.kind v.tables

-- what stands in the way of reading the maps ms
unfoldable pub kind_tests : List (List ℕ) → List Test
kind_tests ms =
    test (is_write_once ms || is_rewritable ms) NeitherKind ∷
    test (tables_apart (tables_of (volume_of ms))) Misaligned ∷
    []

-- why a map list is turned down: lines 4, 5 and, of 6, what it shows
unfoldable pub judged : Walked → Verdict
judged short = Err MapCut
judged (maps ms) = first (kind_tests ms)

-- the volume of a walked list
unfoldable pub volume_in : Walked → Volume
volume_in short = no_volume
volume_in (maps ms) = volume_of ms

-- reading a map list
unfoldable pub read_maps : List ℕ → Result Volume Refusal
read_maps s = answered (judged (walk s)) (volume_in (walk s))

-- the volume that was read, none where the list is turned down
unfoldable pub volume_read : Result Volume Refusal → Volume
volume_read (Ok v) = v
volume_read (Err why) = no_volume
