-- Spares inside the partition (02, slip 8), sentence by sentence: what demand 3 does not see of that request, since it compares what is read. That such a
-- disc is made, opened, saved and spared on is `RewritableLives` and `RespareLives` (LivesAgain.antt).
use Rattle.std.specs.Prelude.{ℕ, ◌+◌, ◌*◌, ◌%◌, ◌≤◌, ◌<◌, ◌≡◌, Bool, true, false, ◌&&◌, ◌≢◌, ◌⊎◌, List, [], ◌∷◌, length, get_or, replicate, leb, Ok, Err}
use Rattle.refusal.specs.declared.Refusal.TheVariants.{NumberOutside, BelongsToSpare}
use Rattle.refusal.specs.Tests.{first}
use Rattle.address.specs.declared.LogicalAddress.{LogicalAddress}
use Rattle.address.specs.declared.Span.{Span}
use Rattle.maps.specs.declared.Kind.TheVariants.{Rewritable}
use Rattle.maps.specs.Written.{maps_of}
use Rattle.model.specs.declared.Cut.{Cut}
use Rattle.model.specs.declared.Record.{Record}
use Rattle.model.specs.Disc.{Disc, disc, shapely}
use Rattle.model.specs.Vat.{none}
use Rattle.model.specs.Sparing.{sparing_name, older_name, Geometry, Entry, entries, flat, is_used, defective, defective_of, free_of, originals_fit, ascending, outside, mapped_fit, entries_fit, table_in, copy_fits, of_spare, packet_of, locate, written_table}
use Rattle.model.specs.Examine.{Setting, setting, write_once, geometry, examined}
use Rattle.model.specs.Rewrite.{table_on, entries_on, place_of, of_spare_on, copy_tests, held_current, packet_physical, save_block_tests, packet_tests, spare_tests}
use Rattle.model.specs.Both.{read_rewritable_tests, made}
use Rattle.model.specs.Calls.{Call, save_block, save_packet, spare_packet, refused, answers, final, Proper, ends_cut}
use Rattle.model.specs.Store.{turned}
use Rattle.model.specs.Demand.{Below, after_opening}
use Rattle.model.specs.Consequences.{Follows, answer_after, shown_after}
use Rattle.model.specs.Examples.{gives, entry}
use Rattle.model.specs.LivesAgain.{twice_calls, small_volume, small_spares}
use Rattle.model.specs.NewerWriters.{table_under, spent_table, spent_geometry}

-- ---- "An original may not be such a packet"

-- in a copy that counts the packet of a used entry is none that an entry maps: not its own, and neither a used nor a defective nor a free one's
unfoldable pub ClearOriginals : Type 0
ClearOriginals =
    (g : Geometry) (b : List ℕ) (i j : ℕ)
    → copy_fits g b ≡ true
    → i < length (entries (table_in b)) → is_used (get_or (entries (table_in b)) i (entry 0 0)) ≡ true
    → j < length (entries (table_in b))
    → g.start + (get_or (entries (table_in b)) i (entry 0 0)).original ≢ (get_or (entries (table_in b)) j (entry 0 0)).mapped

-- ---- "Mapped packets there are to be accepted", "The copy rule changes by this much, table packets still stay outside"

-- what is asked of mapped packets and originals, and of the packets of tables
pub record CopyRule : Type 0 where
  -- where every mapped packet is outside the partition the rule is what it was: nothing else is asked of originals
  pub as_before :
      (g : Geometry) (es : List Entry)
      → ((i : ℕ) → i < length es → outside g (get_or es i (entry 0 0)).mapped ≡ true)
      → entries_fit g es ≡ leb (56 + 8 * length es) g.size && (originals_fit g.span es && (ascending es && mapped_fit g es))
  -- and no block of the partition belongs to a spare
  pub none_inside :
      (g : Geometry) (es : List Entry) (b : ℕ)
      → ((i : ℕ) → i < length es → outside g (get_or es i (entry 0 0)).mapped ≡ true)
      → b < g.span
      → of_spare g.start es b ≡ false
  -- the packets of tables are outside it on every disc that lines 1 to 6 let pass
  pub tables :
      (e : Setting) (d : Disc) (lent : Bool) (i : ℕ)
      → write_once e ≡ false → examined e d lent ≡ Ok tt
      → i < length (geometry e d).tables
      → (get_or (geometry e d).tables i 0 + 32 ≤ e.start) ⊎ (e.start + e.span ≤ get_or (geometry e d).tables i 0)

-- ---- "Their logical blocks can then be neither read nor saved directly", and "30, after 12"

-- whatever disc, table and record: 12 from L upward, and below it 30 of every block that belongs to a spare, before any line that asks for marks, tables,
-- a free entry or the sequence
pub record ThirtyAfterTwelve : Type 0 where
  pub block :
      (e : Setting) (d : Disc) (b : ℕ)
      → (e.span ≤ b → first (save_block_tests e d b) ≡ Err NumberOutside)
      × (b < e.span → of_spare_on e d b ≡ true → first (save_block_tests e d b) ≡ Err BelongsToSpare)
  pub packet :
      (e : Setting) (d : Disc) (b : ℕ) → b % 32 ≡ 0
      → (e.span ≤ b → first (packet_tests e d b) ≡ Err NumberOutside)
      × (b < e.span → of_spare_on e d b ≡ true → first (packet_tests e d b) ≡ Err BelongsToSpare)
  pub spare :
      (e : Setting) (d : Disc) (b : ℕ) → b % 32 ≡ 0
      → (e.span ≤ b → first (spare_tests e d b) ≡ Err NumberOutside)
      × (b < e.span → of_spare_on e d b ≡ true → first (spare_tests e d b) ≡ Err BelongsToSpare)
  -- reading has lines 8, 10 and 11 before them
  pub reading :
      (e : Setting) (d : Disc) (t : List ℕ) (held : Record) (b : ℕ)
      → first (copy_tests e d) ≡ Ok tt → held_current e d t held ≡ true
      → (e.span ≤ b → first (read_rewritable_tests e d t held b) ≡ Err NumberOutside)
      × (b < e.span → of_spare_on e d b ≡ true → first (read_rewritable_tests e d t held b) ≡ Err BelongsToSpare)
  -- a translation that is lent the sparing entries
  pub translation :
      (s : Span) (es : List Entry) (b : LogicalAddress)
      → (s.length ≤ b.0 → packet_physical s es b ≡ Err NumberOutside)
      × (b.0 < s.length → of_spare s.start es b.0 ≡ true → packet_physical s es b ≡ Err BelongsToSpare)
      × (b.0 < s.length → of_spare s.start es b.0 ≡ false → packet_physical s es b ≡ Ok (record { 0 = locate s.start es (packet_of b.0) }))

-- ---- "so two addresses still never share a sector"

-- a block of a disc that can be addressed: it is below L and belongs to no spare
pub record Addressed (e : Setting) (d : Disc) (b : ℕ) : Type 0 where
  pub below : b < e.span
  pub free : of_spare_on e d b ≡ false

-- the sectors of these blocks, of tables and of spares in which no packet is read
pub record Apart (e : Setting) (d : Disc) : Type 0 where
  pub blocks : (b c : ℕ) → Addressed e d b → Addressed e d c → b ≢ c → place_of e d b ≢ place_of e d c
  pub tables :
      (b i j : ℕ) → Addressed e d b → i < length (geometry e d).tables → j < 32
      → place_of e d b ≢ get_or (geometry e d).tables i 0 + j
  pub free :
      (b i j : ℕ) → Addressed e d b → i < length (free_of (entries_on e d)) → j < 32
      → place_of e d b ≢ (get_or (free_of (entries_on e d)) i (entry 0 0)).mapped + j
  pub defectives :
      (b i j : ℕ) → Addressed e d b → i < length (defective_of (entries_on e d)) → j < 32
      → place_of e d b ≢ (get_or (defective_of (entries_on e d)) i (entry 0 0)).mapped + j
  -- each is on the disc
  pub on : (b : ℕ) → Addressed e d b → place_of e d b < length d.marks

-- so it is on every disc that a list of calls leaves, wherever the power fails, whether the last call was cut or not
unfoldable pub NeverShare : Type 0
NeverShare =
    (e : Setting) (d : Disc) (t : List ℕ) (cs : List Call)
    → write_once e ≡ false → Follows e d t cs
    → Apart e (final e (after_opening e d t) cs).disc

-- ---- "the cut rules and demand 3 hold for every block that can be addressed, the others giving 30 throughout"

-- the blocks that belong to a spare at the first opening are those that do after any list of calls, wherever the power fails: also where their spare is
-- used by then, or defective
unfoldable pub SameThroughout : Type 0
SameThroughout =
    (e : Setting) (d : Disc) (t : List ℕ) (cs : List Call)
    → write_once e ≡ false → Follows e d t cs
    → (v : ℕ) → of_spare_on e (final e (after_opening e d t) cs).disc v ≡ of_spare_on e d v

-- what is claimed of a list of calls, and of any block v
pub record GivesThirty (e : Setting) (d : Disc) (t : List ℕ) (cs : List Call) (v : ℕ) : Type 0 where
  -- one that belongs to a spare gives 30 in reading, saving and sparing, which are not cut, whatever cut they are given
  pub reads : of_spare_on e d v ≡ true → v < e.span → (out : List ℕ) → length out ≡ 2048 → shown_after e d t cs v out ≡ turned BelongsToSpare
  pub saves :
      of_spare_on e d v ≡ true → v < e.span → (x : List ℕ) (c : Cut) → length x ≡ 2048
      → answer_after e d t cs (save_block v x c) ≡ refused BelongsToSpare
  pub packets :
      of_spare_on e d v ≡ true → v < e.span → v % 32 ≡ 0 → (x : List ℕ) (c : Cut) → length x ≡ 65536
      → answer_after e d t cs (save_packet v x c) ≡ refused BelongsToSpare
  pub sparings :
      of_spare_on e d v ≡ true → v < e.span → v % 32 ≡ 0 → (x : List ℕ) (c : Cut) → length x ≡ 65536
      → answer_after e d t cs (spare_packet v x c) ≡ refused BelongsToSpare
  -- and one that belongs to none never does
  pub others_read : of_spare_on e d v ≡ false → (out : List ℕ) → length out ≡ 2048 → shown_after e d t cs v out ≢ turned BelongsToSpare
  pub others_save : of_spare_on e d v ≡ false → (x : List ℕ) (c : Cut) → answer_after e d t cs (save_block v x c) ≢ refused BelongsToSpare
  pub others_packet : of_spare_on e d v ≡ false → (x : List ℕ) (c : Cut) → answer_after e d t cs (save_packet v x c) ≢ refused BelongsToSpare
  pub others_spare : of_spare_on e d v ≡ false → (x : List ℕ) (c : Cut) → answer_after e d t cs (spare_packet v x c) ≢ refused BelongsToSpare

-- so it is after every list that does not end in a cut
unfoldable pub ThirtyThroughout : Type 0
ThirtyThroughout =
    (e : Setting) (d : Disc) (t : List ℕ) (cs : List Call)
    → write_once e ≡ false → Follows e d t cs
    → ends_cut false (answers e (after_opening e d t) cs) ≡ false
    → (v : ℕ) → GivesThirty e d t cs v

-- ---- these claims speak of some disc

-- the volume of LivesAgain.antt, made with a spare inside its partition and one outside it
unfoldable pub made_inside : Disc → Disc
made_inside d = made small_volume d small_spares

-- what the claims over lists ask for is met there
pub record InsideMet (d : Disc) (t : List ℕ) : Type 0 where
  pub kind : write_once small_volume ≡ false
  -- by every list in which a cut is followed by an opening
  pub follows :
      (cs : List Call) → Proper false cs (answers small_volume (after_opening small_volume (made_inside d) t) cs)
      → Follows small_volume (made_inside d) t cs
  -- blocks 0 to 31 can be addressed, and blocks 32 to 63 belong to the spare inside, which is free
  pub addressed : (b : ℕ) → b < 32 → Addressed small_volume (made_inside d) b
  pub of_spares : (b : ℕ) → 32 ≤ b → b < 64 → of_spare_on small_volume (made_inside d) b ≡ true
  -- a list after which that spare has been used, and is defective
  pub twice : (y z : List ℕ) → length y ≡ 65536 → length z ≡ 65536 → Follows small_volume (made_inside d) t (twice_calls 0 y z)
  pub spent :
      (y z : List ℕ) → length y ≡ 65536 → length z ≡ 65536
      → table_on small_volume (final small_volume (after_opening small_volume (made_inside d) t) (twice_calls 0 y z)).disc ≡ 0 ∷ 64 ∷ defective ∷ 128 ∷ []

-- so it is on every disc of 160 sectors or more, whatever is recorded there
unfoldable pub InsideMakes : Type 0
InsideMakes =
    (d : Disc) (t : List ℕ)
    → Below 256 d.bytes → shapely d ≡ true → 160 ≤ length d.marks → 4096 ≤ length t
    → InsideMet d t

-- S 64 and L 256, with a table at 0: a partition of the packets at 64, 96, and so on to 288
unfoldable pub wide_geometry : Geometry
wide_geometry = record { start = 64; span = 256; sectors = 352; tables = 0 ∷ []; size = 96 }

-- packet 0 is spared at 96, the spare at 160 is defective and those at 224 and 320 are free; the last alone is outside the partition
unfoldable pub inside_table : List Entry
inside_table = entry 0 96 ∷ entry defective 160 ∷ entry none 224 ∷ entry none 320 ∷ []

-- the same with no defective spare, which the older identifier does not know
unfoldable pub older_table : List Entry
older_table = entry 0 96 ∷ entry none 224 ∷ entry none 320 ∷ []

-- its first entry for another packet: that at 96, which it maps itself; that at 160, which is defective; and that at 224, which is free
unfoldable pub other_table : ℕ → List Entry
other_table o = entry o 96 ∷ entry defective 160 ∷ entry none 224 ∷ entry none 320 ∷ []

-- and two packets of which the second is the spare of the first
unfoldable pub crossed_table : List Entry
crossed_table = entry 0 128 ∷ entry 64 96 ∷ []

-- S 32 and L 64, with one table of one entry, at sector 0: the spare at 64, which is free, is the second packet of the partition
unfoldable pub one_table : Setting
one_table = setting (maps_of (Rewritable 0 1 64) (0 ∷ 0 ∷ 0 ∷ 0 ∷ [])) 32 64

-- the entry of that table
unfoldable pub one_spare : List ℕ
one_spare = none ∷ 64 ∷ []

-- the table's sector, and these marks of every other one
unfoldable pub marked_disc : ℕ → Disc
marked_disc m = disc (written_table 0 one_spare) (1 ∷ replicate 95 m)

-- closed copies and closed lists of tests
pub record InsideTried : Type 0 where
  -- an entry of each kind inside the partition, under the newer identifier, and of the two kinds that it knows under the older one
  pub newer : copy_fits wide_geometry (table_under sparing_name 1 (flat inside_table)) ≡ true
  pub older : copy_fits wide_geometry (table_under older_name 1 (flat older_table)) ≡ true
  -- an original that is a mapped packet in each of the four ways: its own, another used one's, a defective one's and a free one's
  pub own : copy_fits wide_geometry (table_under sparing_name 1 (flat (other_table 32))) ≡ false
  pub crossed : copy_fits wide_geometry (table_under sparing_name 1 (flat crossed_table)) ≡ false
  pub broken : copy_fits wide_geometry (table_under sparing_name 1 (flat (other_table 96))) ≡ false
  pub free : copy_fits wide_geometry (table_under sparing_name 1 (flat (other_table 160))) ≡ false
  -- a table whose mapped packets are all outside its partition
  pub before : (i : ℕ) → i < length spent_table → outside spent_geometry (get_or spent_table i (entry 0 0)).mapped ≡ true
  -- the packet next to each is none
  pub beside : copy_fits wide_geometry (table_under sparing_name 1 (flat (other_table 64))) ≡ true
  -- on a disc whose other sectors are blank, saving gives 12, 30 and not 25, and 25; where they are unreadable, 12, 30 and not 14, and 14
  pub blank_blocks :
      (gives (save_block_tests one_table (marked_disc 0) 64) ≡ 12)
      × (gives (save_block_tests one_table (marked_disc 0) 32) ≡ 30)
      × (gives (save_block_tests one_table (marked_disc 0) 31) ≡ 25)
  pub unreadable_blocks :
      (gives (save_block_tests one_table (marked_disc 2) 64) ≡ 12)
      × (gives (save_block_tests one_table (marked_disc 2) 63) ≡ 30)
      × (gives (save_block_tests one_table (marked_disc 2) 0) ≡ 14)
  -- reading likewise
  pub reading :
      (gives (read_rewritable_tests one_table (marked_disc 0) one_spare (Record.Rewritable 1 0) 64) ≡ 12)
      × (gives (read_rewritable_tests one_table (marked_disc 0) one_spare (Record.Rewritable 1 0) 32) ≡ 30)
      × (gives (read_rewritable_tests one_table (marked_disc 0) one_spare (Record.Rewritable 1 0) 31) ≡ 25)
  -- a packet is saved or not; sparing gives 12, 30 and not 17, and 17
  pub packets : (gives (packet_tests one_table (marked_disc 0) 64) ≡ 12) × (gives (packet_tests one_table (marked_disc 0) 32) ≡ 30) × (gives (packet_tests one_table (marked_disc 0) 0) ≡ 0)
  pub sparings : (gives (spare_tests one_table (marked_disc 0) 64) ≡ 12) × (gives (spare_tests one_table (marked_disc 0) 32) ≡ 30) × (gives (spare_tests one_table (marked_disc 0) 0) ≡ 17)
