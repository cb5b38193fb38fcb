-- What is written reads back: demand 2 of the buyer, in one statement (document 01, "The disc and its addresses", "The VAT and its ICB", "The
-- sparing table"). A VAT, a sparing table and a map list as they are written are what reading asks for, and give back what they were written
-- from. A sparing table follows UDF 1.50, as 02, slip 1, quotes it, in its identifier and in the mark of a defective spare; all else follows CD
-- UDF 1.82 in 01's form, and the suffix of the identifier is zeros. A reader who has read 01 needs besides this file: Vat.antt and Sparing.antt (as
-- they are read), VatWritten.antt (a VAT as it is written) and Written.antt of maps (a map list as it is written).
use Rattle.std.specs.Prelude.{ℕ, ◌+◌, ◌-◌, ◌*◌, ◌^◌, ◌≤◌, ◌<◌, ◌≡◌, true, false, List, [], ◌∷◌, ◌++◌, length, get_or, take, replicate, Ok}
use Rattle.fields.specs.Bytes.{part}
use Rattle.fields.specs.Number.{field}
use Rattle.fields.specs.Regid.{has_regid}
use Rattle.address.specs.Translation.{sector_at}
use Rattle.maps.specs.declared.Kind.TheVariants.{WriteOnce, Rewritable}
use Rattle.maps.specs.declared.Volume.{Volume}
use Rattle.maps.specs.Kinds.{volume_with, tables_apart, tables_of, read_maps}
use Rattle.maps.specs.Written.{maps_of, kind_in_range, places_of, Ranged}
use Rattle.model.specs.declared.Cut.{Cut}
use Rattle.model.specs.declared.Landing.{Landing}
use Rattle.model.specs.declared.Record.{Record}
use Rattle.model.specs.declared.Reply.{Reply}
use Rattle.model.specs.Disc.{Disc, disc, sector, recorded, shapely}
use Rattle.model.specs.Writes.{landing, write, writes, no_cut}
use Rattle.model.specs.Vat.{none, below_or_none, all_below, count_of, entries_of, previous_of, passes, vat_icb, vat_file}
use Rattle.model.specs.VatWritten.{data_sectors, written_data, written_icb}
use Rattle.model.specs.Sparing.{sparing_name, Geometry, Entry, entries, flat, defective, entries_fit, count_in, counts, sequence_at, table_at, written_table}
use Rattle.model.specs.Plan.{reply_of, disc_after}
use Rattle.model.specs.Examine.{Setting, setting}
use Rattle.model.specs.Once.{entries_held, last_held, is_found, found_at, newest, newest_file, icb_block, commit_writes, commit_plan}
use Rattle.model.specs.Calls.{Call, commit, final, accepted}
use Rattle.model.specs.Store.{shape_of}
use Rattle.model.specs.Demand.{after_opening}
use Rattle.model.specs.Consequences.{Follows, answer_after, store_after, lays_icb}
use Rattle.model.specs.Run.{twelve, fresh, lent, calls, before}

-- sector p of the disc is recorded and holds the bytes b
pub record Stands (d : Disc) (p : ℕ) (b : List ℕ) : Type 0 where
  pub marked : recorded d p ≡ true
  pub holds : sector d p ≡ b

-- ---- a VAT

-- what a VAT is written from, with its ICB at logical block k: at most 4,096 entries (line 9), each below k or none, the previous ICB likewise,
-- and k is a block of some partition
pub record VatFrom (k : ℕ) (t : List ℕ) (previous : ℕ) : Type 0 where
  pub few : length t ≤ 4096
  pub below : all_below k t ≡ true
  pub before : below_or_none k previous ≡ true
  pub small : k < 1048576

-- it stands on a disc whose partition starts at sector s: the ICB at k, and "directly below the ICB" its data sectors in their order
pub record VatStands (d : Disc) (s k : ℕ) (t : List ℕ) (previous : ℕ) : Type 0 where
  pub icb : Stands d (sector_at s k) (written_icb k t previous)
  pub room : data_sectors (length t) ≤ k
  pub body :
      (i : ℕ) → i < data_sectors (length t)
      → Stands d (sector_at s (k - data_sectors (length t) + i)) (part (written_data t previous) (2048 * i) 2048)

-- what is read at logical block k: the entries t and the previous ICB
pub record VatBack (d : Disc) (s k : ℕ) (t : List ℕ) (previous : ℕ) : Type 0 where
  -- "A recorded sector at logical k is a VAT ICB when all of this holds": it does
  pub icb : vat_icb d s k ≡ true
  -- "A VAT file is N entries of 4 bytes": N, and each of them at its place in the file
  pub count : count_of (vat_file d s k) ≡ length t
  pub each : (v : ℕ) → v < length t → field (vat_file d s k) (4 * v) 4 ≡ get_or t v 0
  -- all of them, as opening fills the lent table
  pub entries : entries_of (vat_file d s k) ≡ t
  -- "and 4 bytes with the previous VAT ICB's logical block"
  pub names : previous_of (vat_file d s k) ≡ previous

-- ---- a sparing table

-- what a sparing table of sequence n is written from, for a volume that lies in g: entries that meet the copy rule, used, defective and free
-- ones; the sizes are those that lines 1, 2 and 5 let pass, and the sequence has 4 bytes
pub record TableFrom (g : Geometry) (es : List Entry) (n : ℕ) : Type 0 where
  pub fits : entries_fit g es ≡ true
  pub size : g.size ≤ 2048
  pub sectors : g.sectors ≤ 1048576
  pub inside : g.start + g.span ≤ g.sectors
  pub sequence : n < 2 ^ 32

-- what is read of the copy in table sector p
pub record TableBack (d : Disc) (g : Geometry) (p : ℕ) (es : List Entry) (n : ℕ) : Type 0 where
  -- "A copy counts if its sector is recorded and .."
  pub counting : counts d g p ≡ true
  -- the newer identifier (02, slip 1: "in this, new tables and demand 2 follow UDF 1.50")
  pub name : has_regid (sector d p) 16 sparing_name ≡ true
  -- "number R of entries at 48", "sequence at 52", "from 56 entries of original and mapped"
  pub count : count_in (sector d p) ≡ length es
  pub sequence : sequence_at d p ≡ n
  pub table : entries (table_at d p) ≡ es
  -- as opening fills the lent table: original, mapped by turns
  pub numbers : table_at d p ≡ flat es

-- ---- commits

-- the disc d' after a commit names the ICB before it: the one that opening finds on it stands above the one that it finds on the disc d before
-- the commit, and names that one
pub record NamesLast (e : Setting) (d d' : Disc) : Type 0 where
  pub before : is_found (newest e d) ≡ true
  pub after : is_found (newest e d') ≡ true
  pub above : found_at (newest e d) < found_at (newest e d')
  pub names : previous_of (newest_file e d') ≡ found_at (newest e d)

-- ---- all of it

-- for every list of entries, every table and every volume of the form written
pub record ReadBack : Type 0 where
  -- "writes before c are done", "whole (mark 1)": 2,048 bytes whose write is whole stand in their sector
  pub lands :
      (n : ℕ) (c : Cut) (p : ℕ) (b : List ℕ) (d : Disc)
      → shapely d ≡ true → p < length d.marks → length b ≡ 2048 → landing n c ≡ Landing.Done
      → Stands (write n c p b d) p b
  -- what is written is whole sectors: an ICB, the data of a VAT where it has any, and a sparing table
  pub icb_size : (k : ℕ) (t : List ℕ) (previous : ℕ) → length (written_icb k t previous) ≡ 2048
  pub data_size : (t : List ℕ) (previous : ℕ) → 1 ≤ data_sectors (length t) → length (written_data t previous) ≡ 2048 * data_sectors (length t)
  pub table_size : (g : Geometry) (es : List Entry) (n : ℕ) → TableFrom g es n → length (written_table n (flat es)) ≡ 2048
  -- "Written: embedded if 176 + F is less than 2,048", which is up to 458 entries: the ICB alone is a VAT ICB at its place and gives back the
  -- entries and the previous ICB
  pub embedded :
      (d : Disc) (s k : ℕ) (t : List ℕ) (previous : ℕ)
      → length t ≤ 458 → VatFrom k t previous → Stands d (sector_at s k) (written_icb k t previous)
      → VatBack d s k t previous
  -- "else d sectors holding F bytes then zeros, one extent, directly below the ICB": from 459 entries on
  pub beside :
      (d : Disc) (s k : ℕ) (t : List ℕ) (previous : ℕ)
      → 459 ≤ length t → VatFrom k t previous → VatStands d s k t previous
      → VatBack d s k t previous
  -- "A VAT data sector never passes as an ICB": on whatever disc, at whatever logical block j
  pub never :
      (k : ℕ) (t : List ℕ) (previous : ℕ) → VatFrom k t previous
      → (d : Disc) (s j i : ℕ) → passes d s j (part (written_data t previous) (2048 * i) 2048) ≡ false
  -- "Commit: VAT data upward, then the ICB naming the previous ICB": a commit that answers that it is done has laid at its place a VAT of the
  -- first N entries of the lent table, which names the last ICB of the record that was handed to it; the record handed back says where it is
  pub committed :
      (e : Setting) (d : Disc) (t : List ℕ) (held : Record) (c : Cut) (r : Record)
      → reply_of (commit_plan e d t held) c ≡ Ok (Reply.Done r)
      → VatBack (disc_after (commit_plan e d t held) c d) e.start (icb_block held) (take (entries_held held) t) (last_held held)
      × (r ≡ Record.WriteOnce (entries_held held) (icb_block held + 1) (icb_block held))
  -- and in every list of calls of which demand 3 is claimed, each commit whose ICB is whole, cut or not, names the last ICB before it
  pub chained :
      (e : Setting) (d : Disc) (t : List ℕ) (cs : List Call) (c : Cut)
      → Follows e d t (cs ++ (commit c ∷ []))
      → accepted (answer_after e d t cs (commit c)) ≡ true
      → lays_icb (shape_of e) (store_after e d t cs) (commit c) ≡ true
      → NamesLast e (final e (after_opening e d t) cs).disc (final e (after_opening e d t) (cs ++ (commit c ∷ []))).disc
  -- "One sector (004, table 6)": a sparing table that stands in a table sector counts, and gives back its entries and its sequence
  pub table :
      (d : Disc) (g : Geometry) (p : ℕ) (es : List Entry) (n : ℕ)
      → TableFrom g es n → Stands d p (written_table n (flat es))
      → TableBack d g p es n
  -- "A volume is of one of two kinds, told by its map list": the list of a volume of one of the two kinds, whose table sectors are multiples of
  -- 32 and named once, is read as that volume; the list tells no span, and places that the kind does not use are 0
  pub maps :
      (v : Volume) → Ranged v → kind_in_range v.kind ≡ true → tables_apart (tables_of v) ≡ true
      → read_maps (maps_of v.kind v.tables) ≡ Ok (volume_with v.kind (places_of v.kind v.tables))

-- ---- there is something of each kind

-- n blank sectors
unfoldable pub blank_disc : ℕ → Disc
blank_disc n = disc (replicate (2048 * n) 0) (replicate n 0)

-- three entries, the second unused
unfoldable pub three_entries : List ℕ
three_entries = 2 ∷ none ∷ 0 ∷ []

-- their VAT is written to the last of four sectors; the previous ICB is at 1
unfoldable pub embedded_disc : Disc
embedded_disc = write 1 no_cut 3 (written_icb 3 three_entries 1) (blank_disc 4)

-- as many entries as take a data sector, all of them unused
unfoldable pub many_entries : List ℕ
many_entries = replicate 459 none

-- their VAT is written to two sectors, as a commit writes it that is handed no ICB before it
unfoldable pub beside_disc : Disc
beside_disc = writes 1 no_cut (commit_writes (setting [] 0 2) many_entries (Record.WriteOnce 459 0 none)) (blank_disc 2)

-- a rewritable volume of 192 sectors: S 96, L 32, tables at 0 and 32, each of 80 bytes
unfoldable pub small_geometry : Geometry
small_geometry = record { start = 96; span = 32; sectors = 192; tables = 0 ∷ 32 ∷ []; size = 80 }

-- an entry of each kind: packet 0 is spared at 160, the spare at 64 is defective, and that at 128 is free
unfoldable pub each_entry : List Entry
each_entry =
    record { original = 0; mapped = 160 } ∷ record { original = defective; mapped = 64 } ∷ record { original = none; mapped = 128 } ∷ []

-- the table, of sequence 1, is written to sector 32
unfoldable pub table_disc : Disc
table_disc = write 1 no_cut 32 (written_table 1 (flat each_entry)) (blank_disc 192)

-- a volume of each kind, of partition 7
unfoldable pub once_volume : Volume
once_volume = volume_with (WriteOnce 7) (replicate 4 0)

-- its tables are those above
unfoldable pub again_volume : Volume
again_volume = volume_with (Rewritable 7 2 80) (0 ∷ 32 ∷ 0 ∷ 0 ∷ [])

-- each claim of ReadBack speaks of something
pub record ReadBackMet : Type 0 where
  pub embedded : (length three_entries ≤ 458) × VatFrom 3 three_entries 1 × Stands embedded_disc (sector_at 0 3) (written_icb 3 three_entries 1)
  pub beside : (459 ≤ length many_entries) × VatFrom 1 many_entries none × VatStands beside_disc 0 1 many_entries none
  pub table : TableFrom small_geometry each_entry 1 × Stands table_disc 32 (written_table 1 (flat each_entry))
  pub once : Ranged once_volume × (kind_in_range once_volume.kind ≡ true) × (tables_apart (tables_of once_volume) ≡ true)
  pub again : Ranged again_volume × (kind_in_range again_volume.kind ≡ true) × (tables_apart (tables_of again_volume) ≡ true)
  -- the eighteenth call of the run in Run.antt is a commit that is done
  pub committed :
      reply_of
      (commit_plan twelve (final twelve before (take 17 calls)).disc (final twelve before (take 17 calls)).table (final twelve before (take 17 calls)).held)
      no_cut
      ≡ Ok (Reply.Done (Record.WriteOnce 2 10 9))
  pub chained :
      Follows twelve fresh lent (take 17 calls ++ (commit no_cut ∷ []))
      × (accepted (answer_after twelve fresh lent (take 17 calls) (commit no_cut)) ≡ true)
      × (lays_icb (shape_of twelve) (store_after twelve fresh lent (take 17 calls)) (commit no_cut) ≡ true)
