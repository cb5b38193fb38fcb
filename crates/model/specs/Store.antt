-- The plain store (document 01, "The plain store"). It is fed each call's arguments and cut, and whether the call was accepted; whether the
-- call was cut follows from its cut and its number of writes.
use Rattle.std.specs.Prelude.{ℕ, zero, suc, ◌+◌, ◌%◌, Bool, true, false, cond, ◌&&◌, ◌||◌, List, [], ◌∷◌, ◌++◌, map, length, get_or, set, take, drop, eqb, ltb}
use Rattle.refusal.specs.declared.Refusal.{Refusal}
use Rattle.refusal.specs.declared.Refusal.TheVariants.{NumberOutside, BelongsToSpare, UnusedEntry, BlankSector, UnreadableSector}
use Rattle.fields.specs.Bytes.{part}
use Rattle.address.specs.Translation.{sector_at}
use Rattle.model.specs.declared.Cut.{Cut}
use Rattle.model.specs.declared.Effect.{Effect}
use Rattle.model.specs.declared.Landing.{Landing}
use Rattle.model.specs.Disc.{Disc, sector, mark, recorded}
use Rattle.model.specs.Writes.{landing, struck, no_cut}
use Rattle.model.specs.Vat.{none, entries_of}
use Rattle.model.specs.VatWritten.{data_sectors}
use Rattle.model.specs.Sparing.{packet_of}
use Rattle.model.specs.Examine.{Setting, write_once, volume}
use Rattle.model.specs.Once.{newest_file}
use Rattle.model.specs.Rewrite.{of_spare_on, place_of}
use Rattle.model.specs.Calls.{Call, save_virtual, free_virtual, commit, save_block, save_packet, spare_packet, open_disc}
use Rattle.maps.specs.Kinds.{tables_of}

-- a block: its bytes, unused, unreadable, blank (02, slip 5: "The plain store gains blank as a fourth reading"), or of a spare (02, slip 8)
pub data Slot : Type 0 where
  holds : List ℕ → Slot
  unused : Slot
  unreadable : Slot
  blank : Slot
  reserved : Slot

-- the blocks, and on a write-once disc a committed copy of them
pub record Store : Type 0 where
  pub blocks : List Slot
  pub copy : List Slot

-- a store of blocks and a copy
abbrev pub store : List Slot → List Slot → Store
store b c = record { blocks = b; copy = c }

-- what the store knows of the volume: whether it is write-once, and the number of sparing tables
pub record Shape : Type 0 where
  pub once : Bool
  pub tables : ℕ

-- ---- its start, as the disc reads through the VAT that the scan finds or the current sparing table

-- a sector as a block
unfoldable pub slot_at : Disc → ℕ → Slot
slot_at d p = cond (recorded d p) (holds (sector d p)) (cond (eqb (mark d p) 0) blank unreadable)

-- a VAT entry as a block; the partition starts at sector s
unfoldable pub entry_slot : Disc → ℕ → ℕ → Slot
entry_slot d s x = cond (eqb x none) unused (slot_at d (sector_at s x))

-- the blocks of some entries
unfoldable pub entry_slots : Disc → ℕ → List ℕ → List Slot
entry_slots d s l = map (entry_slot d s) l

-- block b of a rewritable disc: of a spare, or the sector at which it is
unfoldable pub place_slot : Setting → Disc → ℕ → Slot
place_slot e d b = cond (of_spare_on e d b) reserved (slot_at d (place_of e d b))

-- n blocks from b on
unfoldable pub place_slots : Setting → Disc → ℕ → ℕ → List Slot
place_slots e d b zero = []
place_slots e d b (suc n) = place_slot e d b ∷ place_slots e d (b + 1) n

-- the blocks of a disc
unfoldable pub blocks_on : Setting → Disc → List Slot
blocks_on e d = cond (write_once e) (entry_slots d e.start (entries_of (newest_file e d))) (place_slots e d 0 e.span)

-- the store of a disc, the copy too
unfoldable pub start : Setting → Disc → Store
start e d = store (blocks_on e d) (blocks_on e d)

-- what it knows of the volume
unfoldable pub shape_of : Setting → Shape
shape_of e = record { once = write_once e; tables = length (tables_of (volume e)) }

-- ---- whether a call was cut

-- the cut of a call
unfoldable pub cut_in : Call → Cut
cut_in (save_virtual v b c) = c
cut_in (free_virtual v) = no_cut
cut_in (commit c) = c
cut_in (save_block b x c) = c
cut_in (save_packet b x c) = c
cut_in (spare_packet b x c) = c
cut_in open_disc = no_cut

-- the number of its sector writes
unfoldable pub writes_in : Shape → Store → Call → ℕ
writes_in h σ (save_virtual v b c) = 1
writes_in h σ (free_virtual v) = 0
writes_in h σ (commit c) = data_sectors (length σ.blocks) + 1
writes_in h σ (save_block b x c) = 32
writes_in h σ (save_packet b x c) = 32
writes_in h σ (spare_packet b x c) = 32 + h.tables
writes_in h σ open_disc = 0

-- whether the power failed in it
unfoldable pub was_cut : Shape → Store → Call → Bool
was_cut h σ c = struck (cut_in c) (writes_in h σ c)

-- ---- what a call that was accepted does to it

-- block v, or one more at the end
unfoldable pub put : List Slot → ℕ → Slot → List Slot
put l v x = cond (ltb v (length l)) (set l v x) (l ++ (x ∷ []))

-- several blocks from p on
unfoldable pub puts : List Slot → ℕ → List Slot → List Slot
puts l p [] = l
puts l p (x ∷ xs) = puts (set l p x) (p + 1) xs

-- n blocks of lent bytes from `at` on
unfoldable pub slots_in : ℕ → List ℕ → ℕ → List Slot
slots_in zero b at = []
slots_in (suc n) b at = holds (part b at 2048) ∷ slots_in n b (at + 2048)

-- a block o, to be written as x, once the write has landed
unfoldable pub slot_after : Landing → Slot → Slot → Slot
slot_after Landing.Done o x = x
slot_after Landing.Old o x = o
slot_after Landing.Unreadable o x = unreadable
slot_after Landing.Untouched o x = o

-- several blocks from p on, written one by one, the first as write number n: each by the cut's rule
unfoldable pub puts_cut : ℕ → Cut → List Slot → ℕ → List Slot → List Slot
puts_cut n c l p [] = l
puts_cut n c l p (x ∷ xs) = puts_cut (n + 1) c (set l p (slot_after (landing n c) (get_or l p unused) x)) (p + 1) xs

-- the 32 blocks of the packet of b, with block b replaced
unfoldable pub packet_with : List Slot → ℕ → List ℕ → List Slot
packet_with l b x = set (take 32 (drop (packet_of b) l)) (b % 32) (holds x)

-- whether a write at which the power fails is whole all the same
unfoldable pub is_whole : Effect → Bool
is_whole Effect.Old = false
is_whole Effect.Unreadable = false
is_whole Effect.Whole = true

-- whether write n of a call that was cut at c is whole
unfoldable pub whole_at : ℕ → Cut → Bool
whole_at n c = ltb n c.at || (eqb n c.at && is_whole c.effect)

-- a call that was accepted, and cut or not
unfoldable pub taken : Shape → Store → Call → Bool → Store
taken h σ (save_virtual v b c) true = σ
taken h σ (save_virtual v b c) false = store (put σ.blocks v (holds b)) σ.copy
taken h σ (free_virtual v) true = σ
taken h σ (free_virtual v) false = store (set σ.blocks v unused) σ.copy
taken h σ (commit c) true = cond (whole_at (writes_in h σ (commit c)) c) (store σ.blocks σ.blocks) σ
taken h σ (commit c) false = store σ.blocks σ.blocks
taken h σ (save_block b x c) true = store (puts_cut 1 c σ.blocks (packet_of b) (packet_with σ.blocks b x)) σ.copy
taken h σ (save_block b x c) false = store (set σ.blocks b (holds x)) σ.copy
taken h σ (save_packet b x c) true = store (puts_cut 1 c σ.blocks b (slots_in 32 x 0)) σ.copy
taken h σ (save_packet b x c) false = store (puts σ.blocks b (slots_in 32 x 0)) σ.copy
taken h σ (spare_packet b x c) true = cond (whole_at 33 c) (store (puts σ.blocks b (slots_in 32 x 0)) σ.copy) σ
taken h σ (spare_packet b x c) false = store (puts σ.blocks b (slots_in 32 x 0)) σ.copy
taken h σ open_disc true = σ
taken h σ open_disc false = cond h.once (store σ.copy σ.copy) σ

-- refusals change nothing
unfoldable pub next : Shape → Store → Call → Bool → Store
next h σ c false = σ
next h σ c true = taken h σ c (was_cut h σ c)

-- ---- what it shows of a block

-- what is seen of a block: its bytes, or why not
pub data Seen : Type 0 where
  bytes : List ℕ → Seen
  turned : Refusal → Seen

-- its bytes, 13 where it is unused, 14 where it is unreadable, 25 where it is blank, 30 where it is of a spare
unfoldable pub seen_as : Slot → Seen
seen_as (holds b) = bytes b
seen_as unused = turned UnusedEntry
seen_as unreadable = turned UnreadableSector
seen_as blank = turned BlankSector
seen_as reserved = turned BelongsToSpare

-- and 12 from the number of blocks upward
unfoldable pub look : Store → ℕ → Seen
look σ v = cond (ltb v (length σ.blocks)) (seen_as (get_or σ.blocks v unused)) (turned NumberOutside)
