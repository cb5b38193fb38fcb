-- The calls on a rewritable disc (document 01, "Calls and their sector writes"; 02, slips 1, 5 and 8), each as its tests in checking order and its
-- plan.
use Rattle.std.specs.Prelude.{ℕ, ◌+◌, ◌-◌, ◌*◌, ◌%◌, Bool, true, false, cond, not, ◌&&◌, List, [], ◌∷◌, ◌++◌, length, take, eqb, leb, ltb, Result}
use Rattle.refusal.specs.declared.Refusal.TheVariants.{OtherKind, NoTable, CopiesDiffer, StaleRecord, NumberOutside, BelongsToSpare, OneTable, NoSpare, LastSequence}
use Rattle.refusal.specs.Verdict.{Verdict, answered}
use Rattle.refusal.specs.Tests.{Test, test, first, and_then}
use Rattle.fields.specs.Bytes.{same, splice}
use Rattle.address.specs.declared.LogicalAddress.{LogicalAddress}
use Rattle.address.specs.declared.Span.{Span}
use Rattle.address.specs.declared.PhysicalAddress.{PhysicalAddress}
use Rattle.refusal.specs.declared.Refusal.{Refusal}
use Rattle.address.specs.Translation.{block_tests}
use Rattle.model.specs.declared.Record.{Record}
use Rattle.model.specs.Disc.{Disc, recorded_run, first_mark, mark_tests, joined}
use Rattle.model.specs.Writes.{Write, upward}
use Rattle.model.specs.Sparing.{Entry, entries, flat, free_of, counting, current, current_sequence, current_table, agree, packet_of, of_spare, locate, first_free, resorted, written_table}
use Rattle.model.specs.Examine.{Setting, write_once, geometry, examined, lent_table}
use Rattle.model.specs.Once.{filled_from}
use Rattle.model.specs.Plan.{Plan, carry, unless}

-- whether there is none
unfoldable pub is_none : List ℕ → Bool
is_none [] = true
is_none (x ∷ l) = false

-- the current table of the disc
unfoldable pub table_on : Setting → Disc → List ℕ
table_on e d = current_table d (geometry e d)

-- its entries
unfoldable pub entries_on : Setting → Disc → List Entry
entries_on e d = entries (table_on e d)

-- its sequence
unfoldable pub sequence_on : Setting → Disc → ℕ
sequence_on e d = current_sequence d (geometry e d)

-- R
unfoldable pub count_on : Setting → Disc → ℕ
count_on e d = length (entries_on e d)

-- lines 8 and 10
unfoldable pub copy_tests : Setting → Disc → List Test
copy_tests e d =
    test (not (is_none (counting d (geometry e d)))) NoTable
    ∷ test (agree d (table_on e d) (current d (geometry e d))) CopiesDiffer
    ∷ []

-- the record of the current table
unfoldable pub current_record : Setting → Disc → Record
current_record e d = Record.Rewritable (count_on e d) (sequence_on e d)

-- line 11: the record and the lent table that goes with it do not differ from the current table, sequence included
unfoldable pub held_current : Setting → Disc → List ℕ → Record → Bool
held_current e d t (Record.WriteOnce n next last) = false
held_current e d t (Record.Rewritable n sequence) =
    eqb n (count_on e d) && (eqb sequence (sequence_on e d) && same (take (2 * n) t) (table_on e d))

-- the tests of every call on a rewritable disc but opening and making, and after them its own
unfoldable pub rewritable_verdict : Setting → Disc → List ℕ → Bool → Record → List Test → Verdict
rewritable_verdict e d t lent held own =
    and_then (examined e d lent)
    (first (test (not (write_once e)) OtherKind ∷ (copy_tests e d ++ (test (held_current e d t held) StaleRecord ∷ own))))

-- the sector at which block b is
unfoldable pub place_of : Setting → Disc → ℕ → ℕ
place_of e d b = locate e.start (entries_on e d) b

-- line 12: b is below L
unfoldable pub block_test : Setting → ℕ → Test
block_test e b = test (ltb b e.span) NumberOutside

-- block b belongs to a spare of the current table
unfoldable pub of_spare_on : Setting → Disc → ℕ → Bool
of_spare_on e d b = of_spare e.start (entries_on e d) b

-- line 30: "the block or packet belongs to a spare" (02, slip 8)
unfoldable pub spare_test : Setting → Disc → ℕ → Test
spare_test e d b = test (not (of_spare_on e d b)) BelongsToSpare

-- why a logical address is turned down by a translation that is lent the sparing entries: lines 12 and 30. One that is lent S and L only (address) does
-- not test 30
unfoldable pub packet_verdict : Span → List Entry → LogicalAddress → Verdict
packet_verdict s es b = first (block_tests s b ++ (test (not (of_spare s.start es b.0)) BelongsToSpare ∷ []))

-- that translation: the first sector of the packet of b
unfoldable pub packet_physical : Span → List Entry → LogicalAddress → Result PhysicalAddress Refusal
packet_physical s es b = answered (packet_verdict s es b) (record { 0 = locate s.start es (packet_of b.0) })

-- ---- save b: the packet read, one block replaced, 32 sectors rewritten upward

-- the sectors to be read (02, slip 5): those of a packet from p on but the one that is replaced, number i of them. The mark of the first of
-- them that is not recorded, of those below it, and if all of those are, of those above it
unfoldable pub other_mark : Disc → ℕ → ℕ → ℕ
other_mark d p i = cond (recorded_run d p i) (first_mark d (p + i + 1) (31 - i)) (first_mark d p i)

-- lines 12, 30, 25 and 14
unfoldable pub save_block_tests : Setting → Disc → ℕ → List Test
save_block_tests e d b =
    block_test e b
    ∷ spare_test e d b
    ∷ mark_tests (other_mark d (place_of e d (packet_of b)) (b % 32))

-- line 3
unfoldable pub block_lent : List ℕ → List ℕ → Bool
block_lent t block = lent_table t && eqb (length block) 2048

-- the 32 writes of a packet
unfoldable pub packet_writes : ℕ → List ℕ → List Write
packet_writes p bytes = upward 32 p bytes 0

-- the packet's bytes with one block replaced
unfoldable pub replaced : Disc → ℕ → ℕ → List ℕ → List ℕ
replaced d p i block = splice (joined d p 32) (2048 * i) block

-- the plan
unfoldable pub save_block_plan : Setting → Disc → List ℕ → Record → ℕ → List ℕ → Plan
save_block_plan e d t held b block =
    unless
    (rewritable_verdict e d t (block_lent t block) held (save_block_tests e d b))
    (carry
    (packet_writes (place_of e d (packet_of b)) (replaced d (place_of e d (packet_of b)) (b % 32) block))
    t
    held)

-- ---- save packet: the same with 65,536 lent bytes

-- lines 12 and 30: a packet start is a multiple of 32 below L, and no spare's
unfoldable pub packet_tests : Setting → Disc → ℕ → List Test
packet_tests e d b = test (eqb (b % 32) 0 && ltb b e.span) NumberOutside ∷ spare_test e d b ∷ []

-- line 3
unfoldable pub packet_lent : List ℕ → List ℕ → Bool
packet_lent t packet = lent_table t && eqb (length packet) 65536

-- the plan
unfoldable pub save_packet_plan : Setting → Disc → List ℕ → Record → ℕ → List ℕ → Plan
save_packet_plan e d t held b packet =
    unless
    (rewritable_verdict e d t (packet_lent t packet) held (packet_tests e d b))
    (carry (packet_writes (place_of e d b) packet) t held)

-- ---- spare packet, also one that is spared already (02, slip 1): those bytes to the free entry of lowest index, upward; then the table,
-- sequence plus 1, resorted: first to copies that were not current, then to the others, each in map order

-- whether there is no entry
unfoldable pub no_entry : List Entry → Bool
no_entry [] = true
no_entry (x ∷ l) = false

-- lines 12, 30, 17, 19 and 20
unfoldable pub spare_tests : Setting → Disc → ℕ → List Test
spare_tests e d b =
    packet_tests e d b
    ++ (test (leb 2 (length (geometry e d).tables)) OneTable
    ∷ test (not (no_entry (free_of (entries_on e d)))) NoSpare
    ∷ test (not (eqb (sequence_on e d) 0xffffffff)) LastSequence
    ∷ [])

-- whether a sector is none of the current copies
unfoldable pub not_in : List ℕ → ℕ → Bool
not_in [] t = true
not_in (x ∷ l) t = not (eqb x t) && not_in l t

-- those of ts that are not among the current copies cs
unfoldable pub stale : List ℕ → List ℕ → List ℕ
stale cs [] = []
stale cs (t ∷ ts) = cond (not_in cs t) (t ∷ stale cs ts) (stale cs ts)

-- the same bytes to several sectors
unfoldable pub copies_to : List ℕ → List ℕ → List Write
copies_to [] bytes = []
copies_to (t ∷ ts) bytes = record { place = t; bytes = bytes } ∷ copies_to ts bytes

-- the table after the sparing of packet b
unfoldable pub spared_table : Setting → Disc → ℕ → List ℕ
spared_table e d b = flat (resorted (entries_on e d) b)

-- the order in which the copies are written
unfoldable pub copy_order : Setting → Disc → List ℕ
copy_order e d = stale (current d (geometry e d)) (geometry e d).tables ++ current d (geometry e d)

-- the writes
unfoldable pub spare_writes : Setting → Disc → ℕ → List ℕ → List Write
spare_writes e d b packet =
    packet_writes (first_free (free_of (entries_on e d))) packet
    ++ copies_to (copy_order e d) (written_table (sequence_on e d + 1) (spared_table e d b))

-- the plan
unfoldable pub spare_plan : Setting → Disc → List ℕ → Record → ℕ → List ℕ → Plan
spare_plan e d t held b packet =
    unless
    (rewritable_verdict e d t (packet_lent t packet) held (spare_tests e d b))
    (carry
    (spare_writes e d b packet)
    (filled_from (spared_table e d b) t)
    (Record.Rewritable (count_on e d) (sequence_on e d + 1)))
