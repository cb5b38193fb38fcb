-- Opening, reading and making: the calls of both kinds (document 01, "Calls and their sector writes").
use Rattle.std.specs.Prelude.{ℕ, ◌*◌, Bool, true, cond, ◌&&◌, List, [], ◌∷◌, ◌++◌, length, replicate, eqb, Ok, Err, Result}
use Rattle.refusal.specs.declared.Refusal.TheVariants.{Misaligned, StaleRecord, NotBlank}
use Rattle.refusal.specs.Verdict.{Verdict}
use Rattle.refusal.specs.Tests.{Test, test, first, and_then}
use Rattle.address.specs.Translation.{entry_sector_at}
use Rattle.model.specs.declared.Record.{Record}
use Rattle.model.specs.declared.Opened.{Opened}
use Rattle.refusal.specs.declared.Refusal.{Refusal}
use Rattle.model.specs.Disc.{Disc, sector, mark, mark_tests}
use Rattle.model.specs.Writes.{Write, writes, upward, no_cut}
use Rattle.model.specs.Vat.{none, entries_of}
use Rattle.model.specs.VatWritten.{written_icb}
use Rattle.model.specs.Sparing.{Entry, flat, entries_fit, written_table}
use Rattle.model.specs.Examine.{Setting, write_once, geometry, examined, lent_table}
use Rattle.model.specs.Once.{held_fits, entry_tests, newest_file, open_once_tests, found_record, passed_over, filled_from, next_on}
use Rattle.model.specs.Rewrite.{table_on, copy_tests, current_record, held_current, place_of, block_test, spare_test, copies_to}

-- ---- opening

-- why opening turns a disc down
unfoldable pub open_verdict : Setting → Disc → List ℕ → Verdict
open_verdict e d t =
    and_then (examined e d (lent_table t)) (first (cond (write_once e) (open_once_tests e d) (copy_tests e d)))

-- the record of what is on the disc
unfoldable pub record_on : Setting → Disc → Record
record_on e d = cond (write_once e) (found_record e d) (current_record e d)

-- the numbers of the table on the disc
unfoldable pub numbers_on : Setting → Disc → List ℕ
numbers_on e d = cond (write_once e) (entries_of (newest_file e d)) (table_on e d)

-- how many sectors were passed over; 0 on a rewritable disc
unfoldable pub passed_on : Setting → Disc → ℕ
passed_on e d = cond (write_once e) (passed_over e d) 0

-- the answer of a verdict
unfoldable pub opened_by : Verdict → Record → ℕ → Result Opened Refusal
opened_by (Ok _) held passed = Ok (record { handed = held; passed = passed })
opened_by (Err why) held passed = Err why

-- the lent table after a verdict
unfoldable pub filled_by : Verdict → List ℕ → List ℕ → List ℕ
filled_by (Ok _) l t = filled_from l t
filled_by (Err why) l t = t

-- what opening answers
unfoldable pub opening : Setting → Disc → List ℕ → Result Opened Refusal
opening e d t = opened_by (open_verdict e d t) (record_on e d) (passed_on e d)

-- the lent table after it
unfoldable pub opened_table : Setting → Disc → List ℕ → List ℕ
opened_table e d t = filled_by (open_verdict e d t) (numbers_on e d) t

-- ---- reading gives a block's 2,048 bytes

-- the sector of a virtual block: S and its entry
unfoldable pub entry_sector : Setting → List ℕ → ℕ → ℕ
entry_sector e t v = entry_sector_at e.start t v

-- the sector of a block: by its entry, or by the sparing table
unfoldable pub block_sector : Setting → Disc → List ℕ → ℕ → ℕ
block_sector e d t v = cond (write_once e) (entry_sector e t v) (place_of e d v)

-- lines 11 to 13, 25 and 14 on a write-once disc
unfoldable pub read_once_tests : Setting → Disc → List ℕ → Record → ℕ → List Test
read_once_tests e d t held v =
    test (held_fits e d t held) StaleRecord
    ∷ (entry_tests t held v ++ mark_tests (mark d (block_sector e d t v)))

-- lines 8, 10 to 12, 30, 25 and 14 on a rewritable disc
unfoldable pub read_rewritable_tests : Setting → Disc → List ℕ → Record → ℕ → List Test
read_rewritable_tests e d t held b =
    copy_tests e d
    ++ (test (held_current e d t held) StaleRecord
    ∷ block_test e b
    ∷ spare_test e d b
    ∷ mark_tests (mark d (block_sector e d t b)))

-- line 3
unfoldable pub read_lent : List ℕ → List ℕ → Bool
read_lent t out = lent_table t && eqb (length out) 2048

-- why reading is turned down
unfoldable pub read_verdict : Setting → Disc → List ℕ → Record → ℕ → List ℕ → Verdict
read_verdict e d t held v out =
    and_then (examined e d (read_lent t out))
    (first (cond (write_once e) (read_once_tests e d t held v) (read_rewritable_tests e d t held v)))

-- the lent bytes after a verdict
unfoldable pub block_by : Verdict → List ℕ → List ℕ → List ℕ
block_by (Ok _) b out = b
block_by (Err why) b out = out

-- what reading answers
unfoldable pub reading : Setting → Disc → List ℕ → Record → ℕ → List ℕ → Verdict
reading e d t held v out = read_verdict e d t held v out

-- the lent bytes after it
unfoldable pub read_bytes : Setting → Disc → List ℕ → Record → ℕ → List ℕ → List ℕ
read_bytes e d t held v out = block_by (read_verdict e d t held v out) (sector d (block_sector e d t v)) out

-- ---- making: a blank write-once partition gets an empty VAT; a rewritable one gets packets of zeros, a list of spares and tables of
-- sequence 0

-- the entries of a list of spares, all free
unfoldable pub spare_entries : List ℕ → List Entry
spare_entries [] = []
spare_entries (m ∷ l) = record { original = none; mapped = m } ∷ spare_entries l

-- lines 6 and 21
unfoldable pub make_tests : Setting → Disc → List ℕ → List Test
make_tests e d spares =
    cond (write_once e)
    (test (eqb (next_on e d) 0) NotBlank ∷ [])
    (test (entries_fit (geometry e d) (spare_entries spares)) Misaligned ∷ [])

-- why making is turned down; it is lent no other slice
unfoldable pub make_verdict : Setting → Disc → List ℕ → Verdict
make_verdict e d spares = and_then (examined e d true) (first (make_tests e d spares))

-- the writes of making
unfoldable pub make_writes : Setting → Disc → List ℕ → List Write
make_writes e d spares =
    cond (write_once e)
    (record { place = e.start; bytes = written_icb 0 [] none } ∷ [])
    (upward e.span e.start (replicate (2048 * e.span) 0) 0
    ++ copies_to (geometry e d).tables (written_table 0 (flat (spare_entries spares))))

-- the disc after a verdict: the writes in turn, with no cut, or as it came
unfoldable pub made_by : Verdict → List Write → Disc → Disc
made_by (Ok _) ws d = writes 1 no_cut ws d
made_by (Err why) ws d = d

-- the disc after making; it hands back no record
unfoldable pub made : Setting → Disc → List ℕ → Disc
made e d spares = made_by (make_verdict e d spares) (make_writes e d spares) d
