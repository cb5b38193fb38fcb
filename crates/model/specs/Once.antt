-- The calls on a write-once disc (document 01, "Calls and their sector writes"), each as its tests in checking order and its plan.
use Rattle.std.specs.Prelude.{ℕ, ◌+◌, ◌-◌, Bool, true, false, cond, not, ◌&&◌, List, [], ◌∷◌, ◌++◌, length, set, take, drop, eqb, leb, ltb}
use Rattle.refusal.specs.declared.Refusal.TheVariants.{OtherKind, NoTable, TooManyEntries, StaleRecord, NumberOutside, PassesAsIcb, NoRoom}
use Rattle.refusal.specs.Verdict.{Verdict}
use Rattle.refusal.specs.Tests.{Test, test, first, and_then}
use Rattle.address.specs.Translation.{sector_at, entry_tests as tests_of_entry}
use Rattle.model.specs.declared.Record.{Record}
use Rattle.model.specs.Disc.{Disc, nwa}
use Rattle.model.specs.Writes.{Write, upward}
use Rattle.model.specs.Vat.{none, all_below, passes, Found, icb_at, nowhere, scan, vat_file, count_of}
use Rattle.model.specs.VatWritten.{data_sectors, written_data, written_icb}
use Rattle.model.specs.Examine.{Setting, write_once, examined, lent_table}
use Rattle.model.specs.Plan.{Plan, carry, unless}

-- NWA of the disc
unfoldable pub next_on : Setting → Disc → ℕ
next_on e d = nwa d e.start e.span

-- ---- the record: N, NWA and the last ICB

-- N
unfoldable pub entries_held : Record → ℕ
entries_held (Record.WriteOnce n next last) = n
entries_held (Record.Rewritable n sequence) = 0

-- NWA
unfoldable pub next_held : Record → ℕ
next_held (Record.WriteOnce n next last) = next
next_held (Record.Rewritable n sequence) = 0

-- the last ICB
unfoldable pub last_held : Record → ℕ
last_held (Record.WriteOnce n next last) = last
last_held (Record.Rewritable n sequence) = 0

-- line 11: NWA right, N at most 4,096, every used entry and the last ICB below NWA
unfoldable pub held_fits : Setting → Disc → List ℕ → Record → Bool
held_fits e d t (Record.WriteOnce n next last) =
    eqb next (next_on e d) && (leb n 4096 && (all_below next (take n t) && ltb last next))
held_fits e d t (Record.Rewritable n sequence) = false

-- the tests of every call on a write-once disc but opening and making, and after them its own
unfoldable pub once_verdict : Setting → Disc → List ℕ → Bool → Record → List Test → Verdict
once_verdict e d t lent held own =
    and_then (examined e d lent) (first (test (write_once e) OtherKind ∷ test (held_fits e d t held) StaleRecord ∷ own))

-- ---- opening

-- whether a scan found a VAT ICB
unfoldable pub is_found : Found → Bool
is_found (icb_at k) = true
is_found nowhere = false

-- where it found it
unfoldable pub found_at : Found → ℕ
found_at (icb_at k) = k
found_at nowhere = 0

-- the ICB that opening finds
unfoldable pub newest : Setting → Disc → Found
newest e d = scan d e.start (next_on e d)

-- the file of its VAT
unfoldable pub newest_file : Setting → Disc → List ℕ
newest_file e d = vat_file d e.start (found_at (newest e d))

-- lines 8 and 9
unfoldable pub open_once_tests : Setting → Disc → List Test
open_once_tests e d =
    test (is_found (newest e d)) NoTable
    ∷ test (leb (count_of (newest_file e d)) 4096) TooManyEntries
    ∷ []

-- the record of what was found, with N, NWA and the ICB
unfoldable pub found_record : Setting → Disc → Record
found_record e d = Record.WriteOnce (count_of (newest_file e d)) (next_on e d) (found_at (newest e d))

-- how many sectors opening passed over: those between the found ICB and NWA
unfoldable pub passed_over : Setting → Disc → ℕ
passed_over e d = next_on e d - 1 - found_at (newest e d)

-- the lent table filled from its start; places beyond are kept
unfoldable pub filled_from : List ℕ → List ℕ → List ℕ
filled_from l t = l ++ drop (length l) t

-- ---- save v: one sector at NWA, entry v set to it; v = N adds one

-- N after it
unfoldable pub count_after : ℕ → ℕ → ℕ
count_after n v = cond (eqb v n) (n + 1) n

-- line 16 of a save in a partition of l blocks: a commit still fits after it
unfoldable pub room_to_save : ℕ → Record → ℕ → Bool
room_to_save l held v = leb (next_held held + 1 + data_sectors (count_after (entries_held held) v) + 1) l

-- line 12 of a save: v is at most N, and below 4,096
unfoldable pub number_fits : Record → ℕ → Bool
number_fits held v = leb v (entries_held held) && ltb v 4096

-- line 12
abbrev pub number_test : Record → ℕ → Test
number_test held v = test (number_fits held v) NumberOutside

-- line 16
abbrev pub room_test : Setting → Record → ℕ → Test
room_test e held v = test (room_to_save e.span held v) NoRoom

-- lines 12, 15 and 16
unfoldable pub save_tests : Setting → Disc → Record → ℕ → List ℕ → List Test
save_tests e d held v block =
    number_test held v ∷ test (not (passes d e.start (next_held held) block)) PassesAsIcb ∷ room_test e held v ∷ []

-- the record after it
abbrev pub saved_record : Record → ℕ → Record
saved_record held v = Record.WriteOnce (count_after (entries_held held) v) (next_held held + 1) (last_held held)

-- line 3
unfoldable pub save_lent : List ℕ → List ℕ → Bool
save_lent t block = lent_table t && eqb (length block) 2048

-- the plan
unfoldable pub save_plan : Setting → Disc → List ℕ → Record → ℕ → List ℕ → Plan
save_plan e d t held v block =
    unless
    (once_verdict e d t (save_lent t block) held (save_tests e d held v block))
    (carry
    (record { place = sector_at e.start (next_held held); bytes = block } ∷ [])
    (set t v (next_held held))
    (saved_record held v))

-- ---- free v: entry unused, no write

-- lines 12 and 13: there is an entry v, and it is used
unfoldable pub entry_tests : List ℕ → Record → ℕ → List Test
entry_tests t held v = tests_of_entry (entries_held held) t (record { 0 = v })

-- the plan
unfoldable pub free_plan : Setting → Disc → List ℕ → Record → ℕ → Plan
free_plan e d t held v =
    unless (once_verdict e d t (lent_table t) held (entry_tests t held v)) (carry [] (set t v none) held)

-- ---- commit: VAT data upward, then the ICB naming the previous ICB

-- line 16 of a commit
unfoldable pub room_to_commit : ℕ → Record → Bool
room_to_commit l held = leb (next_held held + data_sectors (entries_held held) + 1) l

-- line 16
unfoldable pub commit_tests : Setting → Record → List Test
commit_tests e held = test (room_to_commit e.span held) NoRoom ∷ []

-- the logical block of the new ICB
unfoldable pub icb_block : Record → ℕ
icb_block held = next_held held + data_sectors (entries_held held)

-- the writes of a commit of the entries t
unfoldable pub commit_writes : Setting → List ℕ → Record → List Write
commit_writes e t held =
    upward (data_sectors (entries_held held)) (sector_at e.start (next_held held)) (written_data t (last_held held)) 0
    ++ (record { place = sector_at e.start (icb_block held); bytes = written_icb (icb_block held) t (last_held held) } ∷ [])

-- the record after it
abbrev pub committed_record : Record → Record
committed_record held = Record.WriteOnce (entries_held held) (icb_block held + 1) (icb_block held)

-- the plan
unfoldable pub commit_plan : Setting → Disc → List ℕ → Record → Plan
commit_plan e d t held =
    unless
    (once_verdict e d t (lent_table t) held (commit_tests e held))
    (carry
    (commit_writes e (take (entries_held held) t) held)
    t
    (committed_record held))

-- ---- fullness, and the forecast of a list of saves and commits (Forecast.antt)

-- line 11 is the last that they test
unfoldable pub held_verdict : Setting → Disc → List ℕ → Record → Verdict
held_verdict e d t held = once_verdict e d t (lent_table t) held []
