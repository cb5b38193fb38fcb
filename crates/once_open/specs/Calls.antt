-- Opening, reading and fullness on a write-once disc alone: opening and reading as the calls of both kinds (model, Both.antt), with line 7 for a rewritable list.
use Rattle.std.specs.Prelude.{ℕ, ◌≡◌, List, [], ◌∷◌, Ok, Err, Result, IfOk}
use Rattle.refusal.specs.declared.Refusal.TheVariants.{OtherKind}
use Rattle.refusal.specs.Verdict.{Verdict, answered}
use Rattle.refusal.specs.Number.{answer_number}
use Rattle.refusal.specs.Tests.{test, first, and_then}
use Rattle.address.specs.declared.VirtualAddress.{VirtualAddress}
use Rattle.address.specs.declared.LogicalAddress.{LogicalAddress}
use Rattle.refusal.specs.declared.Refusal.{Refusal}
use Rattle.address.specs.Translation.{entry_of}
use Rattle.model.specs.declared.Record.{Record}
use Rattle.model.specs.declared.Opened.{Opened}
use Rattle.model.specs.Disc.{Disc, sector}
use Rattle.model.specs.Vat.{entries_of}
use Rattle.model.specs.Examine.{Setting, write_once, examined, lent_table}
use Rattle.label.specs.PerMille.{per_mille}
use Rattle.model.specs.Once.{next_on, next_held, newest_file, open_once_tests, found_record, passed_over, entry_tests, held_verdict}
use Rattle.vat_scan.specs.Scan.{looked}
use Rattle.model.specs.Lent.{Lent}
use Rattle.model.specs.Both.{opened_by, filled_by, read_once_tests, read_lent, block_by, entry_sector}

-- ---- opening: lines 1 to 9

-- why it turns a disc down
unfoldable pub open_once_verdict : Setting → Disc → List ℕ → Verdict
open_once_verdict e d t =
    and_then (examined e d (lent_table t)) (first (test (write_once e) OtherKind ∷ open_once_tests e d))

-- what it answers
unfoldable pub opening_once : Setting → Disc → List ℕ → Result Opened Refusal
opening_once e d t = opened_by (open_once_verdict e d t) (found_record e d) (passed_over e d)

-- the lent table after it
unfoldable pub opened_once : Setting → Disc → List ℕ → List ℕ
opened_once e d t = filled_by (open_once_verdict e d t) (entries_of (newest_file e d)) t

-- what it says was passed over is how many sectors the scan looked at and did not take (01, "Calls and their sector writes": "passed over")
pub record PassedOver (e : Setting) (d : Disc) (r : Result Opened Refusal) : Type 0 where
  pub counted : IfOk r (λ opened. opened.passed ≡ looked d e.start (next_on e d))

-- ---- an entry: lines 12 and 13

-- the block of virtual v, by the entries held
unfoldable pub block_of : List ℕ → Record → VirtualAddress → Result LogicalAddress Refusal
block_of t held v = answered (first (entry_tests t held v.0)) (entry_of t v)

-- ---- reading: lines 1 to 7, 11 to 13, 25 and 14

-- why it is turned down
unfoldable pub read_once_verdict : Setting → Disc → List ℕ → Record → ℕ → List ℕ → Verdict
read_once_verdict e d t held v out =
    and_then (examined e d (read_lent t out)) (first (test (write_once e) OtherKind ∷ read_once_tests e d t held v))

-- what it answers
unfoldable pub reading_once : Setting → Disc → List ℕ → Record → ℕ → List ℕ → Verdict
reading_once e d t held v out = read_once_verdict e d t held v out

-- the lent bytes after it
unfoldable pub read_once_bytes : Setting → Disc → List ℕ → Record → ℕ → List ℕ → List ℕ
read_once_bytes e d t held v out = block_by (read_once_verdict e d t held v out) (sector d (entry_sector e t v)) out

-- ---- fullness: lines 1 to 7 and 11

-- 1,000 times NWA / L to the nearest, an exact half going to the even one (02, slip 4)
unfoldable pub fullness_of : Setting → Disc → List ℕ → Record → Result ℕ Refusal
fullness_of e d t held = answered (held_verdict e d t held) (per_mille (next_held held) e.span)

-- ---- what a caller is told of fullness

-- the value, in per mille
abbrev pub measured_values : Result ℕ Refusal → List ℕ
measured_values (Ok n) = n ∷ []
measured_values (Err why) = []

-- fullness, lent the table t, answers r
pub record Measures (x : Lent) (t : List ℕ) (held : Record) (r : Result ℕ Refusal) : Type 0 where
  pub answer : r ≡ fullness_of x.setting x.disc t held
  pub number : answer_number r ≡ answer_number (held_verdict x.setting x.disc t held)
