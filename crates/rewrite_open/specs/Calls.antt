-- Opening and reading on a rewritable disc alone: as the calls of both kinds (model, Both.antt), with line 7 for a write-once list.
use Rattle.std.specs.Prelude.{ℕ, List, ◌∷◌, Result}
use Rattle.refusal.specs.Verdict.{Verdict}
use Rattle.model.specs.declared.Record.{Record}
use Rattle.model.specs.declared.Opened.{Opened}
use Rattle.refusal.specs.declared.Refusal.{Refusal}
use Rattle.model.specs.Disc.{Disc, sector, mark, mark_tests}
use Rattle.model.specs.Examine.{Setting, lent_table}
use Rattle.model.specs.Rewrite.{table_on, current_record, rewritable_verdict, place_of, block_test, spare_test}
use Rattle.sparing_current.specs.Looked.{look_verdict}
use Rattle.model.specs.Both.{opened_by, filled_by, read_lent, block_by}

-- ---- opening: lines 1 to 8 and 10

-- what it answers: nothing is passed over
unfoldable pub opening_rewritable : Setting → Disc → List ℕ → Result Opened Refusal
opening_rewritable e d t = opened_by (look_verdict e d (lent_table t)) (current_record e d) 0

-- the lent table after it
unfoldable pub opened_rewritable : Setting → Disc → List ℕ → List ℕ
opened_rewritable e d t = filled_by (look_verdict e d (lent_table t)) (table_on e d) t

-- ---- reading: lines 1 to 8, 10 to 12, 30, 25 and 14

-- why it is turned down
unfoldable pub read_block_verdict : Setting → Disc → List ℕ → Record → ℕ → List ℕ → Verdict
read_block_verdict e d t held b out =
    rewritable_verdict e d t (read_lent t out) held (block_test e b ∷ spare_test e d b ∷ mark_tests (mark d (place_of e d b)))

-- what it answers
unfoldable pub reading_block : Setting → Disc → List ℕ → Record → ℕ → List ℕ → Verdict
reading_block e d t held b out = read_block_verdict e d t held b out

-- the lent bytes after it
unfoldable pub read_block_bytes : Setting → Disc → List ℕ → Record → ℕ → List ℕ → List ℕ
read_block_bytes e d t held b out = block_by (read_block_verdict e d t held b out) (sector d (place_of e d b)) out
