-- Making a rewritable disc alone: as the call of both kinds (model, Both.antt), with line 7 for a write-once list.
use Rattle.std.specs.Prelude.{ℕ, ◌*◌, true, not, List, [], ◌∷◌, ◌++◌, replicate, ◌≡◌, IfOk, Result}
use Rattle.refusal.specs.declared.Refusal.TheVariants.{OtherKind, Misaligned}
use Rattle.refusal.specs.Verdict.{Verdict, verdict_of}
use Rattle.refusal.specs.Tests.{test, first, and_then}
use Rattle.model.specs.Disc.{Disc}
use Rattle.model.specs.Writes.{Write, upward}
use Rattle.model.specs.Sparing.{Geometry, flat, entries_fit, written_table}
use Rattle.model.specs.Examine.{Setting, write_once, geometry, examined}
use Rattle.model.specs.Rewrite.{copies_to}
use Rattle.model.specs.Both.{spare_entries, made_by}
use Rattle.model.specs.Lent.{Lent}
use Rattle.sparing_copy.specs.declared.Layout.{Layout}
use Rattle.sparing_current.specs.Looked.{LaidOut}
use Rattle.refusal.specs.declared.Refusal.{Refusal}

-- ---- making: lines 1, 2 and 4 to 7; packets of zeros, a list of spares and tables of sequence 0

-- why it is turned down
unfoldable pub make_rewritable_verdict : Setting → Disc → List ℕ → Verdict
make_rewritable_verdict e d spares =
    and_then (examined e d true)
    (first (test (not (write_once e)) OtherKind ∷ test (entries_fit (geometry e d) (spare_entries spares)) Misaligned ∷ []))

-- its writes
unfoldable pub rewritable_writes : Setting → Disc → List ℕ → List Write
rewritable_writes e d spares =
    upward e.span e.start (replicate (2048 * e.span) 0) 0
    ++ copies_to (geometry e d).tables (written_table 0 (flat (spare_entries spares)))

-- the disc after it
unfoldable pub made_rewritable : Setting → Disc → List ℕ → Disc
made_rewritable e d spares = made_by (make_rewritable_verdict e d spares) (rewritable_writes e d spares) d

-- the same writes from a geometry and a table's sector: the partition's packets of zeros, then a table's sector to each copy
unfoldable pub making_writes : Geometry → List ℕ → List Write
making_writes g table = upward g.span g.start (replicate (2048 * g.span) 0) 0 ++ copies_to g.tables table

-- what the call is judged to be: the verdict, and where it goes on the layout
pub record JudgedMaking (e : Setting) (d : Disc) (spares : List ℕ) (r : Result Layout Refusal) : Type 0 where
  pub verdict : verdict_of r ≡ make_rewritable_verdict e d spares
  pub layout : IfOk r (LaidOut e d)

-- the same over the lent lists
abbrev pub JudgesMaking : Lent → List ℕ → Result Layout Refusal → Type 0
JudgesMaking x spares r = JudgedMaking x.setting x.disc spares r
