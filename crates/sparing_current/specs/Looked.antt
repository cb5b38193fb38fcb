-- What the examination of a call on a rewritable disc hands on (document 01, "Why a call is turned down", lines 1 to 8, 10 and 11).
use Rattle.std.specs.Prelude.{ℕ, ◌≡◌, ◌≤◌, Bool, not, List, [], ◌∷◌, length, Result, IfOk}
use Rattle.refusal.specs.declared.Refusal.{Refusal}
use Rattle.refusal.specs.declared.Refusal.TheVariants.{OtherKind}
use Rattle.refusal.specs.Verdict.{Verdict, verdict_of}
use Rattle.refusal.specs.Tests.{test, first, and_then}
use Rattle.model.specs.declared.Record.{Record}
use Rattle.model.specs.Disc.{Disc}
use Rattle.model.specs.Examine.{Setting, write_once, geometry, examined}
use Rattle.model.specs.Rewrite.{copy_tests, rewritable_verdict}
use Rattle.sparing_copy.specs.declared.shapes.Layout.{Layout}
use Rattle.sparing_copy.specs.Layout.{geometry_in, TablesOn}
use Rattle.sparing_copies.specs.Copies.{IsCurrent}
use Rattle.sparing_current.specs.declared.Looked.{Looked}

-- lines 1 to 7
unfoldable pub layout_verdict : Setting → Disc → Bool → Verdict
layout_verdict e d lent = and_then (examined e d lent) (first (test (not (write_once e)) OtherKind ∷ []))

-- lines 1 to 8 and 10
unfoldable pub look_verdict : Setting → Disc → Bool → Verdict
look_verdict e d lent = and_then (examined e d lent) (first (test (not (write_once e)) OtherKind ∷ copy_tests e d))

-- the layout of the volume, with the number of its tables: four at most, each of a sector's bytes at most and on the disc
pub record LaidOut (e : Setting) (d : Disc) (x : Layout) : Type 0 where
  pub same : geometry_in x ≡ geometry e d
  pub copies : x.count ≡ length (geometry e d).tables
  pub few : x.count ≤ 4
  pub short : x.size ≤ 2048
  pub on : TablesOn x

-- the layout, and the current table with the sector of a copy that counts and has it, its sequence and the number of its entries
pub record Found (e : Setting) (d : Disc) (x : Looked) : Type 0 where
  pub layout : LaidOut e d x.layout
  pub current : IsCurrent d (geometry e d) x.current

-- what the volume lies in: the verdict, and where it lets the call go on the layout
pub record LaysOut (e : Setting) (d : Disc) (lent : Bool) (r : Result Layout Refusal) : Type 0 where
  pub verdict : verdict_of r ≡ layout_verdict e d lent
  pub layout : IfOk r (LaidOut e d)

-- what is found: the verdict, and where it lets the call go on the layout and the current table
pub record Sees (e : Setting) (d : Disc) (lent : Bool) (r : Result Looked Refusal) : Type 0 where
  pub verdict : verdict_of r ≡ look_verdict e d lent
  pub found : IfOk r (Found e d)

-- what a call is judged to be: the verdict, and where it lets the call go on what was found
pub record Judges (e : Setting) (d : Disc) (t : List ℕ) (lent : Bool) (held : Record) (r : Result Looked Refusal) : Type 0 where
  pub verdict : verdict_of r ≡ rewritable_verdict e d t lent held []
  pub found : IfOk r (Found e d)
