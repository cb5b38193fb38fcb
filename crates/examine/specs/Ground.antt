-- What the examination of a call hands on: the verdict of lines 1 to 6, and the volume with its span (document 01, "Why a call is turned down").
use Rattle.std.specs.Prelude.{◌≡◌, ℕ, Bool, true, cond, List, [], IfOk, Result}
use Rattle.refusal.specs.Verdict.{verdict_of, answered}
use Rattle.maps.specs.declared.Kind.{Kind}
use Rattle.maps.specs.declared.Volume.{Volume}
use Rattle.maps.specs.Kinds.{tables_in}
use Rattle.model.specs.declared.Record.{Record}
use Rattle.model.specs.Disc.{Disc}
use Rattle.model.specs.Sparing.{ground_of}
use Rattle.model.specs.Examine.{Setting, volume, is_once, size_in, aligned, examined}
use Rattle.model.specs.Once.{once_verdict}
use Rattle.refusal.specs.declared.Refusal.{Refusal}

-- line 6 of a volume, from its numbers, its kind and the four places of its tables: a write-once volume may lie anywhere
abbrev pub placed_of : ℕ → ℕ → ℕ → Kind → List ℕ → Bool
placed_of s l n k t = cond (is_once k) true (aligned (ground_of s l n (tables_in k t) (size_in k)))

-- the volume of the map list, with its span filled in
abbrev pub spanned : Volume → ℕ → ℕ → Volume
spanned v s l = record { span = record { start = s; length = l }; kind = v.kind; tables = v.tables }

-- what the examination of a call answers
unfoldable pub examined_of : Setting → Disc → Bool → Result Volume Refusal
examined_of e d lent = answered (examined e d lent) (spanned (volume e) e.start e.span)

-- what a call on a write-once disc is judged to be: the verdict of lines 1 to 7 and 11, and where it goes on the span of the volume
pub record JudgedOnce (e : Setting) (d : Disc) (t : List ℕ) (lent : Bool) (held : Record) (r : Result Volume Refusal) : Type 0 where
  pub verdict : verdict_of r ≡ once_verdict e d t lent held []
  pub start : IfOk r (λ v. v.span.start ≡ e.start)
  pub length : IfOk r (λ v. v.span.length ≡ e.span)
