-- Making a write-once disc alone: as the call of both kinds (model, Both.antt), with line 7 for a rewritable list.
use Rattle.std.specs.Prelude.{◌≡◌, true, [], ◌∷◌, eqb, Ok, Err, IfOk, Result}
use Rattle.refusal.specs.declared.Refusal.TheVariants.{OtherKind, NotBlank}
use Rattle.refusal.specs.Verdict.{Verdict, verdict_of}
use Rattle.refusal.specs.Tests.{test, first, and_then}
use Rattle.model.specs.Disc.{Disc}
use Rattle.model.specs.Vat.{none}
use Rattle.model.specs.VatWritten.{written_icb}
use Rattle.model.specs.Examine.{Setting, write_once, examined}
use Rattle.model.specs.Once.{next_on}
use Rattle.model.specs.Both.{made_by}
use Rattle.address.specs.declared.Span.{Span}
use Rattle.refusal.specs.declared.Refusal.{Refusal}

-- ---- making: lines 1, 2, 4 to 7 and 21; a blank partition gets an empty VAT

-- why it is turned down
unfoldable pub make_once_verdict : Setting → Disc → Verdict
make_once_verdict e d =
    and_then (examined e d true) (first (test (write_once e) OtherKind ∷ test (eqb (next_on e d) 0) NotBlank ∷ []))

-- the disc after it
unfoldable pub made_once : Setting → Disc → Disc
made_once e d = made_by (make_once_verdict e d) (record { place = e.start; bytes = written_icb 0 [] none } ∷ []) d

-- what the call is judged to be: the verdict, and where it goes on the partition's span
pub record JudgedBlank (e : Setting) (d : Disc) (r : Result Span Refusal) : Type 0 where
  pub verdict : verdict_of r ≡ make_once_verdict e d
  pub span : IfOk r (λ x. (x.start ≡ e.start) × (x.length ≡ e.span))
