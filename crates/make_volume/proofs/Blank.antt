-- Laws of making: a law for each line that turns it down, and what it leaves. Assumes nothing.
use Prim.Native.Nat.{ℕ, ◌+◌, ◌*◌, ◌≤◌, ◌<◌}
use mathlib.Core.Path.{◌≡◌, sym, ap, ◌∙◌}
use mathlib.Core.Bool.{Bool, true, false, not}
use mathlib.Core.List.{[], ◌∷◌}
use native.Mathlib.Omega.{arith}
use borrow.Author.Tests.{eq-eqb, ne_eqb, eqb-true, eqb-false, not-true, not-false}
use lib.Dec.{eqb}
use lib.ListN.{length}
use Rattle.refusal.specs.declared.Refusal.{Refusal}
use Rattle.refusal.specs.declared.Refusal.TheVariants.{OtherKind, NotBlank}
use Rattle.refusal.specs.Verdict.{Verdict, verdict_of}
use Rattle.std.specs.Prelude.{Ok, Err, Result}
use Rattle.refusal.specs.Tests.{need}
use Rattle.maps.specs.declared.Volume.{Volume}
use Rattle.maps.specs.declared.Kind.TheVariants.{WriteOnce, Rewritable}
use Rattle.model.specs.Disc.{Disc, nwa}
use Rattle.model.specs.Writes.{writes, no_cut}
use Rattle.model.specs.Vat.{none}
use Rattle.model.specs.VatWritten.{file_bytes, data_sectors, written_icb}
use Rattle.model.specs.Examine.{Setting, examined}
use Rattle.model.specs.Once.{next_on}
use Rattle.model.specs.Both.{made_by}
use Rattle.model.proofs.Sectors.{shapely-made, shapely-most, inside-fits}
use Rattle.model.proofs.Verdicts.{then-go, examined-tells}
use Rattle.model.proofs.WrittenVatFile.{embedded-none}
use Rattle.address.specs.declared.Span.{Span}
use Rattle.examine.specs.Ground.{examined_of}
use Rattle.examine.proofs.Laws.{seen-stops, seen-goes, seen-tells, seen-volume, seen-once, seen-rewritable}
use Rattle.make_volume.specs.WriteOnce.{make_once_verdict, made_once, JudgedBlank}

module _ (e : Setting) (d : Disc) {r : Result Volume Refusal} (q : r ≡ examined_of e d true) where
  -- lines 1 to 6
  pub make-examined : {x : Result Span Refusal} {why : Refusal} → r ≡ Err why → x ≡ Err why → JudgedBlank e d x
  unfolding make_once_verdict
  make-examined h s = let v = seen-stops e d true q h in rw s (record { verdict = rw v; span = tt })

  module _ {v : Volume} (h : r ≡ Ok v) where
    -- S and L are the volume's
    pub blank-room : v.span.start + v.span.length ≤ length d.marks
    blank-room =
        let w = seen-volume e d true q h in
        omega (arith, ap (λ (x : Volume). x.span.start) w, ap (λ (x : Volume). x.span.length) w, (inside-fits d e.start e.span (seen-tells e d true q h).within).1)

    blank-there : {x : Bool} → x ≡ eqb 0 (nwa d v.span.start v.span.length) → x ≡ eqb 0 (nwa d e.start e.span)
    blank-there f = f ∙ ap (λ (x : Volume). eqb 0 (nwa d x.span.start x.span.length)) (seen-volume e d true q h)

    -- line 7
    pub make-other : {p n size : ℕ} → v.kind ≡ Rewritable p n size → JudgedBlank e d (Err OtherKind)
    unfolding make_once_verdict need
    make-other is =
        let g = seen-goes e d true q h in
        let w = seen-rewritable e d true q h is in
        record { verdict = rw (g, w); span = tt }

    -- line 21
    pub make-used : {p : ℕ} → v.kind ≡ WriteOnce p → {x : Bool} → x ≡ eqb 0 (nwa d v.span.start v.span.length) → x ≡ false → JudgedBlank e d (Err NotBlank)
    unfolding make_once_verdict next_on need
    make-used is f' x =
        let f = blank-there f' in
        let g = seen-goes e d true q h in
        let w = seen-once e d true q h is in
        let k : eqb (nwa d e.start e.span) 0 ≡ false = ne_eqb _ _ (λ z. eqb-false 0 (nwa d e.start e.span) (sym f ∙ x) (sym z)) in
        record { verdict = rw (g, w, k); span = tt }

    -- none of the lines: then the span is the partition's
    pub make-blank : {p : ℕ} → v.kind ≡ WriteOnce p → {x : Bool} → x ≡ eqb 0 (nwa d v.span.start v.span.length) → x ≡ true → JudgedBlank e d (Ok v.span)
    unfolding make_once_verdict next_on need
    make-blank is f' x =
        let f = blank-there f' in
        let g = seen-goes e d true q h in
        let w = seen-once e d true q h is in
        let k : eqb (nwa d e.start e.span) 0 ≡ true = eq-eqb _ _ (sym (eqb-true 0 (nwa d e.start e.span) (sym f ∙ x))) in
        let same = seen-volume e d true q h in
        record { verdict = rw (g, w, k); span = (ap (λ (y : Volume). y.span.start) same, ap (λ (y : Volume). y.span.length) same) }

-- what the judgement tells of the verdict, and where it goes on of the span
pub blank-stops : (e : Setting) (d : Disc) {r : Result Span Refusal} {why : Refusal} → JudgedBlank e d r → r ≡ Err why → Err why ≡ make_once_verdict e d
blank-stops e d j h = sym (ap verdict_of h) ∙ j.verdict

pub blank-goes : (e : Setting) (d : Disc) {r : Result Span Refusal} {x : Span} → JudgedBlank e d r → r ≡ Ok x → (Ok tt ≡ make_once_verdict e d) × (x.start ≡ e.start)
blank-goes e d j h = (sym (ap verdict_of h) ∙ j.verdict, (rw h at j.span).0)

-- an empty VAT is embedded
pub empty-embedded : data_sectors 0 ≤ 0
unfolding file_bytes
empty-embedded = omega (arith, embedded-none 0 (omega arith))

module _ (e : Setting) (d : Disc) {w : Verdict} (q : w ≡ make_once_verdict e d) where
  -- where no line turns it down, the partition's first sector is one of the disc's
  pub make-tells : w ≡ Ok tt → (e.start < length d.marks) × (length d.marks ≤ 1048576) × (length d.bytes ≡ 2048 * length d.marks)
  unfolding make_once_verdict
  make-tells h =
      let a = then-go (examined e d true) _ (sym q ∙ h) in
      let t = examined-tells e d true a.0 in
      let f = inside-fits d e.start e.span t.within in
      (omega (arith, f.0, f.1), shapely-most d t.shape, (shapely-made d t.shape).sized)

  -- a refusal leaves the disc as it came
  pub made-stop : {why : Refusal} → w ≡ Err why → d ≡ made_once e d
  unfolding made_once made_by
  made-stop h = sym (ap (λ (v : Verdict). made_by v (record { place = e.start; bytes = written_icb 0 [] none } ∷ []) d) (sym q ∙ h))

  -- else the one write has been made
  pub made-go : (d' : Disc) {at : ℕ} → w ≡ Ok tt → at ≡ e.start → d' ≡ writes 1 no_cut (record { place = at; bytes = written_icb 0 [] none } ∷ []) d → d' ≡ made_once e d
  unfolding made_once made_by
  made-go d' h there g =
      g
      ∙ ap (λ (p : ℕ). writes 1 no_cut (record { place = p; bytes = written_icb 0 [] none } ∷ []) d) there
      ∙ sym (ap (λ (v : Verdict). made_by v (record { place = e.start; bytes = written_icb 0 [] none } ∷ []) d) (sym q ∙ h))
