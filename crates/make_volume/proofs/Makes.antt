-- Laws of making: a law for each line that turns it down, the layout, and what it leaves. Assumes nothing.
use Prim.Native.Nat.{ℕ, ◌+◌, ◌*◌, ◌≤◌, ◌<◌}
use mathlib.Core.Bool.{Bool, true, false, not}
use mathlib.Core.Path.{◌≡◌, sym, ap, ap₂, ◌∙◌}
use mathlib.Core.List.{List, [], ◌∷◌}
use native.Mathlib.Omega.{arith}
use lib.ListN.{length, get_or, take, replicate, length-take}
use lib.Seq.{get_or-take}
use Rattle.refusal.specs.declared.Refusal.{Refusal}
use Rattle.refusal.specs.declared.Refusal.TheVariants.{OtherKind, Misaligned}
use Rattle.refusal.specs.Verdict.{Verdict, verdict_of}
use Rattle.std.specs.Prelude.{Result, Ok, Err}
use Rattle.refusal.specs.Tests.{test, first, need, and_then}
use Rattle.refusal.proofs.Laws.{passed, asked-after}
use Rattle.model.specs.Disc.{Disc}
use Rattle.model.specs.Writes.{writes, upward, no_cut}
use Rattle.model.specs.Sparing.{Geometry, flat, entries_fit, written_table}
use Rattle.model.specs.Examine.{Setting, write_once, geometry, examined}
use Rattle.model.specs.Rewrite.{copies_to}
use Rattle.model.specs.Both.{spare_entries, made_by}
use Rattle.model.proofs.Sectors.{writes-append}
use Rattle.model.proofs.SectorsRuns.{length-upward}
use Rattle.model.proofs.SparingLaws.{fits-size}
use Rattle.model.proofs.ReadyLivesMade.{length-spares}
use Rattle.model.proofs.Verdicts.{then-go}
use Rattle.sparing_copy.specs.declared.Layout.{Layout}
use Rattle.sparing_copy.specs.Layout.{geometry_in}
use Rattle.sparing_writes.specs.Order.{numbers_of}
use Rattle.sparing_writes.proofs.Order.{numbers-take}
use Rattle.address.specs.declared.PhysicalAddress.{PhysicalAddress}
use Rattle.sparing_current.specs.Looked.{layout_verdict, LaidOut, LaysOut}
use Rattle.sparing_current.proofs.Laws.{whole}
use Rattle.make_volume.specs.Rewritable.{making_writes, make_rewritable_verdict, rewritable_writes, made_rewritable, JudgedMaking}

-- ---- why it is turned down; r is what lines 1 to 7 answered

make-laid : (e : Setting) (d : Disc) (spares : List ℕ) → make_rewritable_verdict e d spares ≡ and_then (layout_verdict e d true) (first (test (entries_fit (geometry e d) (spare_entries spares)) Misaligned ∷ []))
unfolding make_rewritable_verdict layout_verdict
make-laid e d spares = asked-after (examined e d true) (test (not (write_once e)) OtherKind ∷ []) (test (entries_fit (geometry e d) (spare_entries spares)) Misaligned ∷ [])

module _ (e : Setting) (d : Disc) (spares : List ℕ) {r : Result Layout Refusal} (q : LaysOut e d true r) where
  -- lines 1 to 7
  pub make-unlaid : {x : Result Layout Refusal} {why : Refusal} → r ≡ Err why → x ≡ Err why → JudgedMaking e d spares x
  make-unlaid h s =
      let v : layout_verdict e d true ≡ Err _ = sym q.verdict ∙ ap verdict_of h in
      let m = make-laid e d spares in
      rw s (record { verdict = rw (m, v); layout = tt })

  module _ {x : Layout} (h : r ≡ Ok x) where
    laid-out : LaidOut e d x
    laid-out = rw h at q.layout

    -- what is asked of the layout
    pub make-asks : (x.count ≤ 4) × (x.size ≤ 2048)
    make-asks = (laid-out.few, laid-out.short)

    goes-on : layout_verdict e d true ≡ Ok tt
    goes-on = sym q.verdict ∙ ap verdict_of h

    -- spares that do not fit
    pub make-misfit : {y : Bool} → y ≡ entries_fit (geometry_in x) (spare_entries spares) → y ≡ false → JudgedMaking e d spares (Err Misaligned)
    unfolding need
    make-misfit f k =
        let m = make-laid e d spares in
        let u : entries_fit (geometry e d) (spare_entries spares) ≡ false = sym (f ∙ ap (λ (g : Geometry). entries_fit g (spare_entries spares)) laid-out.same) ∙ k in
        record { verdict = rw (m, goes-on, u); layout = tt }

    -- none of the lines
    pub make-fits : {y : Bool} → y ≡ entries_fit (geometry_in x) (spare_entries spares) → y ≡ true → JudgedMaking e d spares (Ok x)
    unfolding need
    make-fits f k =
        let m = make-laid e d spares in
        let u : entries_fit (geometry e d) (spare_entries spares) ≡ true = sym (f ∙ ap (λ (g : Geometry). entries_fit g (spare_entries spares)) laid-out.same) ∙ k in
        record { verdict = rw (m, goes-on, u); layout = laid-out }

-- what the judgement tells of the verdict
pub making-stops : (e : Setting) (d : Disc) (spares : List ℕ) {r : Result Layout Refusal} {why : Refusal} → JudgedMaking e d spares r → r ≡ Err why → Err why ≡ make_rewritable_verdict e d spares
making-stops e d spares j h = sym (ap verdict_of h) ∙ j.verdict

pub making-goes : (e : Setting) (d : Disc) (spares : List ℕ) {r : Result Layout Refusal} {x : Layout} → JudgedMaking e d spares r → r ≡ Ok x → Ok tt ≡ make_rewritable_verdict e d spares
making-goes e d spares j h = sym (ap verdict_of h) ∙ j.verdict

-- ---- what it may rely on once nothing stops it; x is the layout

pub record Making (e : Setting) (d : Disc) (spares : List ℕ) (x : Layout) : Type 0 where
  pub laid : LaidOut e d x
  pub shape : length d.bytes ≡ 2048 * length d.marks
  pub few : length d.marks ≤ 1048576
  pub span : e.start + e.span ≤ length d.marks
  pub short : 56 + 8 * length spares ≤ 2048

-- from its verdict
pub makes : (e : Setting) (d : Disc) (spares : List ℕ) {r : Result Layout Refusal} {x : Layout} → JudgedMaking e d spares r → r ≡ Ok x → Making e d spares x
makes e d spares j h =
    let p = then-go (layout_verdict e d true) _ (sym (make-laid e d spares) ∙ sym (making-goes e d spares j h)) in
    let w = whole e d true p.0 in
    let a = passed (test (entries_fit (geometry e d) (spare_entries spares)) Misaligned ∷ []) p.1 in
    record {
      laid = rw h at j.layout;
      shape = w.shape;
      few = w.few;
      span = w.span;
      short = omega (arith, fits-size (geometry e d) (spare_entries spares) a.0, length-spares spares, w.lies.size);
    }

-- ---- what it leaves

-- the copies are on the disc; t are the volume's tables
pub copies-on : (ps : List PhysicalAddress) (t : List ℕ) (n sectors : ℕ) → numbers_of ps ≡ t → ((i : ℕ) → i < n → get_or t i 0 < sectors) → (i : ℕ) → i < length (take n ps) → get_or (numbers_of (take n ps)) i 0 < sectors
copies-on ps t n sectors q on i l =
    let h : i < n = omega (arith, length-take n ps) in
    rw (numbers-take n ps ∙ ap (take n) q, get_or-take n t i 0 h) (on i h)

-- the writes in turn: the zeros, then the copies, at the sectors that translations gave
pub making-written : (d d₁ d₂ : Disc) (g : Geometry) (s : List ℕ) {at : ℕ} {ts : List ℕ} → at ≡ g.start → ts ≡ g.tables → d₁ ≡ writes 1 no_cut (upward g.span at (replicate (2048 * g.span) 0) 0) d → d₂ ≡ writes (g.span + 1) no_cut (copies_to ts s) d₁ → d₂ ≡ writes 1 no_cut (making_writes g s) d
unfolding making_writes
making-written d d₁ d₂ g s there tables zeros copies =
    let f = zeros ∙ ap (λ (p : ℕ). writes 1 no_cut (upward g.span p (replicate (2048 * g.span) 0) 0) d) there in
    let w = copies ∙ ap (λ (ts : List ℕ). writes (g.span + 1) no_cut (copies_to ts s) d₁) tables in
    let us = upward g.span g.start (replicate (2048 * g.span) 0) 0 in
    let n : 1 + length us ≡ g.span + 1 = omega (arith, length-upward g.span g.start (replicate (2048 * g.span) 0) 0) in
    w
    ∙ ap (λ (y : Disc). writes (g.span + 1) no_cut (copies_to g.tables s) y) f
    ∙ sym (ap (λ (m : ℕ). writes m no_cut (copies_to g.tables s) (writes 1 no_cut us d)) n)
    ∙ sym (writes-append 1 no_cut us (copies_to g.tables s) d)

module _ (e : Setting) (d : Disc) (spares : List ℕ) {w : Verdict} (q : w ≡ make_rewritable_verdict e d spares) where
  -- a refusal leaves the disc as it came
  pub made-stop : {why : Refusal} → w ≡ Err why → d ≡ made_rewritable e d spares
  unfolding made_rewritable made_by
  made-stop h = sym (ap (λ (v : Verdict). made_by v (rewritable_writes e d spares) d) (sym q ∙ h))

  -- else the writes have been made
  pub made-go : {d' : Disc} {x : Layout} {s : List ℕ} → w ≡ Ok tt → Making e d spares x → s ≡ written_table 0 (flat (spare_entries spares)) → d' ≡ writes 1 no_cut (making_writes (geometry_in x) s) d → d' ≡ made_rewritable e d spares
  unfolding made_rewritable made_by making_writes rewritable_writes geometry
  made-go h m f g =
      g
      ∙ ap₂ (λ (y : Geometry) (l : List ℕ). writes 1 no_cut (making_writes y l) d) m.laid.same f
      ∙ sym (ap (λ (v : Verdict). made_by v (rewritable_writes e d spares) d) (sym q ∙ h))
