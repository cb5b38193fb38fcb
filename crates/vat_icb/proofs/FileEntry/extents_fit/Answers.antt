use mathlib.Core.List.{List, []}
use Rattle.std.proofs.Common.{ℕ, sym, ap, ◌∙◌, length, eqb, true, arith}
use Rattle.model.specs.Disc.{disc}
use Rattle.model.specs.Vat.{Extent, file_length}
use Rattle.vat_icb.specs.Extents.{extents_fit}
use Rattle.vat_icb.proofs.Laws.{extents_few, fits_short, none_left, too_many, next_unfit, next_fits}
use Rattle.vat_icb.proofs.FileEntry.extents_fit.Goals as goal
use Rattle.vat_icb.proofs.FileEntry.extents_fit.Goals.{then-not-whole-via-then-not-whole, then-not-whole-via-else-not-whole+then-not-extent_fits}

pub loop-extent-init : goal.loop-extent-init
loop-extent-init c = let a = c.args in
    let b = a.self.now.icb.bytes.now in
    let e = ap length c.extents-extent-items.ensures in
    let few = extents_few b a.self.now.entry in
    (rw c.into_iter-extent-iterator.ensures.into_iter_gives (omega arith), λ bytes. rw c.into_iter-extent-iterator.ensures.into_iter_gives (ap (λ (l : List Extent). extents_fit (disc bytes a.marks.now) a.s a.k.0 (file_length b) true 0 l) c.extents-extent-items.ensures))

pub returns-then-not-whole : goal.returns-then-not-whole
returns-then-not-whole c bytes = let l = c.loop-extent in
    let next = c.in-Some.ensures.steps in
    elim c.then-not-whole.branch [
      | then-not-whole-via-then-not-whole w ↦ too_many _ _ _ _ l.whole l.sum _ _ _ next w.if-not-whole.true ∙ l.invariant.1 bytes
      | then-not-whole-via-else-not-whole+then-not-extent_fits w ↦ next_unfit _ _ _ _ l.whole l.sum _ _ _ next (sym (w.extent_fits.ensures bytes) ∙ w.if-not-extent_fits.true) ∙ l.invariant.1 bytes
    ]

pub overflow_add-sum : goal.overflow_add-sum
overflow_add-sum c = let h = fits_short _ _ _ _ _ (sym (c.extent_fits.ensures []) ∙ c.if-not-extent_fits.false) in omega (arith, c.loop-extent.invariant.0)

pub loop-extent-preserved : goal.loop-extent-preserved
loop-extent-preserved c = let l = c.loop-extent in
    let next = c.in-Some.ensures.steps in
    let fits = λ (bytes : List ℕ). sym (c.extent_fits.ensures bytes) ∙ c.if-not-extent_fits.false in
    let h = fits_short _ _ _ _ _ (fits []) in
    let n = ap length next in
    (omega (arith, l.invariant.0), λ bytes. next_fits _ _ _ _ l.whole l.sum _ _ _ next (fits bytes) c.if-not-whole.false ∙ l.invariant.1 bytes)

pub returns : goal.returns
returns c bytes = let l = c.loop-extent in
    ap (eqb l.sum) c.file_length.ensures ∙ none_left _ _ _ _ l.whole l.sum _ c.in-None.ensures.steps.0 ∙ l.invariant.1 bytes
