-- `vat_scan::scan` meets its contract: a block that fails a test is passed over, one that fails none ends the scan. Assumes nothing.
use mathlib.Core.Path.{refl, sym, ap, ◌∙◌}
use native.Mathlib.Omega.{arith}
use Rattle.fields.proofs.Tests.{fails, holds}
use Rattle.model.specs.Disc.{disc, sector}
use Rattle.model.specs.Vat.{tag_fits, table_fits, passes}
use Rattle.vat_read.specs.File.{Lent}
use Rattle.vat_read.proofs.Bytes.{file_in_marked, fits_filed}
use Rattle.vat_read.proofs.Laws.{lent_sector, unrecorded, recorded-passes}
use Rattle.vat_scan.specs.Scan.{scan_of}
use Rattle.vat_scan.proofs.Laws.{passed-over, scan-hit}
use Rattle.vat_scan.proofs.scan.Goals as goal

pub scan-preserved-then-marks-at-ne-RECORDED : goal.scan-preserved-then-marks-at-ne-RECORDED
scan-preserved-then-marks-at-ne-RECORDED c = let a = c.args in
    let other = sym (unrecorded a.disc.now _ _ _ _ c.sector_of-at.ensures c.if-marks-at-ne-RECORDED.true) in
    passed-over _ _ _ _ _ other (c.in-Some.ensures a.marks.now) c.scan.invariant

pub scan-preserved-then-not-tag_fits : goal.scan-preserved-then-not-tag_fits
unfolding passes
scan-preserved-then-not-tag_fits c = let a = c.args in
    let at = c.sector_of-at.ensures in
    let same = lent_sector a.disc.now a.marks.now _ _ _ refl refl ∙ ap (sector (disc a.disc.now a.marks.now)) at in
    let fails-it = fails _ (sym c.tag_fits.ensures ∙ c.if-not-tag_fits.true) in
    let other = sym (recorded-passes _ _ _ _ _ at _ _ c.if-marks-at-ne-RECORDED.false same fails-it) in
    passed-over _ _ _ _ _ other (c.in-Some.ensures a.marks.now) c.scan.invariant

pub scan-preserved-in_default-entry : goal.scan-preserved-in_default-entry
unfolding passes
scan-preserved-in_default-entry c = let a = c.args in
    let at = c.sector_of-at.ensures in
    let same = lent_sector a.disc.now a.marks.now _ _ _ refl refl ∙ ap (sector (disc a.disc.now a.marks.now)) at in
    let fails-it = holds (sym c.tag_fits.ensures ∙ c.if-not-tag_fits.false) (fails _ c.in_default-entry.ensures) in
    let other = sym (recorded-passes _ _ _ _ _ at _ _ c.if-marks-at-ne-RECORDED.false same fails-it) in
    passed-over _ _ _ _ _ other (c.in-Some.ensures a.marks.now) c.scan.invariant

pub scan-preserved-then-not-allocation_fits : goal.scan-preserved-then-not-allocation_fits
unfolding passes
scan-preserved-then-not-allocation_fits c = let a = c.args in
    let at = c.sector_of-at.ensures in
    let e = c.in-Some-entry.entry in
    let same = c.in-Some-entry.ensures ∙ lent_sector a.disc.now a.marks.now _ _ _ refl refl ∙ ap (sector (disc a.disc.now a.marks.now)) at in
    let tag = ap (tag_fits c.in-Some.k.0) c.in-Some-entry.ensures ∙ sym c.tag_fits.ensures ∙ c.if-not-tag_fits.false in
    let fails-it = holds tag (holds e.entry (fails _ (sym (c.allocation_fits.ensures a.disc.now) ∙ c.if-not-allocation_fits.true))) in
    let other = sym (recorded-passes _ _ _ _ _ at _ _ c.if-marks-at-ne-RECORDED.false same fails-it) in
    passed-over _ _ _ _ _ other (c.in-Some.ensures a.marks.now) c.scan.invariant

pub invariant_of-file : goal.invariant_of-file
invariant_of-file c = let a = c.args in
    let e = c.in-Some-entry.entry in
    let below = (c.in-Some.ensures a.marks.now).0 in
    let lent : Lent a.disc.now a.marks.now a.s c.in-Some.k.0 = record { made = c.requires.made; inside = omega (arith, below, c.scan.invariant.0, c.requires.inside); most = c.requires.most } in
    record { filed = fits_filed _ a.marks.now _ c.in-Some.k.0 _ lent e.icb.block e.entry (sym (c.allocation_fits.ensures a.disc.now) ∙ c.if-not-allocation_fits.false) }

pub scan-preserved : goal.scan-preserved
unfolding passes
scan-preserved c = let a = c.args in
    let at = c.sector_of-at.ensures in
    let e = c.in-Some-entry.entry in
    let same = c.in-Some-entry.ensures ∙ lent_sector a.disc.now a.marks.now _ _ _ refl refl ∙ ap (sector (disc a.disc.now a.marks.now)) at in
    let tag = ap (tag_fits c.in-Some.k.0) c.in-Some-entry.ensures ∙ sym c.tag_fits.ensures ∙ c.if-not-tag_fits.false in
    let table = sym (c.table_fits.ensures ∙ ap (table_fits c.in-Some.k.0) (file_in_marked a.disc.now a.marks.now a.s e.icb.bytes.now)) ∙ c.if-not-table_fits.true in
    let fails-it = holds tag (holds e.entry (holds (sym (c.allocation_fits.ensures a.disc.now) ∙ c.if-not-allocation_fits.false) (sym table))) in
    let other = sym (recorded-passes _ _ _ _ _ at _ _ c.if-marks-at-ne-RECORDED.false same fails-it) in
    passed-over _ _ _ _ _ other (c.in-Some.ensures a.marks.now) c.scan.invariant

pub returns-in_default : goal.returns-in_default
unfolding scan_of
returns-in_default c = ap scan_of (sym (c.in_default.ensures c.args.marks.now) ∙ c.scan.invariant.1)

pub returns-else-not-table_fits : goal.returns-else-not-table_fits
unfolding passes scan_of
returns-else-not-table_fits c = let a = c.args in
    let at = c.sector_of-at.ensures in
    let e = c.in-Some-entry.entry in
    let same = c.in-Some-entry.ensures ∙ lent_sector a.disc.now a.marks.now _ _ _ refl refl ∙ ap (sector (disc a.disc.now a.marks.now)) at in
    let tag = ap (tag_fits c.in-Some.k.0) c.in-Some-entry.ensures ∙ sym c.tag_fits.ensures ∙ c.if-not-tag_fits.false in
    let table = sym (c.table_fits.ensures ∙ ap (table_fits c.in-Some.k.0) (file_in_marked a.disc.now a.marks.now a.s e.icb.bytes.now)) ∙ c.if-not-table_fits.false in
    let passes-it = holds tag (holds e.entry (holds (sym (c.allocation_fits.ensures a.disc.now) ∙ c.if-not-allocation_fits.false) (sym table))) in
    let icb = sym (recorded-passes _ _ _ _ _ at _ _ c.if-marks-at-ne-RECORDED.false same passes-it) in
    ap scan_of (sym (scan-hit _ _ _ icb) ∙ (c.in-Some.ensures a.marks.now).1 ∙ c.scan.invariant.1)
