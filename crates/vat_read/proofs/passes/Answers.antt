-- `vat_read::passes` meets its contract, test by test. Assumes nothing.
use Rattle.std.proofs.Common.{sym, ap, ◌∙◌}
use Rattle.fields.proofs.Tests.{fails, holds}
use Rattle.model.specs.Vat.{tag_fits, table_fits, passes}
use Rattle.vat_read.proofs.Bytes.{file_in_marked, fits_filed}
use Rattle.vat_read.proofs.passes.Goals as goal

pub returns-then-not-tag_fits : goal.returns-then-not-tag_fits
unfolding passes
returns-then-not-tag_fits c = fails _ (sym c.tag_fits.ensures ∙ c.if-not-tag_fits.true)

pub returns-in_default : goal.returns-in_default
unfolding passes
returns-in_default c = holds (sym c.tag_fits.ensures ∙ c.if-not-tag_fits.false) (fails _ c.in_default.ensures)

pub invariant_of-table_fits : goal.invariant_of-table_fits
invariant_of-table_fits c = let a = c.args in
    let e = c.in-Some.entry in
    record { filed = fits_filed _ a.marks.now _ a.k.0 _ c.requires.lent e.icb.block e.entry (sym (c.allocation_fits.ensures a.disc.now) ∙ c.if-allocation_fits.true) }

pub returns-then-allocation_fits : goal.returns-then-allocation_fits
unfolding passes
returns-then-allocation_fits c = let a = c.args in
    let e = c.in-Some.entry in
    let same = c.in-Some.ensures in
    let tag = ap (tag_fits a.k.0) same ∙ sym c.tag_fits.ensures ∙ c.if-not-tag_fits.false in
    rw (← same)
    (holds tag
    (holds e.entry
    (holds (sym (c.allocation_fits.ensures a.disc.now) ∙ c.if-allocation_fits.true)
    (c.table_fits.ensures ∙ ap (table_fits a.k.0) (file_in_marked a.disc.now a.marks.now a.s e.icb.bytes.now)))))

pub returns-else-allocation_fits : goal.returns-else-allocation_fits
unfolding passes
returns-else-allocation_fits c = let a = c.args in
    let same = c.in-Some.ensures in
    let tag = ap (tag_fits a.k.0) same ∙ sym c.tag_fits.ensures ∙ c.if-not-tag_fits.false in
    rw (← same) (holds tag (holds c.in-Some.entry.entry (c.if-allocation_fits.false ∙ fails _ (sym (c.allocation_fits.ensures a.disc.now) ∙ c.if-allocation_fits.false))))
