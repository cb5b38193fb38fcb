-- `vat_icb_written::write_allocation` meets its contract: the file (`embedded-written`), or one extent (`extent-written`). Assumes nothing.
use Rattle.std.proofs.Common.{ℕ, ◌+◌, ltb, sym, ap, ◌∙◌}
use borrow.Author.Tests.{ltb-true, ltb-false}
use Rattle.model.specs.VatWritten.{file_bytes, data_sectors}
use Rattle.vat_icb_written.proofs.Laws.{embedded-written, extent-written}
use Rattle.vat_icb_written.proofs.write_allocation.Goals as goal

pub returns-then-is_embedded : goal.returns-then-is_embedded
returns-then-is_embedded c = let a = c.args in
    let n = c.count-n.ensures in
    let small = ap (λ (m : ℕ). ltb (176 + file_bytes m) 2048) (sym n) ∙ sym c.is_embedded.ensures ∙ c.if-is_embedded.true in
    embedded-written a.k.0 a.vat.now.entries.now _ a.vat.now.previous.0 _ (ltb-true _ _ small) c.requires.rest_len c.write_file.ensures

pub returns : goal.returns
returns c = let a = c.args in
    let n = c.count-n.ensures in
    let long = ap (λ (m : ℕ). ltb (176 + file_bytes m) 2048) (sym n) ∙ sym c.is_embedded.ensures ∙ c.if-is_embedded.false in
    extent-written a.k.0 a.vat.now.entries.now a.rest.now _ _ _ a.vat.now.previous.0 _ _ (ltb-false _ _ long) c.requires.rest_len
    (c.file_bytes.ensures ∙ ap file_bytes n) (c.data_sectors.ensures ∙ ap data_sectors n)
    (c.fill.ensures.after (λ y e. e)) c.write.ensures c.write-2.ensures
