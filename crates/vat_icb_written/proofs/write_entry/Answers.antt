-- `vat_icb_written::write_entry` meets its contract: a row of splices into zeros (`entry-written`). Assumes nothing.
use Rattle.std.proofs.Common.{◌∙◌}
use Rattle.vat_icb_written.proofs.Laws.{entry-written}
use Rattle.vat_icb_written.proofs.write_entry.Goals as goal

pub returns : goal.returns
returns c =
    entry-written c.args.n _ _ _ _ c.args.front.now _ _ _ _ _ _ _ _ c.requires.front_len
    (c.number.ensures ∙ c.form_of.ensures)
    (c.from.ensures ∙ c.file_bytes.ensures)
    (c.from-2.ensures ∙ c.data_sectors.ensures)
    c.allocation_bytes.ensures
    (c.fill.ensures.after (λ y e. e))
    c.write.ensures
    c.write-2.ensures
    c.write-3.ensures
    c.write-4.ensures
    c.write-5.ensures
    c.write-6.ensures
    c.write-7.ensures
