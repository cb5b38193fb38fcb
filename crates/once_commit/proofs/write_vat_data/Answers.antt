use Rattle.std.proofs.Common.{ap, ◌∙◌, arith}
use Rattle.model.specs.VatWritten.{data_sectors}
use Rattle.disc_writes.proofs.Laws.{writing-next, writing-last, write-there}
use Rattle.once_commit.proofs.write_vat_data.Goals as goal

pub loop-i-preserved : goal.loop-i-preserved
loop-i-preserved c = let l = c.loop-i in
    let end = c.data_sectors-i-end.ensures ∙ ap data_sectors c.count.ensures in
    writing-next _ _ _ _ _ _ _ _ _ _ _ (omega (arith, c.loop-i-test.true, end))
    c.write_data.ensures
    (write-there _ _ _ _ _ c.up_from.ensures c.write_sector.ensures)
    c.write_sector.auto.disc
    c.write_sector.auto.marks
    l.invariant

pub returns : goal.returns
returns c =
    let end = c.data_sectors-i-end.ensures ∙ ap data_sectors c.count.ensures in
    writing-last _ _ _ _ _ _ _ _ _ (omega (arith, c.loop-i-test.false, end)) c.loop-i.invariant
