-- `vat_scan::can_be_icb` meets its contract: a sector of another identifier is no VAT ICB. Assumes nothing.
use Rattle.vat_scan.proofs.Laws.{icb-other}
use Rattle.vat_scan.proofs.can_be_icb.Goals as goal

pub returns : goal.returns
returns c h marks = icb-other _ marks _ _ _ _ c.sector_of-at.ensures c.read.ensures h
