use Rattle.vat_icb.proofs.Laws.{left_all}
use Rattle.vat_icb.proofs.FileEntry.extents.Goals as goal

pub returns : goal.returns
returns c = left_all _ _ c.allocation.ensures.0 c.allocation.ensures.1
