-- `tag::checksum` meets its contract: the sums of the two parts around byte 4 add up to it.
-- Assumes nothing.
use Rattle.std.proofs.Common.{refl}
use Rattle.tag.proofs.Laws.{checksum-parts}
use Rattle.tag.proofs.checksum.Goals as goal

pub returns : goal.returns
returns c = checksum-parts _ c.sum.ensures c.sum-2.ensures refl
