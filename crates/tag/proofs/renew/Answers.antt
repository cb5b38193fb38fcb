-- `tag::renew` meets its contract (`renew-told`). Assumes nothing.
use Rattle.tag.proofs.Renewed.{renew-told}
use Rattle.tag.proofs.renew.Goals as goal

pub returns : goal.returns
returns c = renew-told _ _ _ _ _ c.end_of.ensures c.crc.ensures c.write.ensures c.checksum.ensures
