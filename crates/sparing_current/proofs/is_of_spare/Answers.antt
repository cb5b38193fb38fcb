-- `sparing_current::is_of_spare` meets its contract. Assumes nothing.
use Rattle.sparing_current.proofs.Held.{spare-found, start-asks}
use Rattle.sparing_current.proofs.is_of_spare.Goals as goal

pub sector_of-place-requires : goal.sector_of-place-requires
sector_of-place-requires c = (start-asks _ _ c.packet_of-first.ensures c.requires.1).1

pub returns : goal.returns
returns c = spare-found _ _ _ _ c.count_held-n.ensures c.packet_of-first.ensures c.sector_of-place.ensures c.is_unmapped.ensures
