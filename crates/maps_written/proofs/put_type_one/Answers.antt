-- `maps_written::put_type_one` meets its contract: four writes, one splice. Assumes nothing.
use Rattle.maps_written.proofs.Writing.{type-one-written}
use Rattle.maps_written.proofs.put_type_one.Goals as goal

pub returns : goal.returns
returns c = type-one-written _ _ _ _ c.requires c.write.ensures c.write-2.ensures
