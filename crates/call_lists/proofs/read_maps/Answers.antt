-- `call_lists::read_maps` meets its contract: each return by the law of its case. Assumes nothing.
use Rattle.call_lists.proofs.Listing.{maps-short, maps-read, maps-refused}
use Rattle.call_lists.proofs.read_maps.Goals as goal

pub returns-then-res-ne-VOLUME : goal.returns-then-res-ne-VOLUME
returns-then-res-ne-VOLUME c = let told = maps-short _ _ c.if-res-ne-VOLUME.true c.from.ensures in record { value = told.0; res_after = told.1 }

pub returns-in-Ok : goal.returns-in-Ok
returns-in-Ok c = let told = maps-read _ _ c.if-res-ne-VOLUME.false c.read_maps.ensures c.in-Ok.is c.put_volume.ensures in record { value = told.0; res_after = told.1 }

pub returns-in-Err : goal.returns-in-Err
returns-in-Err c = let told = maps-refused _ _ c.if-res-ne-VOLUME.false c.read_maps.ensures c.in-Err.is c.from-in-Err.ensures in record { value = told.0; res_after = told.1 }
