-- `maps_written::put_write_once` meets its contract: the second map stands in the place of all that follows the first. Assumes nothing.
use mathlib.Core.Path.{refl}
use Rattle.fields.specs.Regid.{identifier, regid}
use Rattle.maps.specs.Kinds.{virtual_name}
use Rattle.maps_written.proofs.Writing.{write-once-written}
use Rattle.maps_written.proofs.put_write_once.Goals as goal

pub returns : goal.returns
unfolding virtual_name regid identifier
returns c = write-once-written _ _ _ _ c.put_type_one.ensures (c.put_type_two.ensures virtual_name refl)
