-- `maps_written::put_rewritable` meets its contract: the type 2 map, then field by field. Assumes nothing.
use mathlib.Core.Path.{refl}
use native.Mathlib.Omega.{arith}
use Rattle.fields.specs.Regid.{identifier, regid}
use Rattle.maps.specs.Kinds.{sparable_name}
use Rattle.maps_written.proofs.Writing.{rewritable-written}
use Rattle.maps_written.proofs.put_rewritable.Goals as goal

pub returns : goal.returns
unfolding sparable_name regid identifier
returns c = rewritable-written _ _ _ _ _ _ _ _ _ (omega (arith, c.well_formed)) c.requires.0 c.from.ensures (c.put_type_two.ensures sparable_name refl) c.write.ensures c.write-2.ensures c.write_numbers.ensures
