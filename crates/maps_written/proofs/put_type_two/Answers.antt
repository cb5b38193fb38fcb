-- `maps_written::put_type_two` meets its contract: the bytes are cleared from the third on, then filled field by field. Assumes nothing.
use mathlib.Core.Path.{ap, ◌∙◌}
use Rattle.fields.specs.Bytes.{splice}
use Rattle.maps_written.proofs.Writing.{type-two-cleared, type-two-written}
use Rattle.maps_written.proofs.put_type_two.Goals as goal

pub returns : goal.returns
returns c name e =
    type-two-written _ _ _ _ _ _ (type-two-cleared c.args.map.now _ c.requires.map_len c.clear.ensures)
    (c.write_regid.ensures ∙ ap (splice _ 4) e) c.write.ensures c.write-2.ensures
