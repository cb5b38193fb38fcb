-- `blocks::is_write_once` meets its contract, by the kind of the volume. Assumes nothing.
use mathlib.Core.Path.{refl, ap, ◌∙◌}
use Rattle.maps.proofs.Reading.{read-other-length}
use Rattle.maps.specs.Kinds.{volume_read}
use Rattle.model.specs.Examine.{setting}
use Rattle.blocks.proofs.Laws.{kind-once, kind-rewritable}
use Rattle.blocks.proofs.is_write_once.Goals as goal

pub returns-then-maps-ne-REWRITABLE : goal.returns-then-maps-ne-REWRITABLE
returns-then-maps-ne-REWRITABLE c s l = read-other-length _ c.if-maps-ne-REWRITABLE.true (λ p is. kind-once (setting c.args.maps.now s l) refl is)

pub returns-in-WriteOnce : goal.returns-in-WriteOnce
returns-in-WriteOnce c s l = kind-once (setting c.args.maps.now s l) (c.volume_read-volume.ensures ∙ ap volume_read c.read_maps.ensures) c.in-WriteOnce.is

pub returns-in-Rewritable : goal.returns-in-Rewritable
returns-in-Rewritable c s l = kind-rewritable (setting c.args.maps.now s l) (c.volume_read-volume.ensures ∙ ap volume_read c.read_maps.ensures) c.in-Rewritable.is
