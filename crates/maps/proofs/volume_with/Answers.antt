-- `maps::volume_with` meets its contract: the struct is the definition's own. Assumes nothing.
use mathlib.Core.Path.{refl}
use Rattle.maps.specs.Kinds.{volume_with}
use Rattle.maps.proofs.volume_with.Goals as goal

pub returns : goal.returns
unfolding volume_with
returns c = refl
