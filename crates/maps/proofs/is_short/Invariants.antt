-- `maps::is_short` meets its contract. The invariant: the list is cut short where what is left of it is. The measure is what is left. Assumes nothing.
use Prim.Native.Nat.{◌-◌, ◌≤◌}
use mathlib.Core.Path.{◌≡◌}
use lib.ListN.{length, drop}
use Rattle.maps.specs.Walk.{walk}
use Rattle.maps.specs.Told.{is_short}
use Rattle.maps.proofs.is_short.Given as goal

abbrev pub invariant-loop-at : goal.invariant-loop-at
invariant-loop-at l = (l.at ≤ length l.maps) × (is_short (walk (drop l.at l.maps)) ≡ is_short (walk l.maps))

abbrev pub decreases-loop-at : goal.decreases-loop-at
decreases-loop-at l = length l.maps - l.at
