-- `maps::is_absent` meets its contract. The invariant: what is left answers for the whole. Assumes nothing.
use mathlib.Core.Path.{◌≡◌}
use lib.ListN.{take, drop}
use Rattle.maps.specs.Kinds.{absent}
use Rattle.maps.proofs.is_absent.Given as goal

abbrev pub invariant-loop-i : goal.invariant-loop-i
invariant-loop-i l = absent l.sector (drop l.i (take l.n l.sectors)) ≡ absent l.sector (drop l.from (take l.n l.sectors))
