-- `maps::are_apart` meets its contract. The invariant: what is left answers for the whole. Assumes nothing.
use mathlib.Core.Path.{◌≡◌}
use lib.ListN.{take, drop}
use Rattle.maps.specs.Kinds.{tables_apart}
use Rattle.maps.proofs.are_apart.Given as goal

abbrev pub invariant-loop-i : goal.invariant-loop-i
invariant-loop-i l = tables_apart (drop l.i (take l.n l.sectors)) ≡ tables_apart (take l.n l.sectors)
