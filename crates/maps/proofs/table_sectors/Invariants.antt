-- `maps::table_sectors` meets its contract. The invariant: the first i places are read, the others 0. Assumes nothing.
use Prim.Native.Nat.{◌≤◌}
use mathlib.Core.Path.{◌≡◌}
use Rattle.maps.specs.Kinds.{words, used}
use Rattle.maps.proofs.table_sectors.Given as goal

abbrev pub invariant-loop-i : goal.invariant-loop-i
invariant-loop-i l = (l.i ≤ l.n) × (l.sectors ≡ used l.i (words l.map 48 4))
