-- `bitmap_find::fold` meets its contract. The invariant: y has a one where x has k of them in a row. Assumes nothing.
use Prim.Native.Nat.{◌-◌, ◌≤◌}
use Rattle.bitmap_find.specs.Runs.{Folded}
use Rattle.bitmap_find.proofs.fold.Given as goal

abbrev pub invariant-loop-k : goal.invariant-loop-k
invariant-loop-k l = (1 ≤ l.k) × (l.k ≤ l.wanted) × Folded l.x l.k l.y

abbrev pub decreases-loop-k : goal.decreases-loop-k
decreases-loop-k l = l.wanted - l.k
