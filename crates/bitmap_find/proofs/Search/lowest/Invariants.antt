-- `bitmap_find::Search::lowest` meets its contract. The invariant: the blocks from `begin` up to s are free, and no run begins below
-- `begin`. Assumes nothing.
use Prim.Native.Nat.{◌+◌, ◌-◌}
use Rattle.bitmap_find.proofs.Rows.{Kept}
use Rattle.bitmap_find.proofs.Search.lowest.Given as goal

abbrev pub invariant-loop-s : goal.invariant-loop-s
invariant-loop-s l = Kept l.self.bitmap.bytes.now l.self.bitmap.len l.self.wanted l.from l.begin l.s

abbrev pub decreases-loop-s : goal.decreases-loop-s
decreases-loop-s l = l.self.bitmap.len + 64 - l.s
