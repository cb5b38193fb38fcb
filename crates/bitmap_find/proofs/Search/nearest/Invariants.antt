-- `bitmap_find::Search::nearest` meets its contract: its answer is nearest. The invariant: no run begins from `below` up to `from`, and as far as there are
-- blocks above, `below` is no further off than `from`. Assumes nothing.
use Prim.Native.Nat.{◌+◌, ◌-◌, ◌≤◌, ◌<◌}
use Rattle.bitmap_find.specs.Runs.{Clear}
use Rattle.bitmap_find.proofs.Search.nearest.Given as goal

abbrev pub invariant-loop-from : goal.invariant-loop-from
invariant-loop-from l = let m = l.self.bitmap in
    (l.below ≤ l.near) × (l.near ≤ l.from) × (l.from ≤ m.len) × (1 ≤ l.step) × (l.step ≤ 1073741824) × (l.from < m.len → l.near - l.below ≤ l.from - l.near)
    × Clear m.bytes.now m.len l.self.wanted l.below l.from

abbrev pub decreases-loop-from : goal.decreases-loop-from
decreases-loop-from l = l.self.bitmap.len - l.from + l.below
