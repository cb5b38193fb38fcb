-- `bitmap::Bitmap::count_free` meets its contract. The invariants: the free blocks of the words, and of the bytes, before are counted. Assumes nothing.
use Prim.Native.Nat.{◌*◌, ◌≤◌}
use mathlib.Core.Path.{◌≡◌}
use Rattle.bitmap.specs.Bits.{free_from}
use Rattle.bitmap.proofs.Bitmap.count_free.Given as goal

abbrev pub invariant-loop-i : goal.invariant-loop-i
invariant-loop-i l = (l.free ≡ free_from l.self.bytes.now 0 (64 * l.i)) × (l.free ≤ 64 * l.i)

abbrev pub invariant-loop-q : goal.invariant-loop-q
invariant-loop-q l = (l.free ≡ free_from l.self.bytes.now 0 (8 * l.q)) × (l.free ≤ 8 * l.q)
