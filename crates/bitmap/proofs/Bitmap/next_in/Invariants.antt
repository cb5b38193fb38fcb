-- `bitmap::Bitmap::next_in` meets its contract. The invariant: no block from `from` up to s is in this state. Assumes nothing.
use Prim.Native.Nat.{ℕ, ◌-◌, ◌≤◌, ◌<◌}
use mathlib.Core.Path.{◌≡◌}
use Rattle.bitmap.specs.Bits.{bit_at}
use Rattle.bitmap.specs.State.{state_bit}
use Rattle.bitmap.proofs.Bitmap.next_in.Given as goal

abbrev pub invariant-loop-s : goal.invariant-loop-s
invariant-loop-s l = (l.from ≤ l.s) × ((i : ℕ) → l.from ≤ i → i < l.s → i < l.to → bit_at l.self.bytes.now i ≡ state_bit l.state → ⊥)

abbrev pub decreases-loop-s : goal.decreases-loop-s
decreases-loop-s l = l.to - l.s
