-- `bitmap::Bitmap::last_in` meets its contract. The invariant: no block from e up to `to` is in this state. Assumes nothing.
use Prim.Native.Nat.{ℕ, ◌≤◌, ◌<◌}
use mathlib.Core.Path.{◌≡◌}
use Rattle.bitmap.specs.Bits.{bit_at}
use Rattle.bitmap.specs.State.{state_bit}
use Rattle.bitmap.proofs.Bitmap.last_in.Given as goal

abbrev pub invariant-loop-e : goal.invariant-loop-e
invariant-loop-e l = (l.e ≤ l.to) × ((i : ℕ) → l.from ≤ i → l.e ≤ i → i < l.to → bit_at l.self.bytes.now i ≡ state_bit l.state → ⊥)

abbrev pub decreases-loop-e : goal.decreases-loop-e
decreases-loop-e l = l.e
