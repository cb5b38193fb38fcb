-- `bitmap::Bitmap::skip` meets its contract. The invariant: no block of the words before is in this state. Assumes nothing.
use Prim.Native.Nat.{ℕ, ◌+◌, ◌*◌, ◌≤◌, ◌<◌}
use mathlib.Core.Path.{◌≡◌}
use Rattle.bitmap.specs.Bits.{bit_at}
use Rattle.bitmap.specs.State.{state_bit}
use Rattle.bitmap.proofs.Bitmap.skip.Given as goal

abbrev pub invariant-loop-i : goal.invariant-loop-i
invariant-loop-i l = (k : ℕ) → 8 * l.q ≤ k → k < 8 * (l.q + 8 * l.i) → bit_at l.self.bytes.now k ≡ state_bit l.fn.state → ⊥
