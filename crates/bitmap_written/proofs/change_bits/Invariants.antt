-- `bitmap_written::change_bits` meets its contract. The invariant: what is left to change gives the whole. Assumes nothing.
use Prim.Native.Nat.{ℕ, ◌-◌, ◌≤◌, ◌<◌}
use mathlib.Core.Path.{◌≡◌}
use lib.ListN.{length}
use Rattle.bitmap.specs.Bits.{bit_at}
use Rattle.bitmap.specs.State.{state_bit}
use Rattle.bitmap_written.specs.Changed.{changed}
use Rattle.bitmap_written.proofs.change_bits.Given as goal

abbrev pub invariant-loop-s : goal.invariant-loop-s
invariant-loop-s l = (l.s ≤ l.end) × (length l.b ≡ length l.initial.b)
    × (changed l.b l.s (l.end - l.s) (state_bit l.state) ≡ changed l.initial.b l.first l.count (state_bit l.state))
    × ((i : ℕ) → l.s ≤ i → i < l.end → bit_at l.b i ≡ 1 - state_bit l.state)

abbrev pub decreases-loop-s : goal.decreases-loop-s
decreases-loop-s l = l.end - l.s
