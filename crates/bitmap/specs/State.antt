-- The two states of a block (02, slip 10).
use Rattle.std.specs.Prelude.{ℕ}
use Rattle.bitmap.specs.declared.State.{State}
use Rattle.bitmap.specs.declared.State.TheVariants.{Allocated, Free}

-- its bit, "a one meaning unallocated"
abbrev pub state_bit : State → ℕ
state_bit Allocated = 0
state_bit Free = 1
